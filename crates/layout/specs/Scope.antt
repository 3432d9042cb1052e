-- Where each row stands: what the rows before it have opened, and the map of these scopes.
use Rattle.std.specs.Prelude.{ℕ, suc, ◌+◌, ◌*◌, ◌/◌, ◌≤◌, ◌<◌, ◌≡◌, List, length, get_or, set}
use Rattle.rules.specs.Verdict.{Accepted}
use Rattle.rules.specs.Row.{Table, table_of}
use Rattle.rules.specs.Scan.{Open, open_at, regions, region_of, body_region, opener_of, from_loop}
use Rattle.rules.specs.Check.{verdict_of}
use Rattle.rules.specs.Harden.{line_of}
use Rattle.layout.specs.declared.scope.Scope.{Scope}
use Rattle.rules.specs.Limits.{max_rows}

-- a scope for each row and for the end of the table
abbrev pub map_scopes : ℕ
map_scopes = max_rows + 1

-- the scope of row 0: nothing is open
abbrev pub outermost : Scope
outermost = record { opened = 0; region = 0; body = 0; opener = 0; repeat = 0; line = 0 }

-- the scope that the map has at index i, and the map with a scope put there
abbrev pub scope_at : List Scope → (i : ℕ) → Scope
scope_at m i = get_or m i outermost

abbrev pub put_scope : List Scope → (i : ℕ) → Scope → List Scope
put_scope m i p = set m i p

-- the scope where g regions are opened, the parts fs are open and l lines are written
abbrev pub scoped : (g : ℕ) → List Open → (l : ℕ) → Scope
scoped g fs l =
    record {
      opened = g;
      region = region_of fs;
      body = body_region fs;
      opener = opener_of fs;
      repeat = opener_of (from_loop fs);
      line = l;
    }

-- the scope of row i
unfoldable pub scope_of : Table → (i : ℕ) → Scope
scope_of t i = scoped (regions t i) (open_at t i) (line_of t i)

-- the scope of the next row, by what this row does to the open parts, and where it writes so many lines
abbrev pub passed : Scope → (lines : ℕ) → Scope
passed p n =
    record { opened = p.opened; region = p.region; body = p.body; opener = p.opener; repeat = p.repeat; line = p.line + n }

abbrev pub entered : Scope → (row : ℕ) → Scope
entered p i =
    record { opened = p.opened + 1; region = p.opened; body = p.opened; opener = i; repeat = p.repeat; line = p.line }

abbrev pub forked : Scope → (row : ℕ) → Scope
forked p i =
    record { opened = p.opened + 1; region = p.opened; body = p.body; opener = i; repeat = p.repeat; line = p.line + 1 }

abbrev pub looped : Scope → (row : ℕ) → Scope
looped p i =
    record { opened = p.opened + 1; region = p.opened; body = p.body; opener = i; repeat = i; line = p.line + 1 }

abbrev pub turned : Scope → Scope
turned p =
    record {
      opened = p.opened + 1;
      region = p.opened;
      body = p.body;
      opener = p.opener;
      repeat = p.repeat;
      line = p.line + 1;
    }

abbrev pub closed : Scope → (opener : Scope) → Scope
closed p o =
    record { opened = p.opened; region = o.region; body = o.body; opener = o.opener; repeat = o.repeat; line = p.line + 1 }

-- the map has the scopes of the rows before row n
pub record Mapped (bs : List ℕ) (m : List Scope) (n : ℕ) : Type 0 where
  pub each : (i : ℕ) → i < n → scope_at m i ≡ scope_of (table_of bs) i

-- the table is accepted, and the map has the scope of each row and of the table's end
pub record Surveyed (bs : List ℕ) (m : List Scope) : Type 0 where
  pub accepted : verdict_of bs ≡ Accepted
  pub few_rows : length bs / 6 ≤ max_rows
  pub room : map_scopes ≤ length m
  pub mapped : Mapped bs m (suc (length bs / 6))

-- the scope of row i of an accepted table, with what its numbers keep to
pub record Stands (bs : List ℕ) (i : ℕ) (here : Scope) : Type 0 where
  pub accepted : verdict_of bs ≡ Accepted
  pub few_rows : length bs / 6 ≤ max_rows
  pub row : i ≤ length bs / 6
  pub is : here ≡ scope_of (table_of bs) i
  pub opened_low : here.opened ≤ i
  pub region_low : here.region ≤ i
  pub opener_low : here.opener ≤ i
  pub repeat_low : here.repeat ≤ i
  pub line_low : here.line ≤ 2 * i
