-- What a line says of a row: regions by their numbers in the function, values, the rows that opened what is open, links.
use Rattle.std.specs.Prelude.{ℕ, ◌+◌, ◌/◌, ◌≤◌, ◌<◌, ◌≡◌, Bool, true, false, List, length, get_or, eqb}
use Rattle.rules.specs.Limits.{max_rows, max_functions, max_regions}
use Rattle.rules.specs.declared.kind.Kind.{Kind}
use Rattle.rules.specs.declared.kind.Kind.TheVariants.{Function, Do, If, Else, Loop, End, Break, Continue, Call, Unknown}
use Rattle.rules.specs.Row.{Table, table_of, kind_at}
use Rattle.rules.specs.Scan.{open_at, regions, region_of, body_region, opener_of, around, from_loop, local, end_of, function_count, function_row}
use Rattle.rules.specs.Value.{value}
use Rattle.rules.specs.Check.{is_outside}
use Rattle.rules.specs.Harden.{own_region}
use Rattle.rules.specs.Links.{is_opening, else_link}
use Rattle.layout.specs.declared.spot.Spot.{Spot}
use Rattle.layout.specs.Number.{value_of}

-- a region of the function that has this body
pub record Near (region body : ℕ) : Type 0 where
  pub low : body ≤ region
  pub high : region < body + max_regions

-- row i stands in a function; in a loop
pub record Inside (bs : List ℕ) (i : ℕ) : Type 0 where
  pub row : i < length bs / 6
  pub within : is_outside (open_at (table_of bs) i) ≡ false

pub record InLoop (bs : List ℕ) (i : ℕ) : Type 0 where
  pub row : i < length bs / 6
  pub within : is_outside (from_loop (open_at (table_of bs) i)) ≡ false

-- row i opens something; a region of the function that it stands in
pub record Opens (bs : List ℕ) (i : ℕ) : Type 0 where
  pub row : i < length bs / 6
  pub opening : is_opening (kind_at (table_of bs) i) ≡ true

pub record Grows (bs : List ℕ) (i : ℕ) : Type 0 where
  pub row : i < length bs / 6
  pub near : Near (regions (table_of bs) i) (body_region (open_at (table_of bs) i))

-- a row's own region and value
pub record SpotIs (bs : List ℕ) (i : ℕ) (s : Spot) : Type 0 where
  pub r_is : s.r ≡ own_region (open_at (table_of bs) i)
  pub e_is : s.e ≡ value_of (table_of bs) i
  pub low : s.e ≤ 4000

-- the number in the function of the region that row i opens
unfoldable pub child_of_lem : Table → (i : ℕ) → ℕ
child_of_lem t i = local (open_at t i) (regions t i)

-- row i stands in its function's body and in no other part
unfoldable pub in_body : Table → (i : ℕ) → Bool
in_body t i = eqb (region_of (open_at t i)) (body_region (open_at t i))

abbrev pub is_loop_lem : Kind → Bool
is_loop_lem Function = false
is_loop_lem Do = false
is_loop_lem If = false
is_loop_lem Else = false
is_loop_lem Loop = true
is_loop_lem End = false
is_loop_lem Break = false
is_loop_lem Continue = false
is_loop_lem Call = false
is_loop_lem Unknown = false

-- row o opened the part that row i stands in
pub record OpenerIs (bs : List ℕ) (i o : ℕ) : Type 0 where
  pub is : o ≡ opener_of (open_at (table_of bs) i)
  pub opens : Opens bs o
  pub before : o < i

-- row o is the row of the innermost loop around row i
pub record LoopIs (bs : List ℕ) (i o : ℕ) : Type 0 where
  pub is : o ≡ opener_of (from_loop (open_at (table_of bs) i))
  pub opens : Opens bs o
  pub inside : Inside bs o
  pub grows : Grows bs o
  pub before : o < i
  pub open_is : open_at (table_of bs) o ≡ around (from_loop (open_at (table_of bs) i))
  pub same_body : body_region (open_at (table_of bs) o) ≡ body_region (open_at (table_of bs) i)
  pub region_is : region_of (from_loop (open_at (table_of bs) i)) ≡ regions (table_of bs) o

-- row o opens function n; some function
pub record CalleeIs (bs : List ℕ) (n o : ℕ) : Type 0 where
  pub known : n < function_count (table_of bs)
  pub is : o ≡ function_row (table_of bs) n
  pub opens : Opens bs o

pub record Head (bs : List ℕ) (o : ℕ) : Type 0 where
  pub number : ℕ
  pub it : CalleeIs bs number o

-- what the body of the function that row o opens ends at
unfoldable pub end_of_body : Table → (o : ℕ) → ℕ
end_of_body t o = value t (regions t o) (end_of t o) + 1

-- the links of the table: word i is the end row of what row i opens; the else row of the if in row i, or 0; word n is the row of
-- function n
pub record Ends (bs ends : List ℕ) : Type 0 where
  pub room : max_rows ≤ length ends
  pub each : (i : ℕ) → i < length (table_of bs) → is_opening (kind_at (table_of bs) i) ≡ true → get_or ends i 0 ≡ end_of (table_of bs) i

pub record Elses (bs elses : List ℕ) : Type 0 where
  pub room : max_rows ≤ length elses
  pub each : (i : ℕ) → i < length (table_of bs) → kind_at (table_of bs) i ≡ If → get_or elses i 0 ≡ else_link (table_of bs) i

pub record Heads (bs heads : List ℕ) : Type 0 where
  pub room : max_functions ≤ length heads
  pub each : (n : ℕ) → n < function_count (table_of bs) → get_or heads n 0 ≡ function_row (table_of bs) n
