-- Where the pass stands before a row: what is open there, as numbers and bytes. Assumes nothing: these are definitions.
use Rattle.std.specs.Prelude.{ℕ, zero, suc, ◌+◌, ◌-◌, ◌≤◌, ◌≡◌, cond, List, [], ◌∷◌, eqb, length, get_or}
use Rattle.rules.specs.Verdict.{Accepted}
use Rattle.rules.specs.Limits.{max_functions, max_constructs, max_regions}
use Rattle.rules.specs.Row.{table_of}
use Rattle.rules.specs.Scan.{Part, body, then_part, else_part, loop_body, Open, regions, open_at, body_region, functions}
use Rattle.rules.specs.Check.{rows_verdict}
use Rattle.scan.specs.declared.open.Standing.{Standing}

-- the byte of an open part: the kind byte of the row that opened it
abbrev pub part_byte : Part → ℕ
part_byte body = 0x01
part_byte then_part = 0x03
part_byte else_part = 0x04
part_byte loop_body = 0x05

-- the bytes ps begin with those of the open parts fs, the function's body first
abbrev pub Spells : (ps : List ℕ) → List Open → Type 0
Spells ps [] = Unit {0}
Spells ps (f ∷ fs) = (get_or ps (length fs) 0 ≡ part_byte f.part) × Spells ps fs

-- the outermost part is a function's body
abbrev pub Rooted : List Open → Type 0
Rooted [] = Unit {0}
Rooted (f ∷ []) = f.part ≡ body
Rooted (f ∷ h ∷ fs) = Rooted (h ∷ fs)

-- of g regions in the whole table, o are opened in the running function
abbrev pub Opened : (g o : ℕ) → List Open → Type 0
Opened g o [] = Unit {0}
Opened g o (f ∷ fs) = g ≡ body_region (f ∷ fs) + o

pub record Parts (fs : List Open) (g : ℕ) (s : Standing) (ps : List ℕ) : Type 0 where
  pub depth_is : length fs ≡ s.depth
  pub spelt : Spells ps fs
  pub rooted : Rooted fs
  pub opened_are : Opened g s.opened fs

-- before row i of the table that the bytes bs spell, where no row before it has a fault
pub record Stands (bs : List ℕ) (i : ℕ) (s : Standing) (ps : List ℕ) : Type 0 where
  pub good : rows_verdict (table_of bs) i ≡ Accepted
  pub parts : Parts (open_at (table_of bs) i) (regions (table_of bs) i) s ps
  pub count_is : functions (table_of bs) i ≡ s.count

-- the loop bodies among the first d bytes
unfoldable pub loop_bytes : List ℕ → (d : ℕ) → ℕ
loop_bytes ps zero = 0
loop_bytes ps (suc d) =
    let rest = loop_bytes ps d in
    cond (eqb (get_or ps d 0) 0x05) (suc rest) rest

-- and once the last of them is closed
unfoldable pub loops_without_lem : (part loops : ℕ) → ℕ
loops_without_lem part loops = cond (eqb part 0x05) (loops - 1) loops

-- what holds of the numbers and bytes, whatever the table: at most a body and 16 ifs and loops are open
pub record Sane (s : Standing) (ps : List ℕ) : Type 0 where
  pub long : length ps ≡ max_constructs + 1
  pub deep : s.depth ≤ max_constructs + 1
  pub loops_are : loop_bytes ps s.depth ≡ s.loops
  pub loops_low : s.loops ≤ s.depth
  pub regions_low : s.opened ≤ max_regions
  pub functions_low : s.count ≤ max_functions

abbrev pub none : Standing
none = record { depth = 0; loops = 0; opened = 0; count = 0 }
