-- What is open at each row: parts and their regions, functions, and the row that closes what a row opens.
use Rattle.std.specs.Prelude.{ℕ, zero, suc, ◌-◌, Bool, true, false, cond, ◌&&◌, List, [], ◌∷◌, eqb, ltb, length}
use Rattle.rules.specs.declared.kind.Kind.{Kind}
use Rattle.rules.specs.declared.kind.Kind.TheVariants.{Function, Do, If, Else, Loop, End, Break, Continue, Call, Unknown}
use Rattle.rules.specs.Bytes.{first}
use Rattle.rules.specs.Row.{Table, kind_at}

-- 01, "A region is a function's body, a then part, an else part or a loop body."
pub data Part : Type 0 where
  body then_part else_part loop_body : Part

-- An open part: the row that opened it (for an else part, the row of its if) and its region. Regions are numbered over the
-- whole table here; `local` gives the number inside the function, which is the one that lines name.
pub record Open : Type 0 where
  pub part : Part
  pub opener : ℕ
  pub region : ℕ

-- what a row does to the open parts
pub data Shape : Type 0 where
  pushes : Part → Shape
  turns closes stays : Shape

abbrev pub shape_of : Kind → Shape
shape_of Function = pushes body
shape_of Do = stays
shape_of If = pushes then_part
shape_of Else = turns
shape_of Loop = pushes loop_body
shape_of End = closes
shape_of Break = stays
shape_of Continue = stays
shape_of Call = stays
shape_of Unknown = stays

-- the else part takes the place of the then part
abbrev pub turned : Part → Part
turned body = body
turned then_part = else_part
turned else_part = else_part
turned loop_body = loop_body

-- the regions opened, and the open parts, after row i, where g regions were opened and the parts fs were open before it
abbrev pub regions_after : Shape → (g : ℕ) → ℕ
regions_after (pushes p) g = suc g
regions_after turns g = suc g
regions_after closes g = g
regions_after stays g = g

abbrev pub open_after_lem : Shape → (i g : ℕ) → List Open → List Open
open_after_lem (pushes p) i g fs = record { part = p; opener = i; region = g } ∷ fs
open_after_lem turns i g [] = []
open_after_lem turns i g (f ∷ fs) = record { part = turned f.part; opener = f.opener; region = g } ∷ fs
open_after_lem closes i g [] = []
open_after_lem closes i g (f ∷ fs) = fs
open_after_lem stays i g fs = fs

-- "in the order they open": the regions opened before row i, in the whole table
unfoldable pub regions : Table → ℕ → ℕ
regions t zero = zero
regions t (suc i) = regions_after (shape_of (kind_at t i)) (regions t i)

-- the open parts before row i, the innermost first and the function's body last
unfoldable pub open_at : Table → ℕ → List Open
open_at t zero = []
open_at t (suc i) = open_after_lem (shape_of (kind_at t i)) i (regions t i) (open_at t i)

-- what the open parts fs say: the innermost part, the row that opened it and its region; the parts around it; the body's region
abbrev pub part_of : List Open → Part
part_of [] = body
part_of (f ∷ fs) = f.part

abbrev pub opener_of : List Open → ℕ
opener_of [] = 0
opener_of (f ∷ fs) = f.opener

abbrev pub region_of : List Open → ℕ
region_of [] = 0
region_of (f ∷ fs) = f.region

abbrev pub around : List Open → List Open
around [] = []
around (f ∷ fs) = fs

abbrev pub body_region : List Open → ℕ
body_region [] = 0
body_region (f ∷ []) = f.region
body_region (f ∷ h ∷ fs) = body_region (h ∷ fs)

-- "Regions are numbered in each function from 0"
abbrev pub local : List Open → (g : ℕ) → ℕ
local fs g = g - body_region fs

-- the open parts from the body of the innermost loop on; none where no loop is open
abbrev pub is_loop_body : Part → Bool
is_loop_body body = false
is_loop_body then_part = false
is_loop_body else_part = false
is_loop_body loop_body = true

abbrev pub from_loop : List Open → List Open
from_loop [] = []
from_loop (f ∷ fs) =
    let rest = from_loop fs in
    cond (is_loop_body f.part) (f ∷ fs) rest

-- row i is what opened the innermost part
abbrev pub is_opener : ℕ → List Open → Bool
is_opener i [] = false
is_opener i (f ∷ fs) = eqb f.opener i

abbrev pub is_end_lem : Kind → Bool
is_end_lem Function = false
is_end_lem Do = false
is_end_lem If = false
is_end_lem Else = false
is_end_lem Loop = false
is_end_lem End = true
is_end_lem Break = false
is_end_lem Continue = false
is_end_lem Call = false
is_end_lem Unknown = false

abbrev pub is_else : Kind → Bool
is_else Function = false
is_else Do = false
is_else If = false
is_else Else = true
is_else Loop = false
is_else End = false
is_else Break = false
is_else Continue = false
is_else Call = false
is_else Unknown = false

abbrev pub is_function_lem : Kind → Bool
is_function_lem Function = true
is_function_lem Do = false
is_function_lem If = false
is_function_lem Else = false
is_function_lem Loop = false
is_function_lem End = false
is_function_lem Break = false
is_function_lem Continue = false
is_function_lem Call = false
is_function_lem Unknown = false

-- row j is the end, or the else, of what row i opens
abbrev pub is_end_of : Table → (i j : ℕ) → Bool
is_end_of t i j = is_end_lem (kind_at t j) && is_opener i (open_at t j)

abbrev pub is_else_of : Table → (i j : ℕ) → Bool
is_else_of t i j = is_else (kind_at t j) && is_opener i (open_at t j)

-- the end row of what row i opens; its else row. Where there is none, a number that is not below the table's length
unfoldable pub end_of : Table → ℕ → ℕ
end_of t i = first (is_end_of t i) (length t - i) (suc i)

unfoldable pub else_of : Table → ℕ → ℕ
else_of t i = first (is_else_of t i) (length t - i) (suc i)

abbrev pub has_else : Table → ℕ → Bool
has_else t i = ltb (else_of t i) (length t)

-- the functions opened before row i
unfoldable pub functions : Table → ℕ → ℕ
functions t zero = zero
functions t (suc i) = cond (is_function_lem (kind_at t i)) (suc (functions t i)) (functions t i)

abbrev pub function_count : Table → ℕ
function_count t = functions t (length t)

-- "number of the function, from 0 in table order": the row that opens function n
unfoldable pub function_row : Table → ℕ → ℕ
function_row t n = first (λ i. is_function_lem (kind_at t i) && eqb (functions t i) n) (length t) 0
