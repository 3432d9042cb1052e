-- The verdict, one row on: a row with no fault, and the first fault. Assumes nothing.
use mathlib.Core.Path.{◌≡◌, refl, ◌∙◌}
use mathlib.Core.Bool.{Bool, true, false, not, ◌&&◌}
use mathlib.Core.List.{List, [], ◌∷◌}
use Prim.Native.Nat.{ℕ, suc, ◌≤◌, ◌<◌}
use native.Mathlib.Decide.{le_ind}
use lib.Dec.{leb}
use lib.ListN.{length}
use Rattle.rules.specs.declared.kind.Kind.{Kind}
use Rattle.rules.specs.declared.refusal.Refusal.{Refusal}
use Rattle.rules.specs.declared.refusal.Refusal.TheVariants.{WrongField, Misplaced, TooManyFunctions, TooManyParts}
use Rattle.rules.specs.Verdict.{Verdict, Accepted, Refused}
use Rattle.rules.specs.Limits.{max_functions}
use Rattle.rules.specs.Row.{Table, kind_at, operands_at, fields_fit_lem}
use Rattle.rules.specs.Scan.{Open, open_at, regions, functions, is_function_lem}
use Rattle.rules.specs.Refusal.{refuse_if_lem, and_then}
use Rattle.rules.specs.Check.{misplaced_in, one_too_many, row_verdict, rows_verdict, calls_verdict, table_verdict}

-- ---- one row
causes : (wrong misplaced functions parts : Bool) → Verdict
causes a b c d =
    and_then (refuse_if_lem a WrongField) (and_then (refuse_if_lem b Misplaced) (and_then (refuse_if_lem c TooManyFunctions) (refuse_if_lem d TooManyParts)))

module _ (t : Table) (i : ℕ) {k : Kind} {fs : List Open} (q : kind_at t i ≡ k) (s : open_at t i ≡ fs) where
  row_is : (a b c d : Bool) → fields_fit_lem k (operands_at t i) ≡ a → misplaced_in k fs ≡ b → is_function_lem k && leb max_functions (functions t i) ≡ c
      → one_too_many k (regions t i) fs ≡ d → row_verdict t i ≡ causes (not a) b c d
  unfolding row_verdict causes
  row_is a b c d p m f x = rw (q, s, p, m, f, x)

-- its first cause: 3, then 4, 5 and 6
pub row-wrong : (t : Table) (i : ℕ) → fields_fit_lem (kind_at t i) (operands_at t i) ≡ false → row_verdict t i ≡ Refused WrongField
unfolding causes
row-wrong t i e = row_is t i refl refl false _ _ _ e refl refl refl

module _ (t : Table) (i : ℕ) {k : Kind} {fs : List Open} (q : kind_at t i ≡ k) (s : open_at t i ≡ fs) (p : fields_fit_lem k (operands_at t i) ≡ true) where
  pub row-misplaced : misplaced_in k fs ≡ true → row_verdict t i ≡ Refused Misplaced
  unfolding causes
  row-misplaced m = row_is t i q s true true _ _ p m refl refl

  module _ (m : misplaced_in k fs ≡ false) where
    pub row-functions : is_function_lem k && leb max_functions (functions t i) ≡ true → row_verdict t i ≡ Refused TooManyFunctions
    unfolding causes
    row-functions f = row_is t i q s true false true _ p m f refl

    module _ (f : is_function_lem k && leb max_functions (functions t i) ≡ false) where
      pub row-parts : one_too_many k (regions t i) fs ≡ true → row_verdict t i ≡ Refused TooManyParts
      unfolding causes
      row-parts x = row_is t i q s true false false true p m f x

      pub row-accepted : one_too_many k (regions t i) fs ≡ false → row_verdict t i ≡ Accepted
      unfolding causes
      row-accepted x = row_is t i q s true false false false p m f x

-- ---- all rows
pub rows-one : (t : Table) (i : ℕ) → rows_verdict t i ≡ Accepted → rows_verdict t (suc i) ≡ row_verdict t i
unfolding rows_verdict
rows-one t i g = rw g

pub rows_stay : (t : Table) (i : ℕ) {c : Refusal} → rows_verdict t i ≡ Refused c → (j : ℕ) → i ≤ j → rows_verdict t j ≡ Refused c
unfolding rows_verdict
rows_stay t i {c} e j h = le_ind (λ m. rows_verdict t m ≡ Refused c) e (λ m l p. rw p) j h

pub table-refused : (t : Table) (i : ℕ) {c : Refusal} → rows_verdict t i ≡ Accepted → i < length t → row_verdict t i ≡ Refused c → table_verdict t ≡ Refused c
unfolding table_verdict
table-refused t i g l r = rw (rows_stay t (suc i) (rows-one t i g ∙ r) (length t) l)

-- the end of the table
pub left_open : (t : Table) {f : Open} {fs : List Open} → rows_verdict t (length t) ≡ Accepted → open_at t (length t) ≡ f ∷ fs → table_verdict t ≡ Refused Misplaced
unfolding table_verdict
left_open t g s = rw (g, s)

pub none_open : (t : Table) → rows_verdict t (length t) ≡ Accepted → open_at t (length t) ≡ [] → table_verdict t ≡ calls_verdict t (length t)
unfolding table_verdict
none_open t g s = rw (g, s)

module _ (t : Table) (i : ℕ) (g : rows_verdict t i ≡ Accepted) where
  -- cause 3
  pub wrong-refused : i < length t → fields_fit_lem (kind_at t i) (operands_at t i) ≡ false → table_verdict t ≡ Refused WrongField
  wrong-refused l e = table-refused t i g l (row-wrong t i e)

  module _ {k : Kind} {fs : List Open} (q : kind_at t i ≡ k) (s : open_at t i ≡ fs) (p : fields_fit_lem k (operands_at t i) ≡ true) where
    pub row-good : misplaced_in k fs ≡ false → is_function_lem k && leb max_functions (functions t i) ≡ false → one_too_many k (regions t i) fs ≡ false
        → rows_verdict t (suc i) ≡ Accepted
    row-good m f x = rows-one t i g ∙ row-accepted t i q s p m f x

    -- causes 4, 5 and 6
    pub misplaced-refused : i < length t → misplaced_in k fs ≡ true → table_verdict t ≡ Refused Misplaced
    misplaced-refused l m = table-refused t i g l (row-misplaced t i q s p m)

    pub functions-refused : i < length t → misplaced_in k fs ≡ false → is_function_lem k && leb max_functions (functions t i) ≡ true
        → table_verdict t ≡ Refused TooManyFunctions
    functions-refused l m f = table-refused t i g l (row-functions t i q s p m f)

    pub parts-refused : i < length t → misplaced_in k fs ≡ false → is_function_lem k && leb max_functions (functions t i) ≡ false
        → one_too_many k (regions t i) fs ≡ true → table_verdict t ≡ Refused TooManyParts
    parts-refused l m f x = table-refused t i g l (row-parts t i q s p m f x)
