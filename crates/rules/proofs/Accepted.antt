-- What "this table is accepted" says of each of its rows. Assumes nothing.
use mathlib.Core.Logic.{◌⊎◌, inl, inr}
use mathlib.Core.Path.{◌≡◌, refl, sym, ap, ◌∙◌}
use mathlib.Core.Bool.{Bool, true, false}
use mathlib.Core.List.{List, [], ◌∷◌}
use Prim.Native.Nat.{ℕ, zero, suc, ◌*◌, ◌/◌, ◌%◌, ◌≤◌, ◌<◌}
use native.Mathlib.Nat.{eq-or-lt_of_le, not-suc-le-zero}
use native.Mathlib.Omega.{arith}
use lib.ListN.{length}
use lib.Dec.{eqb}
use borrow.Author.Tests.{eqb-true, eqb-false, ltb-false}
use Rattle.rules.specs.declared.refusal.Refusal.{Refusal}
use Rattle.rules.specs.declared.refusal.Refusal.TheVariants.{NoWholeRows, TooManyRows, WrongField, Misplaced, TooManyFunctions, TooManyParts, NoSuchFunction}
use Rattle.rules.specs.Verdict.{Verdict, Accepted, Refused}
use Rattle.rules.specs.Limits.{max_rows}
use Rattle.rules.specs.Row.{Table, table_of, rows_from, row_width, kind_at, operands_at, fields_fit_lem}
use Rattle.rules.specs.Scan.{Open, open_at}
use Rattle.rules.specs.Refusal.{refuse_if_lem, and_then, is_accepted}
use Rattle.rules.specs.Check.{no_whole_rows, too_many_rows, wrong_field, is_outside, misplaced_in, misplaced, left_open_lem, too_many_functions, too_many_parts, no_such_function, row_verdict, rows_verdict, calls_verdict, table_verdict, verdict_of}
use Rattle.std.proofs.lemmas.Bool.{not-false, or_parts}
use Rattle.rules.proofs.Logic.{clash}

-- what one row of an accepted table is
pub record ProperRow (t : Table) (i : ℕ) : Type 0 where
  pub fits : fields_fit_lem (kind_at t i) (operands_at t i) ≡ true
  pub placed : misplaced_in (kind_at t i) (open_at t i) ≡ false
  pub few_functions : too_many_functions t i ≡ false
  pub few_parts : too_many_parts t i ≡ false

-- what an accepted table is
pub record Proper (t : Table) : Type 0 where
  pub some_row : 0 < length t
  pub few_rows : length t ≤ max_rows
  pub rows : (i : ℕ) → i < length t → ProperRow t i
  pub closed : open_at t (length t) ≡ []
  pub calls : (i : ℕ) → i < length t → no_such_function t i ≡ false

-- ---- verdicts
is-refused : Verdict → Bool
is-refused Accepted = false
is-refused (Refused r) = true

pub refused-not : {A : Type 0} {r : Refusal} → Refused r ≡ Accepted → A
unfolding is-refused
refused-not e = clash {b = true} refl (sym (ap is-refused (sym e)))

pub then-left : (v w : Verdict) → and_then v w ≡ Accepted → v ≡ Accepted
then-left Accepted w e = refl
then-left (Refused r) w e = e

pub then-right : (v w : Verdict) → and_then v w ≡ Accepted → w ≡ Accepted
then-right Accepted w e = e
then-right (Refused r) w e = refused-not e

pub if-not : (b : Bool) (r : Refusal) → refuse_if_lem b r ≡ Accepted → b ≡ false
if-not true r e = refused-not e
if-not false r e = refl

pub accepted-is : (v : Verdict) → is_accepted v ≡ true → v ≡ Accepted
accepted-is Accepted e = refl
accepted-is (Refused r) e = clash e refl

-- none of the causes holds
row-causes : (a b c d : Bool)
    → and_then (refuse_if_lem a WrongField) (and_then (refuse_if_lem b Misplaced) (and_then (refuse_if_lem c TooManyFunctions) (refuse_if_lem d TooManyParts))) ≡ Accepted
    → (a ≡ false) × (b ≡ false) × (c ≡ false) × (d ≡ false)
row-causes true b c d e = refused-not e
row-causes false true c d e = refused-not e
row-causes false false true d e = refused-not e
row-causes false false false true e = refused-not e
row-causes false false false false e = (refl, refl, refl, refl)

pub proper-row : (t : Table) (i : ℕ) → row_verdict t i ≡ Accepted → ProperRow t i
unfolding row_verdict
proper-row t i e =
    let c = row-causes (wrong_field t i) (misplaced t i) (too_many_functions t i) (too_many_parts t i) e in
    record { fits = not-false _ c.0; placed = c.1; few_functions = c.2; few_parts = c.3 }

proper-rows : (t : Table) (n : ℕ) → rows_verdict t n ≡ Accepted → (i : ℕ) → i < n → ProperRow t i
unfolding rows_verdict
proper-rows t zero e i h = absurd (not-suc-le-zero h)
proper-rows t (suc n) e i h = by (eq-or-lt_of_le h) (λ l. proper-rows t n (then-left _ _ e) i l)
  where
    by : (suc i ≡ suc n) ⊎ (suc i < suc n) → (i < n → ProperRow t i) → ProperRow t i
    by (inl q) ih =
        let r : i ≡ n = omega arith in
        proper-row t i (ap (row_verdict t) r ∙ then-right (rows_verdict t n) _ e)
    by (inr l) ih = ih (omega arith)

pub proper-calls : (t : Table) (n : ℕ) → calls_verdict t n ≡ Accepted → (i : ℕ) → i < n → no_such_function t i ≡ false
unfolding calls_verdict
proper-calls t zero e i h = absurd (not-suc-le-zero h)
proper-calls t (suc n) e i h = by (eq-or-lt_of_le h) (λ l. proper-calls t n (then-left _ _ e) i l)
  where
    by : (suc i ≡ suc n) ⊎ (suc i < suc n) → (i < n → no_such_function t i ≡ false) → no_such_function t i ≡ false
    by (inl q) ih =
        let r : i ≡ n = omega arith in
        ap (no_such_function t) r ∙ if-not _ NoSuchFunction (then-right (calls_verdict t n) _ e)
    by (inr l) ih = ih (omega arith)

pub outside-nil : (fs : List Open) → is_outside fs ≡ true → fs ≡ []
outside-nil [] e = refl
outside-nil (f ∷ fs) e = clash e refl

pub rows-length : (bs : List ℕ) (i n : ℕ) → length (rows_from bs i n) ≡ n
unfolding rows_from
rows-length bs i zero = refl
rows-length bs i (suc n) = ap suc (rows-length bs (suc i) n)

pub table-length : (bs : List ℕ) → length (table_of bs) ≡ length bs / row_width
unfolding table_of
table-length bs = rows-length bs 0 (length bs / row_width)

-- the bytes of an accepted table
pub record ProperBytes (bs : List ℕ) : Type 0 where
  pub whole : no_whole_rows bs ≡ false
  pub few : too_many_rows bs ≡ false
  pub table : table_verdict (table_of bs) ≡ Accepted

bytes-causes : (a b : Bool) (v : Verdict) → and_then (refuse_if_lem a NoWholeRows) (and_then (refuse_if_lem b TooManyRows) v) ≡ Accepted
    → (a ≡ false) × (b ≡ false) × (v ≡ Accepted)
bytes-causes true b v e = refused-not e
bytes-causes false true v e = refused-not e
bytes-causes false false v e = (refl, refl, e)

pub proper-bytes : (bs : List ℕ) → verdict_of bs ≡ Accepted → ProperBytes bs
unfolding verdict_of
proper-bytes bs e =
    let c = bytes-causes (no_whole_rows bs) (too_many_rows bs) (table_verdict (table_of bs)) e in
    record { whole = c.0; few = c.1; table = c.2 }

-- whole rows, and at least one
pub whole-rows : (bs : List ℕ) → no_whole_rows bs ≡ false → (0 < length bs / row_width) × (row_width * (length bs / row_width) ≡ length bs)
whole-rows bs h = let n = eqb-false _ _ (or_parts (eqb (length bs) 0) _ h).0 in
    (omega (arith, n, r), omega (arith, r))
  where
    r : length bs % row_width ≡ 0
    r = eqb-true _ _ (not-false _ (or_parts (eqb (length bs) 0) _ h).1)

table-causes : (v w : Verdict) (b : Bool) → and_then v (and_then (refuse_if_lem b Misplaced) w) ≡ Accepted → (v ≡ Accepted) × (b ≡ false) × (w ≡ Accepted)
table-causes (Refused r) w b e = refused-not e
table-causes Accepted w true e = refused-not e
table-causes Accepted w false e = (refl, refl, e)

pub proper : (bs : List ℕ) → verdict_of bs ≡ Accepted → Proper (table_of bs)
unfolding table_verdict
proper bs e =
    let p = proper-bytes bs e in
    let t = table_of bs in
    let c = table-causes (rows_verdict t (length t)) (calls_verdict t (length t)) (left_open_lem t) p.table in
    record {
      some_row = omega (arith, table-length bs, (whole-rows bs p.whole).0);
      few_rows = omega (arith, table-length bs, ltb-false max_rows (length bs / row_width) p.few);
      rows = proper-rows t (length t) c.0;
      closed = outside-nil _ (not-false _ c.1);
      calls = proper-calls t (length t) c.2;
    }
