-- What `is_do` and `dos` answer, as laws. Assumes nothing.
use mathlib.Core.Path.{◌≡◌, refl, sym, ap, ◌∙◌}
use mathlib.Core.Bool.{Bool, true, false, cond}
use mathlib.Core.Logic.{◌⊎◌, inl, inr}
use mathlib.Core.List.{List}
use Prim.Native.Nat.{ℕ, ◌+◌, ◌*◌, ◌-◌, ◌≤◌, ◌<◌}
use native.Mathlib.Nat.{eq-or-lt_of_le}
use native.Mathlib.Omega.{arith}
use lib.Dec.{eqb}
use lib.ListN.{length, drop, take, get_or}
use borrow.Author.Tests.{ne_eqb}
use Rattle.rules.specs.declared.operands.Operands.{Operands}
use Rattle.rules.specs.declared.kind.Kind.{Kind}
use Rattle.rules.specs.declared.kind.Kind.TheVariants.{Function, Do, If, Else, Loop, End, Break, Continue, Call, Unknown}
use Rattle.rules.specs.Row.{row_width, kind_of, row_in, do_uses_lem, fields_fit_lem}
use Rattle.rules.proofs.Logic.{clash}
use Rattle.rows.specs.First.{proper_kind, first_kind_lem}
use Rattle.rows.specs.Dos.{is_do_lem, DosAre}
use Rattle.rows.proofs.Rows.{rest_all}

-- ---- one row
-- a row whose byte is none of a do's, by the other tests of its byte
no-do : (c1 c3 c4 c5 c6 c7 c8 c9 : Bool)
    → is_do_lem (cond c1 Function (cond c3 If (cond c4 Else (cond c5 Loop (cond c6 End (cond c7 Break (cond c8 Continue (cond c9 Call Unknown)))))))) ≡ false
no-do true c3 c4 c5 c6 c7 c8 c9 = refl
no-do false true c4 c5 c6 c7 c8 c9 = refl
no-do false false true c5 c6 c7 c8 c9 = refl
no-do false false false true c6 c7 c8 c9 = refl
no-do false false false false true c7 c8 c9 = refl
no-do false false false false false true c8 c9 = refl
no-do false false false false false false true c9 = refl
no-do false false false false false false false true = refl
no-do false false false false false false false false = refl

other-kind : (b : ℕ) → (b ≡ 2 → ⊥) → is_do_lem (kind_of b) ≡ false
unfolding kind_of
other-kind b h =
    rw (ne_eqb b 2 h) (no-do (eqb b 1) (eqb b 3) (eqb b 4) (eqb b 5) (eqb b 6) (eqb b 7) (eqb b 8) (eqb b 9))

still-none : (f : Bool) (k : Kind) → is_do_lem k ≡ false → is_do_lem (cond f k Unknown) ≡ false
still-none true k p = p
still-none false k p = refl

do-where : (f : Bool) → is_do_lem (cond f Do Unknown) ≡ f
do-where true = refl
do-where false = refl

is_do : (k : Kind) → is_do_lem k ≡ true → k ≡ Do
is_do Function e = clash e refl
is_do Do e = refl
is_do If e = clash e refl
is_do Else e = clash e refl
is_do Loop e = clash e refl
is_do End e = clash e refl
is_do Break e = clash e refl
is_do Continue e = clash e refl
is_do Call e = clash e refl
is_do Unknown e = clash e refl

pub other_row : (xs : List ℕ) → (get_or xs 0 0 ≡ 2 → ⊥) → false ≡ is_do_lem (first_kind_lem xs)
unfolding proper_kind row_in
other_row xs h = sym (still-none (fields_fit_lem (kind_of (get_or xs 0 0)) (row_in xs 0).operands) (kind_of (get_or xs 0 0)) (other-kind (get_or xs 0 0) h))

pub do-row : (xs : List ℕ) {o : Operands} {f : Bool} → get_or xs 0 0 ≡ 2 → o ≡ (row_in xs 0).operands → f ≡ do_uses_lem o → f ≡ is_do_lem (first_kind_lem xs)
unfolding proper_kind row_in kind_of fields_fit_lem
do-row xs e w q = q ∙ ap do_uses_lem w ∙ sym (rw e (do-where _))

pub ruleset doing-row = (other_row, do-row)

-- ---- the loop
pub dos-start : {xs : List ℕ} → 5 < length xs → first_kind_lem xs ≡ Do → DosAre xs 1
dos-start {xs} long q = record {
  some = omega arith;
  fit = omega arith;
  each = λ j h. let z : j ≡ 0 = omega arith in rw z q;
}

pub dos-on : {xs : List ℕ} {at : ℕ} {f : Bool} → DosAre xs at → 6 * at + 5 < length xs
    → f ≡ is_do_lem (first_kind_lem (take (length xs - 6 * at) (drop (6 * at) xs))) → f ≡ true → DosAre xs (at + 1)
dos-on {xs} {at} v h q t = record {
  some = omega arith;
  fit = omega arith;
  each = λ j l. by j (eq-or-lt_of_le (let k : j ≤ at = omega arith in k));
}
  where
    here : first_kind_lem (drop (row_width * at) xs) ≡ Do
    here = is_do _ (ap (λ ys. is_do_lem (first_kind_lem ys)) (sym (rest_all (6 * at) xs)) ∙ sym q ∙ t)

    by : (j : ℕ) → (j ≡ at) ⊎ (j < at) → first_kind_lem (drop (row_width * j) xs) ≡ Do
    by j (inl e) = rw e here
    by j (inr l) = v.each j l

pub ruleset dos-laws = (dos-start, dos-on)
