-- Every hardened table of accepted bytes keeps within the machine's arrays and sixteen bits.
use mathlib.Core.Path.{◌≡◌, refl, sym, ap, ◌∙◌, subst}
use mathlib.Core.Bool.{true, false}
use mathlib.Core.List.{List, [], ◌∷◌}
use Prim.Native.Nat.{ℕ, zero, suc, ◌+◌, ◌<◌}
use native.Mathlib.Nat.{le_refl, not-suc-le-zero}
use native.Mathlib.Omega.{arith}
use lib.ListN.{length}
use Rattle.rules.specs.declared.kind.Kind.{Kind}
use Rattle.rules.specs.declared.kind.Kind.TheVariants.{Function, Do, If, Else, Loop, End, Break, Continue, Call, Unknown}
use Rattle.rules.specs.Row.{Table, table_of, kind_at, operands_at, fields_fit_lem}
use Rattle.rules.specs.Scan.{then_part, loop_body, Open, has_else}
use Rattle.rules.specs.Check.{is_then, misplaced_in}
use Rattle.rules.specs.Line.{line_at}
use Rattle.rules.specs.Harden.{line_count, line_of, row_lines, harden}
use Rattle.rules.specs.Function.{function_at}
use Rattle.rules.specs.Bounds.{Word, LineIn, Fits, Within, Bounds}
use Rattle.std.proofs.lemmas.Bool.{not-false}
use Rattle.rules.proofs.Logic.{clash}
use Rattle.rules.proofs.Accepted.{Proper, proper}
use Rattle.rules.proofs.Harden.{line-at}
use Rattle.rules.proofs.Function.{placed-in, InFunction, formed-here, some-function, entry}
use Rattle.rules.proofs.Place.{LineOf, lines_all, function-outside}
use Rattle.rules.proofs.ValueBound.{line-bound}
use Rattle.rules.proofs.RegionBound.{functions-bound, loop-around}
use Rattle.rules.proofs.FunctionLine.{placed, line_in, first-in}
use Rattle.rules.proofs.FieldBound.{do-fields, test_fields, word_bound}
use Rattle.rules.proofs.LineBound.{own-region, own_value, line-two, line_after, test_fits, call_fits, back_fits, ret-fits, end_fits, else-fits, break-fits, continue-fits}

-- ---- each line of a row fits
module _ (t : Table) (ok : Proper t) (words : (i : ℕ) → i < length t → Word (operands_at t i).n) where
  fits-as : (i : ℕ) (k : Kind) → i < length t → kind_at t i ≡ k → fields_fit_lem k (operands_at t i) ≡ true
  fits-as i k l e = sym (ap (λ x. fields_fit_lem x (operands_at t i)) e) ∙ (ok.rows i l).fits

  row_fits : (n i : ℕ) (f : Open) (fs : List Open) → InFunction t n i f fs → (k : Kind) → kind_at t i ≡ k → (ph : ℕ) → ph < line_count k
      → Fits (harden t) n (line_of t i + ph) (line_at (row_lines t i (f ∷ fs) k) ph)
  unfolding row_lines fields_fit_lem misplaced_in
  row_fits n i f fs m Function e ph l = absurd (not-suc-le-zero l)
  row_fits n i f fs m Do e zero l = (
    do-fields (operands_at t i) (fits-as i Do m.within e) (words i m.within),
    omega (arith, m.within, ok.few_rows),
    line-two t ok n i f fs m Do e (omega arith),
  )
  row_fits n i f fs m Do e (suc zero) l = (
    own-region t ok n i f fs m,
    omega (arith, own_value t ok n i f fs m),
    omega (arith, own_value t ok n i f fs m),
    line_after t ok n i f fs m Do 1 e refl refl,
  )
  row_fits n i f fs m Do e (suc (suc x)) l = absurd (omega arith)
  row_fits n i f fs m If e zero l =
      test_fits t ok n i f fs m (has_else t i) then_part If e refl refl refl (λ u. u)
      (test_fields (operands_at t i) (fits-as i If m.within e) (words i m.within))
  row_fits n i f fs m If e (suc x) l = absurd (omega arith)
  row_fits n i f [] m Else e zero l =
      clash (ap is_then (sym (formed-here t ok m).0) ∙ not-false _ (placed-in t ok i m.within e m.open_is)) refl
  row_fits n i f (h ∷ hs) m Else e zero l = else-fits t ok n i f h hs m
  row_fits n i f fs m Else e (suc x) l = absurd (omega arith)
  row_fits n i f fs m Loop e zero l =
      test_fits t ok n i f fs m false loop_body Loop e refl refl refl (λ u. clash u refl)
      (test_fields (operands_at t i) (fits-as i Loop m.within e) (words i m.within))
  row_fits n i f fs m Loop e (suc x) l = absurd (omega arith)
  row_fits n i f [] m End e zero l = ret-fits t ok n i f m e
  row_fits n i f (h ∷ hs) m End e zero l = end_fits t ok n i f h hs m e f.part (formed-here t ok m).0
  row_fits n i f fs m End e (suc x) l = absurd (omega arith)
  row_fits n i f fs m Break e zero l =
      break-fits t ok n i f fs m (loop-around t ok i (omega (arith, m.within)) m.open_is (placed-in t ok i m.within e m.open_is))
  row_fits n i f fs m Break e (suc x) l = absurd (omega arith)
  row_fits n i f fs m Continue e zero l =
      continue-fits t ok n i f fs m (loop-around t ok i (omega (arith, m.within)) m.open_is (placed-in t ok i m.within e m.open_is))
  row_fits n i f fs m Continue e (suc x) l = absurd (omega arith)
  row_fits n i f fs m Call e zero l = call_fits t ok n i f fs m e
  row_fits n i f fs m Call e (suc zero) l = back_fits t ok n i f fs m e
  row_fits n i f fs m Call e (suc (suc x)) l = absurd (omega arith)
  row_fits n i f fs m Unknown e ph l = absurd (not-suc-le-zero l)

  line-inside : (n k : ℕ) → LineOf t n k → LineIn (harden t) n k
  line-inside n k s = subst (LineIn (harden t) n) (sym s.is) (line_in t ok s.in_function s.ph s.ph_lt)

  line-fits : (n k : ℕ) → LineOf t n k → Fits (harden t) n k (line_at (harden t) k)
  line-fits n k s =
      let m = s.in_function in
      let i = s.row in
      subst (λ x. Fits (harden t) n x (line_at (harden t) x)) (sym s.is)
      (subst (Fits (harden t) n (line_of t i + s.ph))
      (sym (line-at t i s.ph m.within s.ph_lt ∙ ap (λ gs. line_at (row_lines t i gs (kind_at t i)) s.ph) m.open_is))
      (row_fits n i s.top s.others m (kind_at t i) refl s.ph s.ph_lt))

  -- ---- the table
  pub within : Within (harden t)
  within =
      record {
        some_line = omega (arith, (first-in t ok (entry t ok 0 (some-function t ok))).in_table);
        few_lines = omega (arith, lines_all t, line-bound t (length t), ok.few_rows);
        few_functions =
            omega
            (arith, ap (function_at (harden t)) (lines_all t) ∙ function-outside t ok (length t) (le_refl _) ok.closed, functions-bound t ok (length t) (le_refl _));
        each_inside =
            λ k l.
            let a = placed t ok k l in
            subst (λ n. LineIn (harden t) n k) (sym a.counted) (line-inside a.number k a.line);
        each_fits =
            λ k l.
            let a = placed t ok k l in
            subst (λ n. Fits (harden t) n k (line_at (harden t) k)) (sym a.counted) (line-fits a.number k a.line);
      }

pub bounds : Bounds
bounds rows bytes ok = within (table_of rows) (proper rows ok) (word_bound rows bytes)
