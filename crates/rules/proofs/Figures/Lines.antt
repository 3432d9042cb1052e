-- The lines of a hardened table are what the sum over the rows comes to: before row i an end is still to come for each open part.
-- Assumes that the table is accepted.
use mathlib.Core.Path.{◌≡◌, refl, sym, ap, ◌∙◌}
use mathlib.Core.Bool.{false}
use mathlib.Core.List.{List, [], ◌∷◌}
use Prim.Native.Nat.{ℕ, zero, suc, ◌+◌, ◌≤◌}
use native.Mathlib.Nat.{le_refl}
use native.Mathlib.Omega.{arith}
use lib.ListN.{length}
use Rattle.rules.specs.declared.kind.Kind.{Kind}
use Rattle.rules.specs.declared.kind.Kind.TheVariants.{Function, Do, If, Else, Loop, End, Break, Continue, Call, Unknown}
use Rattle.rules.specs.Row.{Table, kind_at}
use Rattle.rules.specs.Scan.{Open, shape_of, open_after_lem, regions, open_at}
use Rattle.rules.specs.Check.{misplaced_in}
use Rattle.rules.specs.Harden.{line_count, line_of, harden}
use Rattle.rules.specs.Figures.{lines_by}
use Rattle.rules.proofs.Logic.{clash}
use Rattle.rules.proofs.Accepted.{Proper}
use Rattle.rules.proofs.Place.{lines_all}
use Rattle.rules.proofs.Figures.Sums.{sums_at, sums-start, sums_next}

lines_next : (i g : ℕ) (k : Kind) (fs : List Open) (x y : ℕ) → misplaced_in k fs ≡ false → x + length fs ≡ y
    → (x + line_count k) + length (open_after_lem (shape_of k) i g fs) ≡ y + lines_by k
unfolding misplaced_in
lines_next i g Function fs x y p e = omega arith
lines_next i g Do fs x y p e = omega arith
lines_next i g If fs x y p e = omega arith
lines_next i g Else [] x y p e = omega arith
lines_next i g Else (f ∷ fs) x y p e = omega arith
lines_next i g Loop fs x y p e = omega arith
lines_next i g End [] x y p e = clash refl p
lines_next i g End (f ∷ fs) x y p e = omega arith
lines_next i g Break fs x y p e = omega arith
lines_next i g Continue fs x y p e = omega arith
lines_next i g Call fs x y p e = omega arith
lines_next i g Unknown fs x y p e = omega arith

lines-so-far : (t : Table) → Proper t → (i : ℕ) → i ≤ length t → line_of t i + length (open_at t i) ≡ (sums_at t i).lines
unfolding line_of open_at
lines-so-far t ok zero h = ap (λ s. s.lines) (sym (sums-start t))
lines-so-far t ok (suc i) h =
    lines_next i (regions t i) (kind_at t i) (open_at t i) (line_of t i) (sums_at t i).lines (ok.rows i h).placed (lines-so-far t ok i (omega arith))
    ∙ ap (λ s. s.lines) (sym (sums_next t i))

pub line-sum : (t : Table) → Proper t → length (harden t) ≡ (sums_at t (length t)).lines
line-sum t ok = omega (arith, lines_all t, lines-so-far t ok (length t) (le_refl _), ap length ok.closed)
