-- The values of all regions together are what the sum over the rows comes to. Assumes that the table is accepted.
use mathlib.Core.Path.{◌≡◌, refl, ap}
use mathlib.Core.Bool.{Bool, true, false, cond}
use mathlib.Core.List.{List, [], ◌∷◌}
use Prim.Native.Nat.{ℕ, zero, suc, ◌+◌, ◌≤◌, ◌<◌}
use native.Mathlib.Nat.{le_refl, not-suc-le-zero}
use native.Mathlib.Omega.{arith}
use lib.ListN.{length}
use lib.Dec.{eqb}
use borrow.Author.Tests.{eqb-true, eqb-false}
use Rattle.rules.specs.declared.kind.Kind.{Kind}
use Rattle.rules.specs.declared.kind.Kind.TheVariants.{Function, Do, If, Else, Loop, End, Break, Continue, Call, Unknown}
use Rattle.rules.specs.Row.{Table, kind_at}
use Rattle.rules.specs.Scan.{body, Open, shape_of, regions_after, open_after_lem, regions, open_at}
use Rattle.rules.specs.Value.{takes, takes_in, taken, base}
use Rattle.rules.specs.Check.{misplaced_in}
use Rattle.rules.specs.Figures.{values_by}
use Rattle.rules.proofs.Logic.{clash}
use Rattle.rules.proofs.Accepted.{Proper}
use Rattle.rules.proofs.Scan.{Chain, chain, regions-mono}
use Rattle.rules.proofs.Function.{Formed, formed, end-takes-none}
use Rattle.rules.proofs.ValueBound.{sum, sum-none, sum-add, none_below, base_sum}
use Rattle.rules.proofs.Figures.Sums.{sums_at, sums-start, sums_next}

-- ---- what a row takes in all regions together
sum-own : (k : Kind) (f : Open) (fs : List Open) (n : ℕ) → f.region < n → sum (λ g. takes_in k g (f ∷ fs)) n ≡ takes k f.part
unfolding sum
sum-own k f fs zero h = absurd (not-suc-le-zero h)
sum-own k f fs (suc n) h = by (eqb f.region n) refl (λ l. sum-own k f fs n l)
  where
    by : (b : Bool) → eqb f.region n ≡ b → (f.region < n → sum (λ g. takes_in k g (f ∷ fs)) n ≡ takes k f.part)
        → sum (λ g. takes_in k g (f ∷ fs)) n + cond b (takes k f.part) 0 ≡ takes k f.part
    by true e ih = omega (arith, none_below k f fs n (omega (arith, eqb-true f.region n e)))
    by false e ih = omega (arith, ih (omega (arith, eqb-false f.region n e)))

-- ---- what the end of the open function will take; it is counted with the row that opens the function
abbrev owed : List Open → ℕ
owed [] = 0
owed (f ∷ fs) = takes End body

row-sum : (t : Table) (i : ℕ) (k : Kind) (g : ℕ) (fs : List Open) → misplaced_in k fs ≡ false → Formed t fs → Chain g fs → (n : ℕ) → g ≤ n
    → sum (λ x. takes_in k x fs) n + regions_after (shape_of k) g + owed (open_after_lem (shape_of k) i g fs) ≡ g + owed fs + values_by k
unfolding misplaced_in
row-sum t i Function g [] p w c n h = omega (arith, sum-none n)
row-sum t i Function g (f ∷ fs) p w c n h = clash refl p
row-sum t i Do g [] p w c n h = clash refl p
row-sum t i Do g (f ∷ fs) p w c n h = omega (arith, sum-own Do f fs n (omega (arith, c.0)))
row-sum t i If g [] p w c n h = clash refl p
row-sum t i If g (f ∷ fs) p w c n h = omega (arith, sum-own If f fs n (omega (arith, c.0)))
row-sum t i Else g [] p w c n h = clash refl p
row-sum t i Else g (f ∷ fs) p w c n h = omega (arith, sum-own Else f fs n (omega (arith, c.0)))
row-sum t i Loop g [] p w c n h = clash refl p
row-sum t i Loop g (f ∷ fs) p w c n h = omega (arith, sum-own Loop f fs n (omega (arith, c.0)))
row-sum t i End g [] p w c n h = clash refl p
row-sum t i End g (f ∷ []) p w c n h = omega (arith, sum-own End f [] n (omega (arith, c.0)), ap (takes End) w.0)
row-sum t i End g (f ∷ a ∷ fs) p w c n h =
    omega (arith, sum-own End f (a ∷ fs) n (omega (arith, c.0)), end-takes-none f.part w.0)
row-sum t i Break g [] p w c n h = clash refl p
row-sum t i Break g (f ∷ fs) p w c n h = omega (arith, sum-own Break f fs n (omega (arith, c.0)))
row-sum t i Continue g [] p w c n h = clash refl p
row-sum t i Continue g (f ∷ fs) p w c n h = omega (arith, sum-own Continue f fs n (omega (arith, c.0)))
row-sum t i Call g [] p w c n h = clash refl p
row-sum t i Call g (f ∷ fs) p w c n h = omega (arith, sum-own Call f fs n (omega (arith, c.0)))
row-sum t i Unknown g [] p w c n h = omega (arith, sum-none n)
row-sum t i Unknown g (f ∷ fs) p w c n h = omega (arith, sum-own Unknown f fs n (omega (arith, c.0)))

-- the rows before row i: what they take, the first value of each region that they open, and what is owed
sum-so-far : (t : Table) → Proper t → (i : ℕ) → i ≤ length t → (n : ℕ) → regions t i ≤ n
    → sum (λ g. taken t g i) n + regions t i + owed (open_at t i) ≡ (sums_at t i).value
unfolding taken regions open_at
sum-so-far t ok zero h n l = omega (arith, sum-none n, ap (λ s. s.value) (sums-start t))
sum-so-far t ok (suc i) h n l =
    let low : regions t i ≤ n = omega (arith, regions-mono t {i = i} (suc i) (omega arith)) in
    omega (
      arith,
      sum-so-far t ok i (omega arith) n low,
      row-sum t i (kind_at t i) (regions t i) (open_at t i) (ok.rows i h).placed (formed t ok i (omega arith)) (chain t i) n low,
      sum-add (λ g. taken t g i) (λ g. takes_in (kind_at t i) g (open_at t i)) n,
      ap (λ s. s.value) (sums_next t i),
    )

-- ---- the base that a region after the last would have is one more than the sum over the rows
pub base-top : (t : Table) → Proper t → base t (regions t (length t)) ≡ suc (sums_at t (length t)).value
base-top t ok =
    omega
    (arith, base_sum t (regions t (length t)), sum-so-far t ok (length t) (le_refl _) (regions t (length t)) (le_refl _), ap owed ok.closed)
