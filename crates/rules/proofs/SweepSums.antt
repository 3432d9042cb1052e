-- Sums of numbers and of counts: equal terms, bounded terms, and the fields of a sum of counts. Assumes nothing.
use mathlib.Core.Path.{◌≡◌, refl, ap, ◌∙◌}
use mathlib.Core.Bool.{Bool, false, ◌||◌}
use Prim.Native.Nat.{ℕ, zero, suc, ◌+◌, ◌*◌, ◌≤◌, ◌<◌}
use native.Mathlib.Nat.{suc-mul}
use native.Mathlib.Omega.{arith}
use lib.Dec.{ltb}
use Rattle.rules.specs.declared.ending.Ending.{Ending}
use Rattle.rules.specs.declared.ending.Ending.TheVariants.{Alarmed, Same, Other, Unfinished}
use Rattle.rules.specs.declared.ending.Counts.{Counts}
use Rattle.rules.specs.Sweep.{one, plus, total, sum_to, sum_counts}

-- ---- of numbers
pub sum_same : (n : ℕ) (f g : ℕ → ℕ) → ((p : ℕ) → p < n → f p ≡ g p) → sum_to n f ≡ sum_to n g
unfolding sum_to
sum_same zero f g e = refl
sum_same (suc n) f g e = omega (arith, sum_same n f g (λ p l. e p (omega arith)), e n (omega arith))

pub sum_ones : (n : ℕ) (f : ℕ → ℕ) → ((p : ℕ) → p < n → f p ≡ 1) → sum_to n f ≡ n
unfolding sum_to
sum_ones zero f e = refl
sum_ones (suc n) f e = omega (arith, sum_ones n f (λ p l. e p (omega arith)), e n (omega arith))

pub sum_bound : (n c : ℕ) (f : ℕ → ℕ) → ((p : ℕ) → p < n → f p ≤ c) → sum_to n f ≤ n * c
unfolding sum_to
sum_bound zero c f e = omega arith
sum_bound (suc n) c f e = omega (arith, sum_bound n c f (λ p l. e p (omega arith)), e n (omega arith), suc-mul n c)

-- ---- of counts
pub total-sum : (f : ℕ → Counts) (n : ℕ) → total (sum_counts n f) ≡ sum_to n (λ p. total (f p))
unfolding sum_to sum_counts
total-sum f zero = refl
total-sum f (suc n) = omega (arith, total-sum f n)

pub other-sum : (f : ℕ → Counts) (n : ℕ) → (sum_counts n f).other ≡ sum_to n (λ p. (f p).other)
unfolding sum_to sum_counts
other-sum f zero = refl
other-sum f (suc n) = ap (λ y. y + (f n).other) (other-sum f n)

pub sum-counts-same : (n : ℕ) (f g : ℕ → Counts) → ((p : ℕ) → p < n → f p ≡ g p) → sum_counts n f ≡ sum_counts n g
unfolding sum_counts
sum-counts-same zero f g e = refl
sum-counts-same (suc n) f g e =
    ap (λ y. plus y (f n)) (sum-counts-same n f g (λ p l. e p (omega arith))) ∙ ap (plus (sum_counts n g)) (e n (omega arith))

pub one-total : (c : Ending) → total (one c) ≡ 1
one-total Alarmed = refl
one-total Same = refl
one-total Other = refl
one-total Unfinished = refl

-- ---- above zero: one of the terms is
unfoldable pub any_to : ℕ → (ℕ → Bool) → Bool
any_to zero f = false
any_to (suc n) f = any_to n f || f n

pub other-positive : (n : ℕ) (f : ℕ → Counts) → ltb 0 (sum_counts n f).other ≡ any_to n (λ k. ltb 0 (f k).other)
unfolding sum_counts any_to
other-positive zero f = refl
other-positive (suc n) f = grind (arith, other-positive n f)
