-- What `first` finds: a number that passes, or that none does. Assumes nothing.
use mathlib.Core.Logic.{◌⊎◌, inl, inr}
use mathlib.Core.Path.{◌≡◌, refl}
use mathlib.Core.Bool.{Bool, true, false, cond}
use Prim.Native.Nat.{ℕ, zero, suc, ◌+◌, ◌≤◌, ◌<◌}
use native.Mathlib.Nat.{le_refl, eq-or-lt_of_le, not-suc-le-zero}
use native.Mathlib.Omega.{arith}
use Rattle.rules.specs.Bytes.{first}
use Rattle.rules.proofs.Logic.{clash, Order, less, same, more, order}

pub data Found (p : ℕ → Bool) (d j r : ℕ) : Type 0 where
  hit : p r ≡ true → j ≤ r → r < j + d → ((m : ℕ) → j ≤ m → m < r → p m ≡ false) → Found p d j r
  miss : r ≡ j + d → ((m : ℕ) → j ≤ m → m < j + d → p m ≡ false) → Found p d j r

-- what holds of j and of each number above it, up to x
from_next : (p : ℕ → Bool) (j x : ℕ) → p j ≡ false → ((m : ℕ) → suc j ≤ m → m < x → p m ≡ false) → (m : ℕ) → j ≤ m → m < x → p m ≡ false
from_next p j x e f m a b = by (eq-or-lt_of_le a)
  where
    by : (j ≡ m) ⊎ (j < m) → p m ≡ false
    by (inl q) = rw q at e
    by (inr q) = f m q b

found-next : (p : ℕ → Bool) (d j r : ℕ) → p j ≡ false → Found p d (suc j) r → Found p (suc d) j r
found-next p d j r e (hit h l u f) = hit h (omega arith) (omega arith) (from_next p j r e f)
found-next p d j r e (miss q f) = miss (omega arith) (from_next p j (j + suc d) e (λ m a b. f m a (omega arith)))

pub found : (p : ℕ → Bool) (d j : ℕ) → Found p d j (first p d j)
unfolding first
found p zero j = miss (omega arith) (λ m a b. absurd (omega arith))
found p (suc d) j = by (p j) refl (found p d (suc j))
  where
    by : (b : Bool) → p j ≡ b → Found p d (suc j) (first p d (suc j)) → Found p (suc d) j (cond b j (first p d (suc j)))
    by true e f = hit e (le_refl _) (omega arith) (λ m a b. absurd (omega arith))
    by false e f = found-next p d j (first p d (suc j)) e f

pub first-now : (p : ℕ → Bool) (d j : ℕ) → 0 < d → p j ≡ true → first p d j ≡ j
unfolding first
first-now p zero j h e = absurd (not-suc-le-zero h)
first-now p (suc d) j h e = rw e

-- the first number that passes is x: none before it does, and x does unless it is the last
pub first_is : (p : ℕ → Bool) (d j x : ℕ) → j ≤ x → x ≤ j + d → (x < j + d → p x ≡ true) → ((m : ℕ) → j ≤ m → m < x → p m ≡ false) → first p d j ≡ x
first_is p d j x a b yes-here none_before = by (first p d j) (found p d j)
  where
    by : (r : ℕ) → Found p d j r → r ≡ x
    by r (hit h l u f) = at-hit (order r x)
      where
        at-hit : Order r x → r ≡ x
        at-hit (less q) = clash h (none_before r l q)
        at-hit (same q) = q
        at-hit (more q) = clash (yes-here (omega arith)) (f x a q)
    by r (miss q f) = at_end (eq-or-lt_of_le b)
      where
        at_end : (x ≡ j + d) ⊎ (x < j + d) → r ≡ x
        at_end (inl e) = omega arith
        at_end (inr l) = clash (yes-here l) (f x a l)
