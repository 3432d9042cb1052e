-- The sums over the rows before row i, row by row. Assumes nothing.
use mathlib.Core.Path.{◌≡◌, refl, sym, ap, ◌∙◌}
use mathlib.Core.Bool.{false, cond}
use mathlib.Core.List.{[], ◌∷◌, ◌++◌}
use Prim.Native.Nat.{ℕ, zero, suc, ◌+◌}
use native.Mathlib.Omega.{arith}
use lib.ListN.{length}
use Rattle.rules.specs.declared.sums.Sums.{Sums}
use Rattle.rules.specs.declared.kind.Kind.{Kind}
use Rattle.rules.specs.Row.{Row, Table, kind_at}
use Rattle.rules.specs.Scan.{Shape, pushes, turns, closes, stays, shape_of, regions_after, is_function_lem}
use Rattle.rules.specs.Figures.{opened_by, no_sums, counted, sums_from, sums_of}

-- the sums of the rows before row i, on top of s
pub sums_to : Table → Sums → (i : ℕ) → Sums
sums_to t s zero = s
sums_to t s (suc i) = counted (kind_at t i) (sums_to t s i)

sums-behind : (r : Row) (t : Table) (s : Sums) (i : ℕ) → sums_to (r ∷ t) s (suc i) ≡ sums_to t (counted r.kind s) i
unfolding sums_to
sums-behind r t s zero = refl
sums-behind r t s (suc i) = ap (counted (kind_at t i)) (sums-behind r t s i)

sums-to : (t : Table) (s : Sums) → sums_from t s ≡ sums_to t s (length t)
unfolding sums_from sums_to
sums-to [] s = refl
sums-to (r ∷ t) s = sums-to t (counted r.kind s) ∙ sym (sums-behind r t s (length t))

-- the sums so far
pub sums_at : Table → (i : ℕ) → Sums
sums_at t i = sums_to t no_sums i

pub sums-start : (t : Table) → sums_at t 0 ≡ no_sums
unfolding sums_at sums_to
sums-start t = refl

pub sums_next : (t : Table) (i : ℕ) → sums_at t (suc i) ≡ counted (kind_at t i) (sums_at t i)
unfolding sums_at sums_to
sums_next t i = refl

pub sums-all : (t : Table) → sums_of t ≡ sums_at t (length t)
unfolding sums_at
sums-all t = sums-to t no_sums

-- ---- rows behind others
pub sums-append : (a b : Table) (s : Sums) → sums_from (a ++ b) s ≡ sums_from b (sums_from a s)
unfolding sums_from
sums-append [] b s = refl
sums-append (r ∷ a) b s = sums-append a b (counted r.kind s)

-- ---- the regions of the function that is open
pub after_more : (s : Shape) (g : ℕ) → regions_after s g ≡ g + regions_after s 0
after_more (pushes p) g = omega arith
after_more turns g = omega arith
after_more closes g = omega arith
after_more stays g = omega arith

pub opened-more : (k : Kind) (o : ℕ) → is_function_lem k ≡ false → opened_by k o ≡ o + regions_after (shape_of k) 0
opened-more k o e = ap (λ b. cond b 1 (regions_after (shape_of k) o)) e ∙ after_more (shape_of k) o
