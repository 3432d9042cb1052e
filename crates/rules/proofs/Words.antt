-- The values of an accepted table are words, with room for what a row takes. Assumes that the table is accepted.
use mathlib.Core.Path.{subst}
use mathlib.Core.List.{List, ◌∷◌}
use Prim.Native.Nat.{ℕ, ◌+◌, ◌≤◌}
use native.Mathlib.Omega.{arith}
use lib.ListN.{length}
use Rattle.rules.specs.Row.{Table}
use Rattle.rules.specs.Scan.{Open, regions}
use Rattle.rules.specs.Value.{base, value}
use Rattle.rules.specs.Bounds.{Word}
use Rattle.rules.proofs.Accepted.{Proper}
use Rattle.rules.proofs.Scan.{Chain, chain}
use Rattle.rules.proofs.ValueBound.{value-bound, base-bound, regions-bound}
use Rattle.rules.proofs.Function.{InFunction}

-- more than any row takes, now or when rows take more
abbrev room : ℕ
room = 8

pub word_of : (t : Table) → Proper t → (g i : ℕ) → g ≤ length t → i ≤ length t → Word (value t g i + room)
word_of t ok g i a b = omega (arith, value-bound t g i b, ok.few_rows)

pub word-base : (t : Table) → Proper t → (i : ℕ) → i ≤ length t → Word (base t (regions t i))
word-base t ok i a = omega (arith, base-bound t (regions t i), regions-bound t i, ok.few_rows)

-- of a part that is open at a row
pub region-in : (t : Table) {n i : ℕ} {f : Open} {fs : List Open} → InFunction t n i f fs → f.region ≤ length t
region-in t {n} {i} {f} {fs} m =
    let c : Chain (regions t i) (f ∷ fs) = subst (Chain (regions t i)) m.open_is (chain t i) in
    omega (arith, c.0, regions-bound t i, m.within)

pub word_at : (t : Table) → Proper t → {n i : ℕ} {f : Open} {fs : List Open} → InFunction t n i f fs → Word (value t f.region i + room)
word_at t ok {n} {i} {f} m = word_of t ok f.region i (region-in t m) (omega (arith, m.within))
