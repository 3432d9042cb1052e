-- How large values, regions and line numbers grow: a row takes at most 2 values in all regions together, opens at most one
-- region and stands for at most two lines. Assumes nothing.
use mathlib.Core.Path.{◌≡◌, refl}
use mathlib.Core.Bool.{Bool, true, false, cond}
use mathlib.Core.List.{List, [], ◌∷◌}
use Prim.Native.Nat.{ℕ, zero, suc, ◌+◌, ◌*◌, ◌≤◌}
use native.Mathlib.Nat.{le_refl}
use native.Mathlib.Omega.{arith}
use lib.ListN.{length}
use lib.Dec.{eqb}
use borrow.Author.Tests.{eqb-true}
use Rattle.rules.specs.declared.kind.Kind.{Kind}
use Rattle.rules.specs.declared.kind.Kind.TheVariants.{Function, Do, If, Else, Loop, End, Break, Continue, Call, Unknown}
use Rattle.rules.specs.Row.{Table, kind_at}
use Rattle.rules.specs.Scan.{Part, body, then_part, else_part, loop_body, Open, Shape, pushes, turns, closes, stays, shape_of, regions_after, regions, open_at}
use Rattle.rules.specs.Value.{takes, takes_in, taken, base, value}
use Rattle.rules.specs.Harden.{line_count, line_of}
use Rattle.rules.proofs.Value.{taken_mono}

takes_two : (k : Kind) (p : Part) → takes k p ≤ 2
takes_two Function p = omega arith
takes_two Do p = omega arith
takes_two If p = omega arith
takes_two Else p = omega arith
takes_two Loop p = omega arith
takes_two End body = omega arith
takes_two End then_part = omega arith
takes_two End else_part = omega arith
takes_two End loop_body = omega arith
takes_two Break p = omega arith
takes_two Continue p = omega arith
takes_two Call p = omega arith
takes_two Unknown p = omega arith

-- ---- the sum of f g over g below n
unfoldable pub sum : (ℕ → ℕ) → ℕ → ℕ
sum f zero = 0
sum f (suc n) = sum f n + f n

pub sum-none : (n : ℕ) → sum (λ g. 0) n ≡ 0
unfolding sum
sum-none zero = refl
sum-none (suc n) = omega (arith, sum-none n)

pub sum-add : (f g : ℕ → ℕ) (n : ℕ) → sum (λ x. f x + g x) n ≡ sum f n + sum g n
unfolding sum
sum-add f g zero = refl
sum-add f g (suc n) = omega (arith, sum-add f g n)

-- ---- a row takes values in its own region alone
pub none_below : (k : Kind) (f : Open) (fs : List Open) (n : ℕ) → n ≤ f.region → sum (λ g. takes_in k g (f ∷ fs)) n ≡ 0
unfolding sum
none_below k f fs zero h = refl
none_below k f fs (suc n) h = by (eqb f.region n) refl (none_below k f fs n (omega arith))
  where
    by : (b : Bool) → eqb f.region n ≡ b → sum (λ g. takes_in k g (f ∷ fs)) n ≡ 0
        → sum (λ g. takes_in k g (f ∷ fs)) n + cond b (takes k f.part) 0 ≡ 0
    by true e i = omega (arith, eqb-true f.region n e)
    by false e i = omega arith

two-in-all : (k : Kind) (fs : List Open) (n : ℕ) → sum (λ g. takes_in k g fs) n ≤ 2
unfolding sum
two-in-all k [] zero = omega arith
two-in-all k [] (suc n) = omega (arith, two-in-all k [] n)
two-in-all k (f ∷ fs) zero = omega arith
two-in-all k (f ∷ fs) (suc n) = by (eqb f.region n) refl (two-in-all k (f ∷ fs) n)
  where
    by : (b : Bool) → eqb f.region n ≡ b → sum (λ g. takes_in k g (f ∷ fs)) n ≤ 2
        → sum (λ g. takes_in k g (f ∷ fs)) n + cond b (takes k f.part) 0 ≤ 2
    by true e i = omega (arith, takes_two k f.part, none_below k f fs n (omega (arith, eqb-true f.region n e)))
    by false e i = omega arith

taken-in-all : (t : Table) (n i : ℕ) → sum (λ g. taken t g i) n ≤ 2 * i
unfolding taken sum
taken-in-all t n zero = omega (arith, sum-none n)
taken-in-all t n (suc i) =
    omega
    (arith, taken-in-all t n i, two-in-all (kind_at t i) (open_at t i) n, sum-add (λ g. taken t g i) (λ g. takes_in (kind_at t i) g (open_at t i)) n)

pub base_sum : (t : Table) (g : ℕ) → base t g ≡ 1 + g + sum (λ h. taken t h (length t)) g
unfolding base sum
base_sum t zero = refl
base_sum t (suc g) = omega (arith, base_sum t g)

-- ---- values and bases
pub value-bound : (t : Table) (g i : ℕ) → i ≤ length t → value t g i ≤ 2 + g + 2 * length t
unfolding value sum
value-bound t g i h = omega (arith, base_sum t g, taken_mono t g {i = i} (length t) h, taken-in-all t (suc g) (length t))

pub base-bound : (t : Table) (g : ℕ) → base t g ≤ 2 + g + 2 * length t
base-bound t g = omega (arith, base_sum t g, taken-in-all t g (length t))

-- ---- regions and lines
one-region : (s : Shape) (g : ℕ) → regions_after s g ≤ suc g
one-region (pushes p) g = le_refl _
one-region turns g = le_refl _
one-region closes g = omega arith
one-region stays g = omega arith

pub regions-bound : (t : Table) (i : ℕ) → regions t i ≤ i
unfolding regions
regions-bound t zero = le_refl _
regions-bound t (suc i) = omega (arith, regions-bound t i, one-region (shape_of (kind_at t i)) (regions t i))

pub two_lines : (k : Kind) → line_count k ≤ 2
two_lines Function = omega arith
two_lines Do = omega arith
two_lines If = omega arith
two_lines Else = omega arith
two_lines Loop = omega arith
two_lines End = omega arith
two_lines Break = omega arith
two_lines Continue = omega arith
two_lines Call = omega arith
two_lines Unknown = omega arith

pub line-bound : (t : Table) (i : ℕ) → line_of t i ≤ 2 * i
unfolding line_of
line-bound t zero = le_refl _
line-bound t (suc i) = omega (arith, line-bound t i, two_lines (kind_at t i))
