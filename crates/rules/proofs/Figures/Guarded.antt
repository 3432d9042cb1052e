-- The regions that lines guard: how those of a function are counted, and that the lines of a row guard its own region and no other.
-- Assumes nothing.
use mathlib.Core.Path.{◌≡◌, refl, ap, ◌∙◌}
use mathlib.Core.Bool.{Bool, true, false, cond, ◌&&◌}
use mathlib.Core.List.{List, [], ◌∷◌}
use Prim.Native.Nat.{ℕ, zero, suc, ◌+◌, ◌≤◌, ◌<◌, min}
use native.Mathlib.Nat.{le_refl, not-suc-le-zero}
use native.Mathlib.Decide.{le_ind, dec_lt}
use native.Mathlib.Omega.{arith}
use lib.ListN.{length}
use lib.Dec.{eqb}
use borrow.Author.Tests.{eqb-true, eq-eqb, ne_eqb}
use Rattle.rules.specs.declared.kind.Kind.{Kind}
use Rattle.rules.specs.declared.kind.Kind.TheVariants.{Function, Do, If, Else, Loop, End, Break, Continue, Call, Unknown}
use Rattle.rules.specs.Row.{Table}
use Rattle.rules.specs.Scan.{Part, body, then_part, else_part, loop_body, Open, Shape, pushes, turns, closes, stays, shape_of, has_else}
use Rattle.rules.specs.Line.{Line, line_at}
use Rattle.rules.specs.Function.{function_at}
use Rattle.rules.specs.Harden.{line_count, own_region, test_of, end_line, row_lines}
use Rattle.rules.specs.Figures.{guards, has_region, regions_in}
use Rattle.std.proofs.lemmas.Bool.{and_from, or_from, or_left, or_right}
use Rattle.rules.proofs.Logic.{clash}
use Rattle.rules.proofs.Scan.{Closing, by_turn, by_close}
use Rattle.rules.proofs.Function.{is_body_lem, Formed}

-- ---- a function has the regions that its lines guard
pub has-by : (ls : List Line) (n g k : ℕ) → function_at ls k ≡ n → guards g (line_at ls k) ≡ true → (m : ℕ) → k < m → has_region ls n g m ≡ true
unfolding has_region
has-by ls n g k e q m h =
    le_ind (λ x. has_region ls n g x ≡ true)
    (or_right (has_region ls n g k) _ (and_from _ _ (eq-eqb (function_at ls k) n e) q))
    (λ x l p. or_left (has_region ls n g x) (eqb (function_at ls x) n && guards g (line_at ls x)) p) m h

pub has-none : (ls : List Line) (n g m : ℕ) → ((k : ℕ) → k < m → function_at ls k ≡ n → guards g (line_at ls k) ≡ false) → has_region ls n g m ≡ false
unfolding has_region
has-none ls n g zero h = refl
has-none ls n g (suc k) h = or_from (has_region ls n g k) (eqb (function_at ls k) n && guards g (line_at ls k)) (has-none ls n g k (λ x l. h x (omega arith))) (by (eqb (function_at ls k) n) refl)
  where
    by : (v : Bool) → eqb (function_at ls k) n ≡ v → v && guards g (line_at ls k) ≡ false
    by true e = h k (le_refl _) (eqb-true (function_at ls k) n e)
    by false e = refl

-- where it has the regions below r and no others, they are r
pub count_is : (ls : List Line) (n r : ℕ) → ((g : ℕ) → g < r → has_region ls n g (length ls) ≡ true)
    → ((g : ℕ) → r ≤ g → has_region ls n g (length ls) ≡ false) → (m : ℕ) → regions_in ls n m ≡ min m r
unfolding regions_in
count_is ls n r below above zero = omega arith
count_is ls n r below above (suc g) = by (dec_lt g r) (count_is ls n r below above g)
  where
    by : Dec (g < r) → regions_in ls n g ≡ min g r → regions_in ls n g + cond (has_region ls n g (length ls)) 1 0 ≡ min (suc g) r
    by (yes h) ih = rw (below g h) (omega (arith, ih))
    by (no h) ih = rw (above g (omega arith)) (omega (arith, ih))

-- ---- the lines of a row
test-guards : (t : Table) (i : ℕ) (fs : List Open) (b : Bool) (g : ℕ) → guards g (test_of t i fs b) ≡ eqb (own_region fs) g
unfolding test_of
test-guards t i fs true g = refl
test-guards t i fs false g = refl

inner-guards : (t : Table) (i : ℕ) (fs : List Open) (g : ℕ) (p : Part) → is_body_lem p ≡ false → guards g (end_line t i fs p) ≡ eqb (own_region fs) g
inner-guards t i fs g body e = clash refl e
inner-guards t i fs g then_part e = refl
inner-guards t i fs g else_part e = refl
inner-guards t i fs g loop_body e = refl

-- the body's own region is 0, which a ret guards
end-guards : (t : Table) (i : ℕ) (f : Open) (fs : List Open) (g : ℕ) → Formed t (f ∷ fs) → guards g (end_line t i (f ∷ fs) f.part) ≡ eqb (own_region (f ∷ fs)) g
end-guards t i f [] g m = ap (λ p. guards g (end_line t i (f ∷ []) p)) m.0 ∙ ap (λ x. eqb x g) (omega arith)
end-guards t i f (h ∷ hs) g m = inner-guards t i (f ∷ h ∷ hs) g f.part m.0

-- none guards another region
module _ (t : Table) (i : ℕ) (f : Open) (fs : List Open) (g : ℕ) (m : Formed t (f ∷ fs)) (ne : own_region (f ∷ fs) ≡ g → ⊥) where
  off : eqb (own_region (f ∷ fs)) g ≡ false
  off = ne_eqb (own_region (f ∷ fs)) g ne

  pub row-off : (k : Kind) (ph : ℕ) → ph < line_count k → guards g (line_at (row_lines t i (f ∷ fs) k) ph) ≡ false
  unfolding row_lines
  row-off Function ph l = absurd (not-suc-le-zero l)
  row-off Do zero l = refl
  row-off Do (suc zero) l = off
  row-off Do (suc (suc x)) l = absurd (omega arith)
  row-off If zero l = test-guards t i (f ∷ fs) (has_else t i) g ∙ off
  row-off If (suc x) l = absurd (omega arith)
  row-off Else zero l = off
  row-off Else (suc x) l = absurd (omega arith)
  row-off Loop zero l = test-guards t i (f ∷ fs) false g ∙ off
  row-off Loop (suc x) l = absurd (omega arith)
  row-off End zero l = end-guards t i f fs g m ∙ off
  row-off End (suc x) l = absurd (omega arith)
  row-off Break zero l = off
  row-off Break (suc x) l = absurd (omega arith)
  row-off Continue zero l = off
  row-off Continue (suc x) l = absurd (omega arith)
  row-off Call zero l = off
  row-off Call (suc zero) l = off
  row-off Call (suc (suc x)) l = absurd (omega arith)
  row-off Unknown ph l = absurd (not-suc-le-zero l)

-- the line of a row that ends its region guards it
pub data Ending : Kind → Type 0 where
  an_else : Ending Else
  an_end : Ending End

ends : Shape → Bool
ends (pushes p) = false
ends turns = true
ends closes = true
ends stays = false

closing-ends : (s : Shape) → Closing s → ends s ≡ true
unfolding ends
closing-ends s by_turn = refl
closing-ends s by_close = refl

ending-by : (k : Kind) → ends (shape_of k) ≡ true → Ending k
unfolding ends
ending-by Function e = clash e refl
ending-by Do e = clash e refl
ending-by If e = clash e refl
ending-by Else e = an_else
ending-by Loop e = clash e refl
ending-by End e = an_end
ending-by Break e = clash e refl
ending-by Continue e = clash e refl
ending-by Call e = clash e refl
ending-by Unknown e = clash e refl

pub ending : (k : Kind) → Closing (shape_of k) → Ending k
ending k c = ending-by k (closing-ends (shape_of k) c)

pub ending-line : (k : Kind) → Ending k → 0 < line_count k
ending-line k an_else = omega arith
ending-line k an_end = omega arith

pub row_on : (t : Table) (i : ℕ) (f : Open) (fs : List Open) (g : ℕ) → Formed t (f ∷ fs) → own_region (f ∷ fs) ≡ g → (k : Kind) → Ending k
    → guards g (line_at (row_lines t i (f ∷ fs) k) 0) ≡ true
unfolding row_lines
row_on t i f fs g m e k an_else = eq-eqb (own_region (f ∷ fs)) g e
row_on t i f fs g m e k an_end = end-guards t i f fs g m ∙ eq-eqb (own_region (f ∷ fs)) g e
