-- No guard of the counter form that lies across another passes: a guard passes only at the run's own place, or at the tick of the do
-- before or after it, and no guard lies between those; and region 0 has not ended anywhere before the ret. Assumes that the table is accepted.
use mathlib.Core.Logic.{◌⊎◌, inl, inr}
use mathlib.Core.Path.{◌≡◌, refl, sym, ap, ◌∙◌, subst}
use mathlib.Core.Bool.{Bool, true, false, cond}
use mathlib.Core.List.{List, [], ◌∷◌}
use Prim.Native.Nat.{ℕ, ◌+◌, ◌-◌, ◌≤◌, ◌<◌}
use native.Mathlib.Nat.{eq-or-lt_of_le, add-zero}
use native.Mathlib.Omega.{arith}
use lib.ListN.{length}
use lib.Dec.{eqb}
use borrow.Author.Tests.{eqb-true, ne_eqb}
use Rattle.rules.specs.declared.kind.Kind.TheVariants.{Do, End}
use Rattle.rules.specs.Row.{Table, kind_at}
use Rattle.rules.specs.Scan.{Part, body, then_part, else_part, loop_body, Open, open_at, body_region, function_row, end_of}
use Rattle.rules.specs.Value.{inside, takes, value}
use Rattle.rules.specs.Line.{Line}
use Rattle.rules.specs.Harden.{line_of, end_value, harden}
use Rattle.rules.proofs.Accepted.{Proper}
use Rattle.rules.proofs.Value.{AllHeld, held, Held, value-moves}
use Rattle.rules.proofs.Function.{part-takes, InFunction, function-end, body_is, not-past-end, not-silent}
use Rattle.rules.proofs.Parts.{holding, body_below}
use Rattle.rules.proofs.Counter.Counters.{counter_of, counters, at-region}
use Rattle.rules.proofs.Counter.Unique.{unique}
use Rattle.rules.proofs.Guard.{checks_at, checks_for, phase_of, Guards}
use Rattle.rules.proofs.Between.{Between, not_same, not-over-do}
use Rattle.rules.proofs.Form.Where.{From, at_guard, before_do, Stands}

-- the guard that the run stands before, or will after its do, is not across a guard
pub own-guard : (t : Table) (i j k k' ph e ph' d : ℕ) → j < length t → i ≡ j → e ≡ d → k ≡ line_of t i + ph → k' ≡ line_of t j + ph' → From t i ph e → ph' ≡ phase_of (kind_at t j) d → Between (harden t) k k' → ⊥
own-guard t i j k k' ph e ph' d l ij ed a b (at_guard p) q w =
    not_same (harden t) k k' (omega (arith, ap (line_of t) ij, ap (λ x. phase_of (kind_at t x) e) ij, ap (phase_of (kind_at t j)) ed)) w
own-guard t i j k k' ph e ph' d l ij ed a b (before_do r p x) q w =
    let rj : kind_at t j ≡ Do = ap (kind_at t) (sym ij) ∙ r in
    not-over-do t j k k' l rj (inl (omega (arith, ap (line_of t) ij), omega (arith, ap (λ x. phase_of x d) rj))) w

-- ---- a guard of row j passes at the counters of row i only where it is the run's own
module _ (t : Table) (ok : Proper t) (n k w : ℕ) (f : Open) (fs : List Open) (st : Stands t n k w f fs) where
  passes : (j ph d : ℕ) (h : Open) (hs : List Open) (ℓ : Line) → InFunction t n j h hs → Guards t j h hs ph d ℓ
      → eqb (counters t (body_region (f ∷ fs)) (f ∷ fs) w (checks_at ℓ)) (checks_for ℓ) ≡ true → (st.i ≡ j) × (st.e ≡ d)
  passes j ph d h hs ℓ mj g x =
      let bb : body_region (h ∷ hs) ≡ body_region (f ∷ fs) = body_is t ok mj ∙ sym (body_is t ok st.in_function) in
      let zh : body_region (f ∷ fs) ≤ h.region = omega (arith, body_below t mj) in
      unique t ok j h hs d mj.within mj.open_is g.within g.at_opener fs f st.i st.e st.in_function.within st.in_function.open_is st.within
      (ap (λ y. counter_of t (f ∷ fs) y h.region) (sym st.holds) ∙ sym (at-region t (body_region (f ∷ fs)) (f ∷ fs) w h.region zh)
      ∙ ap (counters t (body_region (f ∷ fs)) (f ∷ fs) w) (sym (g.at_own ∙ ap (λ y. h.region - y) bb)) ∙ eqb-true _ _ x ∙ g.for_value)

  pub refused : (j ph d : ℕ) (h : Open) (hs : List Open) (ℓ : Line) → InFunction t n j h hs → Guards t j h hs ph d ℓ → ((st.i ≡ j) × (st.e ≡ d) → ⊥)
      → eqb (counters t (body_region (f ∷ fs)) (f ∷ fs) w (checks_at ℓ)) (checks_for ℓ) ≡ false
  refused j ph d h hs ℓ mj g nope = by (eqb (counters t (body_region (f ∷ fs)) (f ∷ fs) w (checks_at ℓ)) (checks_for ℓ)) refl
    where
      by : (b : Bool) → eqb (counters t (body_region (f ∷ fs)) (f ∷ fs) w (checks_at ℓ)) (checks_for ℓ) ≡ b → eqb (counters t (body_region (f ∷ fs)) (f ∷ fs) w (checks_at ℓ)) (checks_for ℓ) ≡ false
      by true x = absurd (nope (passes j ph d h hs ℓ mj g x))
      by false x = x

-- ---- region 0 has not ended: up to the end row its counter is at most the end row's value
end-takes : (p : Part) → takes End p ≤ 1
end-takes body = omega arith
end-takes then_part = omega arith
end-takes else_part = omega arith
end-takes loop_body = omega arith

module _ (t : Table) (ok : Proper t) (j : ℕ) (h : Open) (ej : kind_at t j ≡ End) (sj : open_at t j ≡ h ∷ []) (jl : j < length t) where
  top-le : (f : Open) (fs : List Open) (i e : ℕ) → open_at t i ≡ f ∷ fs → e ≤ takes (kind_at t i) f.part - 1 → h.region ≡ f.region → (i ≡ j) ⊎ (i < j) → value t f.region i + e ≤ value t h.region j
  top-le f fs i e k a q (inl x) = omega (arith, end-takes f.part, ap (λ r. takes r f.part) (ap (kind_at t) x ∙ ej), ap (value t f.region) x, ap (λ y. value t y j) q)
  top-le f fs i e k a q (inr x) =
      let mv = value-moves t i j f h fs [] k sj q x (not-silent t ok i (omega arith) k) in
      omega (arith, mv.0, mv.1, ap (λ y. value t y j) q)

  cond-le : (f : Open) (fs : List Open) (i e : ℕ) → open_at t i ≡ f ∷ fs → e ≤ takes (kind_at t i) f.part - 1 → i ≤ j
      → counter_of t fs (holding t f fs) h.region ≤ value t h.region j → (b : Bool) → eqb h.region f.region ≡ b
      → cond b (value t f.region i + e) (counter_of t fs (holding t f fs) h.region) ≤ value t h.region j
  cond-le f fs i e k a l d true q = top-le f fs i e k a (eqb-true h.region f.region q) (eq-or-lt_of_le l)
  cond-le f fs i e k a l d false q = d

  not_past : (fs : List Open) (f : Open) (i e : ℕ) → open_at t i ≡ f ∷ fs → e ≤ takes (kind_at t i) f.part - 1 → i ≤ j
      → counter_of t (f ∷ fs) (value t f.region i + e) h.region ≤ value t h.region j
  not_past [] f i e k a l = cond-le f [] i e k a l (omega arith) (eqb h.region f.region) refl
  not_past (g ∷ gs) f i e k a l =
      let m : Held t i f (g ∷ gs) = (subst (AllHeld t i) k (held t i)).0 in
      cond-le f (g ∷ gs) i e k a l (not_past gs g f.opener inside m.outer (omega (arith, part-takes t ok i f g gs g.part (omega arith) k)) (omega (arith, m.before)))
      (eqb h.region f.region) refl

pub not-ended : (t : Table) → Proper t → (n k w : ℕ) (f : Open) (fs : List Open) → Stands t n k w f fs
    → eqb (counters t (body_region (f ∷ fs)) (f ∷ fs) w 0) (end_value t n) ≡ false
unfolding end_value
not-ended t ok n k w f fs st =
    let m = st.in_function in
    let fe = function-end t ok n m.known in
    let np = not_past t ok (end_of t (function_row t n)) fe.0 fe.1.kind_is fe.1.open_is fe.1.within fs f st.i st.e m.open_is st.within (not-past-end t ok m) in
    let c0 : counters t (body_region (f ∷ fs)) (f ∷ fs) w 0 ≡ counter_of t (f ∷ fs) (value t f.region st.i + st.e) fe.0.region
    = ap (counter_of t (f ∷ fs) w) (add-zero (body_region (f ∷ fs)) ∙ body_is t ok m ∙ sym fe.1.region_is) ∙ ap (λ y. counter_of t (f ∷ fs) y fe.0.region) st.holds in
    ne_eqb _ _ (λ x. omega (arith, c0, np, ap (λ y. value t y (end_of t (function_row t n))) fe.1.region_is))
