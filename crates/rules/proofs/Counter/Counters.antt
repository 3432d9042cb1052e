-- The counters of an unstruck run, as a function of the open parts alone, and what each line does to them. Assumes nothing.
-- A region's number in its function is its number less that of the function's body, z.
use mathlib.Core.Logic.{◌≢◌}
use mathlib.Core.Path.{◌≡◌, refl, sym, ap, ◌∙◌, fun_ext}
use mathlib.Core.Bool.{Bool, true, false, cond, ◌&&◌}
use mathlib.Core.List.{List, [], ◌∷◌}
use Prim.Native.Nat.{ℕ, suc, ◌+◌, ◌-◌, ◌≤◌, ◌<◌}
use native.Mathlib.Omega.{arith}
use lib.Dec.{eqb, leb}
use borrow.Author.Tests.{eqb-true, eqb-false, eq-eqb, ne_eqb, leb-true, leb-false}
use Rattle.rules.specs.Row.{Table}
use Rattle.rules.specs.Scan.{Open, region_of, opener_of, around, is_loop_body, from_loop}
use Rattle.rules.specs.Value.{inside, value_in}
use Rattle.rules.specs.Hardened.{Counters, clear, put, clear_from}
use Rattle.rules.proofs.Logic.{clash}
use Rattle.rules.proofs.Scan.{Chain, NotIn, chain-not-in}
use Rattle.rules.proofs.Parts.{holding, loop-in}

-- The counter of region x, where the innermost of the parts fs holds v: each part around holds what its inner part's row left,
-- and every other region 0.
abbrev pub counter_of : Table → List Open → ℕ → ℕ → ℕ
counter_of t [] v x = 0
counter_of t (f ∷ fs) v x = cond (eqb x f.region) v (counter_of t fs (holding t f fs) x)

-- the same by the numbers inside the function
abbrev pub counters : Table → (z : ℕ) → List Open → ℕ → Counters
counters t z fs v x = counter_of t fs v (z + x)

shift : (z g x : ℕ) → z ≤ g → eqb x (g - z) ≡ eqb (z + x) g
shift z g x h = grind arith

pub at-region : (t : Table) (z : ℕ) (fs : List Open) (v g : ℕ) → z ≤ g → counters t z fs v (g - z) ≡ counter_of t fs v g
at-region t z fs v g h = ap (counter_of t fs v) (omega arith)

pub counter-top : (t : Table) (f : Open) (fs : List Open) (v : ℕ) → counter_of t (f ∷ fs) v f.region ≡ v
counter-top t f fs v = rw (eq-eqb f.region f.region refl)

pub counter-under : (t : Table) (f : Open) (fs : List Open) (v x : ℕ) → x ≢ f.region → counter_of t (f ∷ fs) v x ≡ counter_of t fs (holding t f fs) x
counter-under t f fs v x h = rw (ne_eqb x f.region h)

counter-off : (t : Table) (fs : List Open) (v x : ℕ) → NotIn x fs → counter_of t fs v x ≡ 0
counter-off t [] v x n = refl
counter-off t (f ∷ fs) v x n = counter-under t f fs v x (λ e. n.0 (sym e)) ∙ counter-off t fs _ x n.1

-- ---- the innermost region gets w
pub put-top : (t : Table) (z : ℕ) (f : Open) (fs : List Open) (v w : ℕ) → z ≤ f.region → put (f.region - z) w (counters t z (f ∷ fs) v) ≡ counters t z (f ∷ fs) w
put-top t z f fs v w h = fun_ext (λ x. rw (shift z f.region x h) (grind arith))

-- ---- a part opens
pub put-new : (t : Table) (z : ℕ) (n : Open) (fs : List Open) (b v : ℕ) → z ≤ n.region → v ≡ holding t n fs → put (n.region - z) b (counters t z fs v) ≡ counters t z (n ∷ fs) b
put-new t z n fs b v h e = fun_ext (λ x. rw (shift z n.region x h, e))

-- ---- a function opens
pub put-body : (t : Table) (n : Open) (b : ℕ) → put 0 b clear ≡ counters t n.region (n ∷ []) b
put-body t n b = fun_ext (λ x. ap (λ y. cond y b 0) (grind arith))

-- ---- a part closes, and the region around gets a
leave-at : (t : Table) (f h : Open) (hs : List Open) (v a y : ℕ) → Chain f.region (h ∷ hs) → (p q : Bool) → eqb y h.region ≡ p → eqb y f.region ≡ q
    → cond p a (cond q 0 (cond q v (cond p (holding t f (h ∷ hs)) (counter_of t hs (holding t h hs) y)))) ≡ cond p a (counter_of t hs (holding t h hs) y)
leave-at t f h hs v a y k true q e₁ e₂ = refl
leave-at t f h hs v a y k false true e₁ e₂ = sym (counter-off t hs _ y (chain-not-in y hs (omega (arith, eqb-true y f.region e₂)) k.1))
leave-at t f h hs v a y k false false e₁ e₂ = refl

pub put-leave : (t : Table) (z : ℕ) (f h : Open) (hs : List Open) (v a : ℕ) → z ≤ h.region → Chain f.region (h ∷ hs)
    → put (h.region - z) a (put (f.region - z) 0 (counters t z (f ∷ h ∷ hs) v)) ≡ counters t z (h ∷ hs) a
put-leave t z f h hs v a l k = fun_ext (λ x. rw (shift z h.region x l, shift z f.region x (omega arith))
    (leave-at t f h hs v a (z + x) k (eqb (z + x) h.region) (eqb (z + x) f.region) refl refl))

-- ---- break and continue: the parts up to the innermost loop body close
counter-skip : (t : Table) (fs : List Open) (b : ℕ) (l : Open) (hs : List Open) (v y : ℕ) → from_loop fs ≡ l ∷ hs → Chain b fs → y < l.region
    → counter_of t fs v y ≡ counter_of t hs (holding t l hs) y
counter-skip t [] b l hs v y e k h = clash {b = true} refl cc
counter-skip t (f ∷ fs) b l hs v y e k h =
    by (is_loop_body f.part) e (λ q. counter-skip t fs f.region l hs (holding t f fs) y q k.1 h)
  where
    by : (d : Bool) → cond d (f ∷ fs) (from_loop fs) ≡ l ∷ hs → (from_loop fs ≡ l ∷ hs → counter_of t fs (holding t f fs) y ≡ counter_of t hs (holding t l hs) y)
        → counter_of t (f ∷ fs) v y ≡ counter_of t hs (holding t l hs) y
    by true q ih =
        let r : f.region ≡ l.region = ap region_of q in
        counter-under t f fs v y (omega arith) ∙ ap (λ (g : List Open). counter_of t (around g) (value_in t (opener_of g) (around g) + inside) y) q
    by false q ih = counter-under t f fs v y (omega (arith, (loop-in fs f.region l hs q k.1).low)) ∙ ih q

shift_le : (z g x : ℕ) → z ≤ g → leb (g - z) x ≡ leb g (z + x)
shift_le z g x h = grind arith

shift-ge : (z g x : ℕ) → z ≤ g → leb x (g - z) ≡ leb (z + x) g
shift-ge z g x h = grind arith

out_at : (t : Table) (f : Open) (fs : List Open) (l h : Open) (hs : List Open) (v a y : ℕ) → from_loop (f ∷ fs) ≡ l ∷ h ∷ hs → Chain (suc f.region) (f ∷ fs)
    → (p q r : Bool) → eqb y h.region ≡ p → leb l.region y ≡ q → leb y f.region ≡ r
    → cond p a (cond (q && r) 0 (counter_of t (f ∷ fs) v y)) ≡ cond p a (counter_of t hs (holding t h hs) y)
out_at t f fs l h hs v a y e k true q r e₁ e₂ e₃ = refl
out_at t f fs l h hs v a y e k false true true e₁ e₂ e₃ =
    let i = loop-in (f ∷ fs) (suc f.region) l (h ∷ hs) e k in
    sym (counter-off t hs _ y (chain-not-in y hs (omega (arith, leb-true l.region y e₂, i.rest.0)) i.rest.1))
out_at t f fs l h hs v a y e k false true false e₁ e₂ e₃ =
    let i = loop-in (f ∷ fs) (suc f.region) l (h ∷ hs) e k in
    counter-off t (f ∷ fs) v y (chain-not-in y (f ∷ fs) (omega (arith, leb-false y f.region e₃)) k)
    ∙ sym (counter-off t hs _ y (chain-not-in y hs (omega (arith, leb-true l.region y e₂, i.rest.0)) i.rest.1))
out_at t f fs l h hs v a y e k false false r e₁ e₂ e₃ =
    counter-skip t (f ∷ fs) (suc f.region) l (h ∷ hs) v y e k (leb-false l.region y e₂)
    ∙ counter-under t h hs _ y (eqb-false y h.region e₁)

pub put-out : (t : Table) (z : ℕ) (f : Open) (fs : List Open) (l h : Open) (hs : List Open) (v a : ℕ) → from_loop (f ∷ fs) ≡ l ∷ h ∷ hs → Chain (suc f.region) (f ∷ fs) → z ≤ h.region
    → put (h.region - z) a (clear_from (l.region - z) (f.region - z) (counters t z (f ∷ fs) v)) ≡ counters t z (h ∷ hs) a
put-out t z f fs l h hs v a e k b =
    let i = loop-in (f ∷ fs) (suc f.region) l (h ∷ hs) e k in
    let zl : z ≤ l.region = omega (arith, i.rest.0) in
    let zf : z ≤ f.region = omega (arith, i.low) in
    fun_ext (λ x. rw (shift z h.region x b, shift_le z l.region x zl, shift-ge z f.region x zf)
    (out_at t f fs l h hs v a (z + x) e k (eqb (z + x) h.region) (leb l.region (z + x)) (leb (z + x) f.region) refl refl refl))
