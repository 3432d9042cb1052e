-- Which part an else row or an end row closes, and whether an if has an else part, from what the code reads. Assumes nothing.
use mathlib.Core.Path.{◌≡◌, refl, ap, ◌∙◌}
use mathlib.Core.Bool.{Bool, true, false, cond}
use mathlib.Core.List.{List, [], ◌∷◌}
use Prim.Native.Nat.{ℕ, suc, ◌-◌, ◌≤◌, ◌<◌}
use native.Mathlib.Omega.{arith}
use lib.ListN.{length}
use lib.Dec.{eqb}
use borrow.Author.Tests.{eqb-true, eqb-false}
use Rattle.rules.specs.declared.kind.Kind.{Kind}
use Rattle.rules.specs.declared.kind.Kind.TheVariants.{Function, Do, If, Else, Loop, End, Break, Continue, Call, Unknown}
use Rattle.rules.specs.Row.{Table, table_of, kind_at}
use Rattle.rules.specs.Scan.{Part, body, then_part, else_part, loop_body, Open, pushes, shape_of, open_at, part_of, opener_of, region_of, body_region, around, is_loop_body, else_of, has_else, is_else_of}
use Rattle.rules.specs.Check.{is_outside, misplaced_in}
use Rattle.rules.specs.Links.{else_link}
use Rattle.rules.proofs.Logic.{clash, not-false}
use Rattle.rules.proofs.Search.{Found, hit, miss, found}
use Rattle.rules.proofs.Scan.{Chain, body-least, origin}
use Rattle.rules.proofs.Value.{AllHeld, held}
use Rattle.rules.proofs.Function.{Formed, is_body_lem}
use Rattle.layout.specs.Spot.{Inside, is_loop_lem, OpenerIs}
use Rattle.layout.proofs.Survey.{is-then}
use Rattle.layout.proofs.Around.{not-outermost}

-- ---- else rows
-- a then part lies in another
pub then-within : (t : Table) (fs : List Open) → Formed t fs → misplaced_in Else fs ≡ false → is_outside (around fs) ≡ false
unfolding misplaced_in
then-within t [] g e = clash refl e
then-within t (f ∷ fs) g e = not-outermost t f fs g (ap is_body_lem (is-then f.part (not-false _ e)))

-- ---- end rows
-- which part an end row closes
pub body-part : (t : Table) (b : ℕ) (fs : List Open) → Formed t fs → Chain b fs → is_outside fs ≡ false → eqb (region_of fs) (body_region fs) ≡ true → part_of fs ≡ body
body-part t b [] g k n e = clash refl n
body-part t b (f ∷ []) g k n e = g.0
body-part t b (f ∷ h ∷ hs) g k n e =
    absurd (bad (eqb-true f.region (body_region (h ∷ hs)) e) (body-least f.region h hs k.1))
  where
    bad : f.region ≡ body_region (h ∷ hs) → body_region (h ∷ hs) ≤ h.region → ⊥
    bad x y = omega arith

pub not_body : (fs : List Open) → is_outside fs ≡ false → eqb (region_of fs) (body_region fs) ≡ false → is_outside (around fs) ≡ false
not_body [] n e = clash refl n
not_body (f ∷ []) n e = absurd (eqb-false f.region f.region e refl)
not_body (f ∷ h ∷ hs) n e = refl

pub part-not-body : (t : Table) (fs : List Open) → Formed t fs → is_outside (around fs) ≡ false → is_body_lem (part_of fs) ≡ false
part-not-body t [] g e = clash refl e
part-not-body t (f ∷ []) g e = clash refl e
part-not-body t (f ∷ h ∷ hs) g e = g.0

pushes-loop : (k : Kind) (p : Part) → shape_of k ≡ pushes (origin p) → is_loop_lem k ≡ is_loop_body p
pushes-loop Function body e = refl
pushes-loop Function then_part e = refl
pushes-loop Function else_part e = refl
pushes-loop Function loop_body e = cc
pushes-loop Do p e = cc
pushes-loop If body e = refl
pushes-loop If then_part e = refl
pushes-loop If else_part e = refl
pushes-loop If loop_body e = cc
pushes-loop Else p e = cc
pushes-loop Loop body e = cc
pushes-loop Loop then_part e = cc
pushes-loop Loop else_part e = cc
pushes-loop Loop loop_body e = refl
pushes-loop End p e = cc
pushes-loop Break p e = cc
pushes-loop Continue p e = cc
pushes-loop Call p e = cc
pushes-loop Unknown p e = cc

pushed-by : (t : Table) (i : ℕ) (fs : List Open) → AllHeld t i fs → is_outside fs ≡ false → shape_of (kind_at t (opener_of fs)) ≡ pushes (origin (part_of fs))
pushed-by t i [] g e = clash refl e
pushed-by t i (f ∷ fs) g e = g.0.by

pub part-loop : {bs : List ℕ} {i o : ℕ} {k : Bool} → Inside bs i → OpenerIs bs i o → k ≡ is_loop_lem (kind_at (table_of bs) o) → k ≡ is_loop_body (part_of (open_at (table_of bs) i))
part-loop {bs} {i} {o} n p q =
    q ∙ pushes-loop (kind_at (table_of bs) o) (part_of (open_at (table_of bs) i))
    (ap (λ x. shape_of (kind_at (table_of bs) x)) p.is ∙ pushed-by (table_of bs) i (open_at (table_of bs) i) (held (table_of bs) i) n.within)

-- ---- if rows
-- the else row comes later, so that the link is 0 only where there is none
later : (t : Table) (i : ℕ) → i < else_of t i
unfolding else_of
later t i = by (else_of t i) (found (is_else_of t i) (length t - i) (suc i))
  where
    by : (r : ℕ) → Found (is_else_of t i) (length t - i) (suc i) r → i < r
    by r (hit h a b f) = omega arith
    by r (miss q f) = omega arith

pub no-else : (t : Table) (i : ℕ) → else_link t i ≡ 0 → has_else t i ≡ false
unfolding else_link
no-else t i e = by (has_else t i) refl e
  where
    by : (b : Bool) → has_else t i ≡ b → cond b (else_of t i) 0 ≡ 0 → has_else t i ≡ false
    by true q x = absurd (let l = later t i in omega arith)
    by false q x = q

pub an_else : (t : Table) (i : ℕ) → (else_link t i ≡ 0 → ⊥) → (has_else t i ≡ true) × (else_link t i ≡ else_of t i)
unfolding else_link
an_else t i e = by (has_else t i) refl e
  where
    by : (b : Bool) → has_else t i ≡ b → (cond b (else_of t i) 0 ≡ 0 → ⊥) → (has_else t i ≡ true) × (cond b (else_of t i) 0 ≡ else_of t i)
    by true q x = (q, refl)
    by false q x = absurd (x refl)
