-- The part that a row stands in and the innermost loop around it: the row that opened each, and what is open there.
-- Assumes that the table is accepted, where it says so.
use mathlib.Core.Path.{◌≡◌, refl, ap, ◌∙◌}
use mathlib.Core.Bool.{Bool, true, false, cond, not}
use mathlib.Core.List.{List, [], ◌∷◌}
use Prim.Native.Nat.{ℕ, zero, suc, ◌≤◌, ◌<◌}
use native.Mathlib.Omega.{arith}
use lib.ListN.{length}
use Rattle.rules.specs.declared.kind.Kind.{Kind}
use Rattle.rules.specs.declared.kind.Kind.TheVariants.{Function, Do, If, Else, Loop, End, Break, Continue, Call, Unknown}
use Rattle.rules.specs.Row.{Table, kind_at}
use Rattle.rules.specs.Scan.{Part, body, then_part, else_part, loop_body, Open, pushes, shape_of, turned, open_after_lem, regions, open_at, region_of, body_region, opener_of, around, is_loop_body, from_loop}
use Rattle.rules.specs.Check.{is_outside, is_then, misplaced_in}
use Rattle.rules.specs.Links.{is_opening}
use Rattle.rules.proofs.Logic.{clash}
use Rattle.rules.proofs.Scan.{origin}
use Rattle.rules.proofs.Value.{AllHeld, held}
use Rattle.rules.proofs.Accepted.{Proper}
use Rattle.rules.proofs.Function.{Formed, formed, is_body_lem}
use Rattle.rules.proofs.RegionBound.{is-loop-body}

-- a row that pushes a part opens something, and the other way round
pub pushes-opening : (k : Kind) {p : Part} → shape_of k ≡ pushes p → is_opening k ≡ true
pushes-opening Function e = refl
pushes-opening Do e = cc
pushes-opening If e = refl
pushes-opening Else e = cc
pushes-opening Loop e = refl
pushes-opening End e = cc
pushes-opening Break e = cc
pushes-opening Continue e = cc
pushes-opening Call e = cc
pushes-opening Unknown e = cc

-- what is open at the row that opened the part
pub outer-of : (t : Table) (i : ℕ) (fs : List Open) → AllHeld t i fs → is_outside fs ≡ false → open_at t (opener_of fs) ≡ around fs
outer-of t i [] g e = clash refl e
outer-of t i (f ∷ fs) g e = g.0.outer

pub outer : (t : Table) (i : ℕ) → is_outside (open_at t i) ≡ false → open_at t (opener_of (open_at t i)) ≡ around (open_at t i)
outer t i e = outer-of t i (open_at t i) (held t i) e

pub opened-by : (t : Table) (i : ℕ) (fs : List Open) → AllHeld t i fs → is_outside fs ≡ false
    → (opener_of fs < i) × (is_opening (kind_at t (opener_of fs)) ≡ true)
opened-by t i [] g e = clash refl e
opened-by t i (f ∷ fs) g e = (g.0.before, pushes-opening (kind_at t f.opener) g.0.by)

-- parts within others have the body of those
pub same_body : (f : Open) (fs : List Open) → is_outside fs ≡ false → body_region fs ≡ body_region (f ∷ fs)
same_body f [] e = clash refl e
same_body f (h ∷ hs) e = refl

-- ---- a loop body's region is the one that its row opened
abbrev Own : Table → List Open → Type 0
Own t [] = Unit {0}
Own t (f ∷ fs) = (is_loop_body f.part ≡ true → f.region ≡ regions t f.opener) × Own t fs

turned-loop : (p : Part) → is_loop_body (turned p) ≡ true → is_then p ≡ false
turned-loop body e = refl
turned-loop then_part e = clash e refl
turned-loop else_part e = refl
turned-loop loop_body e = refl

own-next : (t : Table) (i : ℕ) (k : Kind) (fs : List Open) → misplaced_in k fs ≡ false → Own t fs → Own t (open_after_lem (shape_of k) i (regions t i) fs)
unfolding misplaced_in
own-next t i Function fs p g = (λ e. refl, g)
own-next t i Do fs p g = g
own-next t i If fs p g = (λ e. refl, g)
own-next t i Else [] p g = tt
own-next t i Else (f ∷ fs) p g = (λ e. clash (ap not (turned-loop f.part e)) p, g.1)
own-next t i Loop fs p g = (λ e. refl, g)
own-next t i End [] p g = tt
own-next t i End (f ∷ fs) p g = g.1
own-next t i Break fs p g = g
own-next t i Continue fs p g = g
own-next t i Call fs p g = g
own-next t i Unknown fs p g = g

own : (t : Table) → Proper t → (i : ℕ) → i ≤ length t → Own t (open_at t i)
unfolding open_at
own t ok zero h = tt
own t ok (suc i) h = own-next t i (kind_at t i) (open_at t i) (ok.rows i h).placed (own t ok i (omega arith))

-- ---- the innermost loop
-- a part that is no body stands in another
pub not-outermost : (t : Table) (f : Open) (fs : List Open) → Formed t (f ∷ fs) → is_body_lem f.part ≡ false → is_outside fs ≡ false
not-outermost t f [] g e = clash (ap is_body_lem g.0) e
not-outermost t f (h ∷ hs) g e = refl

formed-tail : (t : Table) (f : Open) (fs : List Open) → Formed t (f ∷ fs) → Formed t fs
formed-tail t f [] g = tt
formed-tail t f (h ∷ hs) g = g.1

pub from-loop : (fs : List Open) → is_outside (from_loop fs) ≡ false → is_outside fs ≡ false
from-loop [] e = e
from-loop (f ∷ fs) e = refl

-- the parts ls, which are those of fs from the innermost loop on
pub record LoopOf (t : Table) (i : ℕ) (fs ls : List Open) : Type 0 where
  pub open_is : open_at t (opener_of ls) ≡ around ls
  pub pushes_it : shape_of (kind_at t (opener_of ls)) ≡ pushes loop_body
  pub before : opener_of ls < i
  pub region_is : region_of ls ≡ regions t (opener_of ls)
  pub within : is_outside (around ls) ≡ false
  pub body_is : body_region (around ls) ≡ body_region fs

loop-in : (t : Table) (i : ℕ) (fs : List Open) → AllHeld t i fs → Formed t fs → Own t fs → is_outside (from_loop fs) ≡ false → LoopOf t i fs (from_loop fs)
loop-in t i [] g m o e = clash refl e
loop-in t i (f ∷ fs) g m o e = by (is_loop_body f.part) refl e (λ x. loop-in t i fs g.1 (formed-tail t f fs m) o.1 x)
  where
    by : (b : Bool) → is_loop_body f.part ≡ b → is_outside (cond b (f ∷ fs) (from_loop fs)) ≡ false
        → (is_outside (from_loop fs) ≡ false → LoopOf t i fs (from_loop fs)) → LoopOf t i (f ∷ fs) (cond b (f ∷ fs) (from_loop fs))
    by true q x ih =
        let u = not-outermost t f fs m (ap is_body_lem (is-loop-body f.part q)) in
        record {
          open_is = g.0.outer;
          pushes_it = g.0.by ∙ ap (λ p. pushes (origin p)) (is-loop-body f.part q);
          before = g.0.before;
          region_is = o.0 q;
          within = u;
          body_is = same_body f fs u;
        }
    by false q x ih =
        let l = ih x in
        record {
          open_is = l.open_is;
          pushes_it = l.pushes_it;
          before = l.before;
          region_is = l.region_is;
          within = l.within;
          body_is = l.body_is ∙ same_body f fs (from-loop fs x);
        }

pub loop-at : (t : Table) → Proper t → (i : ℕ) → i ≤ length t → is_outside (from_loop (open_at t i)) ≡ false → LoopOf t i (open_at t i) (from_loop (open_at t i))
loop-at t ok i l e = loop-in t i (open_at t i) (held t i) (formed t ok i l) (own t ok i l) e
