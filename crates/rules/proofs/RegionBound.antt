-- Every region that a line of an accepted table names is below 64 in its function, and there are at most 32 functions.
-- Assumes that the table is accepted.
use mathlib.Core.Path.{◌≡◌, refl, sym, ap, ◌∙◌, subst}
use mathlib.Core.Bool.{Bool, true, false, cond, ◌&&◌}
use mathlib.Core.List.{List, [], ◌∷◌}
use Prim.Native.Nat.{ℕ, zero, suc, ◌-◌, ◌≤◌, ◌<◌}
use native.Mathlib.Nat.{le_refl}
use native.Mathlib.Omega.{arith}
use lib.ListN.{length}
use lib.Dec.{leb}
use borrow.Author.Tests.{leb-false, ltb-true}
use Rattle.rules.specs.declared.kind.Kind.{Kind}
use Rattle.rules.specs.declared.kind.Kind.TheVariants.{Function, Do, If, Else, Loop, End, Break, Continue, Call, Unknown}
use Rattle.rules.specs.Limits.{max_functions, max_regions}
use Rattle.rules.specs.Row.{Table, kind_at}
use Rattle.rules.specs.Scan.{Part, body, then_part, else_part, loop_body, Open, pushes, shape_of, regions_after, open_after_lem, regions, open_at, body_region, local, region_of, is_loop_body, from_loop, else_of, has_else, is_function_lem, functions}
use Rattle.rules.specs.Check.{is_outside, misplaced_in, all_constructs, all_regions, one_too_many}
use Rattle.std.proofs.lemmas.Bool.{or_parts}
use Rattle.rules.proofs.Logic.{clash}
use Rattle.rules.proofs.Accepted.{Proper}
use Rattle.rules.proofs.Scan.{Chain, chain, regions-next, open_next}
use Rattle.rules.proofs.Value.{Held, AllHeld, held}
use Rattle.rules.proofs.Close.{else_is}
use Rattle.rules.proofs.Function.{Formed, formed, home}

-- ---- g regions are opened: at most 64 of them in the open function
abbrev Roomy : (g : ℕ) → List Open → Type 0
Roomy g [] = Unit {0}
Roomy g (f ∷ fs) = g - body_region (f ∷ fs) ≤ max_regions

few_regions : (g : ℕ) (fs : List Open) → all_regions g fs ≡ false → g - body_region fs < max_regions
few_regions g fs e = leb-false max_regions (g - body_region fs) e

roomy-next : (i : ℕ) (k : Kind) (g : ℕ) (fs : List Open) → misplaced_in k fs ≡ false → one_too_many k g fs ≡ false → Roomy g fs
    → Roomy (regions_after (shape_of k) g) (open_after_lem (shape_of k) i g fs)
unfolding misplaced_in one_too_many
roomy-next i Function g [] p q r = omega arith
roomy-next i Function g (f ∷ fs) p q r = clash refl p
roomy-next i Do g fs p q r = r
roomy-next i If g [] p q r = clash refl p
roomy-next i If g (f ∷ fs) p q r = omega (arith, few_regions g (f ∷ fs) (or_parts (all_constructs (f ∷ fs)) _ q).1)
roomy-next i Else g [] p q r = tt
roomy-next i Else g (f ∷ []) p q r = omega arith
roomy-next i Else g (f ∷ h ∷ hs) p q r = omega (arith, few_regions g (f ∷ h ∷ hs) q)
roomy-next i Loop g [] p q r = clash refl p
roomy-next i Loop g (f ∷ fs) p q r = omega (arith, few_regions g (f ∷ fs) (or_parts (all_constructs (f ∷ fs)) _ q).1)
roomy-next i End g [] p q r = tt
roomy-next i End g (f ∷ []) p q r = tt
roomy-next i End g (f ∷ h ∷ hs) p q r = r
roomy-next i Break g fs p q r = r
roomy-next i Continue g fs p q r = r
roomy-next i Call g fs p q r = r
roomy-next i Unknown g fs p q r = r

roomy : (t : Table) → Proper t → (i : ℕ) → i ≤ length t → Roomy (regions t i) (open_at t i)
unfolding regions open_at
roomy t ok zero h = tt
roomy t ok (suc i) h =
    roomy-next i (kind_at t i) (regions t i) (open_at t i) (ok.rows i h).placed (ok.rows i h).few_parts (roomy t ok i (omega arith))

pub regions-few : (t : Table) → Proper t → (i : ℕ) {f : Open} {fs : List Open} → i ≤ length t → open_at t i ≡ f ∷ fs → local (f ∷ fs) (regions t i) ≤ max_regions
regions-few t ok i h q = subst (Roomy (regions t i)) q (roomy t ok i h)

-- a region that is opened before row i is below 64 in its function
pub local-bound : (t : Table) → Proper t → (i : ℕ) {f : Open} {fs : List Open} → i ≤ length t → open_at t i ≡ f ∷ fs
    → (g : ℕ) → g < regions t i → local (f ∷ fs) g < max_regions
local-bound t ok i h q g l = omega (arith, regions-few t ok i h q)

-- ---- the regions that the lines of row i name
chain-at : (t : Table) (i : ℕ) {fs : List Open} → open_at t i ≡ fs → Chain (regions t i) fs
chain-at t i q = subst (Chain (regions t i)) q (chain t i)

-- its own
pub own-bound : (t : Table) → Proper t → (i : ℕ) {f : Open} {fs : List Open} → i ≤ length t → open_at t i ≡ f ∷ fs
    → local (f ∷ fs) f.region < max_regions
own-bound t ok i {f} {fs} h q = local-bound t ok i h q f.region (chain-at t i q).0

-- that of the part around it, which is no greater; 0 where there is none
pub around-below : (f : Open) (fs : List Open) (b : ℕ) → Chain b (f ∷ fs) → region_of fs ≤ f.region
around-below f [] b k = omega arith
around-below f (h ∷ hs) b k = omega (arith, k.1.0)

pub around-bound : (t : Table) → Proper t → (i : ℕ) {f : Open} {fs : List Open} → i ≤ length t → open_at t i ≡ f ∷ fs
    → local (f ∷ fs) (region_of fs) < max_regions
around-bound t ok i {f} {fs} h q = by fs refl
  where
    by : (hs : List Open) → fs ≡ hs → local (f ∷ fs) (region_of hs) < max_regions
    by [] e = omega arith
    by (x ∷ hs) e = local-bound t ok i h q x.region (omega (arith, chain-at t i (q ∙ ap (λ y. f ∷ y) e)))

-- the one that row i opens
pub opened-bound : (t : Table) → Proper t → (i : ℕ) {k : Kind} {p : Part} {f : Open} {fs : List Open} → i < length t → kind_at t i ≡ k
    → shape_of k ≡ pushes p → open_at t i ≡ f ∷ fs → local (f ∷ fs) (regions t i) < max_regions
opened-bound t ok i {k} {p} {f} {fs} h e s q =
    local-bound t ok (suc i) h (open_next t i e q ∙ ap (λ x. open_after_lem x i (regions t i) (f ∷ fs)) s) (regions t i)
    (omega (arith, regions-next t i e ∙ ap (λ x. regions_after x (regions t i)) s))

-- that of its else part
pub else-bound : (t : Table) → Proper t → (i : ℕ) {f : Open} {fs : List Open} → i < length t → has_else t i ≡ true → open_at t i ≡ f ∷ fs
    → local (f ∷ fs) (regions t (else_of t i)) < max_regions
else-bound t ok i {f} {fs} h e q =
    let c = else_is t i h e in
    local-bound t ok (suc (else_of t i)) (ltb-true (else_of t i) (length t) e)
    (c.open_after ∙ ap (λ x. record { part = c.part; opener = i; region = regions t (else_of t i) } ∷ x) q) (regions t (else_of t i))
    (omega (arith, regions-next t (else_of t i) c.kind_is))

-- ---- functions
pub functions-bound : (t : Table) → Proper t → (i : ℕ) → i ≤ length t → functions t i ≤ max_functions
unfolding functions
functions-bound t ok zero h = omega arith
functions-bound t ok (suc i) h = by (is_function_lem (kind_at t i)) (ok.rows i h).few_functions (functions-bound t ok i (omega arith))
  where
    by : (b : Bool) → b && leb max_functions (functions t i) ≡ false → functions t i ≤ max_functions
        → cond b (suc (functions t i)) (functions t i) ≤ max_functions
    by true e l = leb-false max_functions (functions t i) e
    by false e l = l

-- ---- the loop around a break or a continue
pub is-loop-body : (p : Part) → is_loop_body p ≡ true → p ≡ loop_body
is-loop-body body e = cc
is-loop-body then_part e = cc
is-loop-body else_part e = cc
is-loop-body loop_body e = refl

-- the innermost open loop of the parts f ∷ fs before row i, and what is open around it
pub record LoopAround (t : Table) (i : ℕ) (f : Open) (fs : List Open) : Type 0 where
  pub it : Open
  pub next : Open
  pub others : List Open
  pub from_it : from_loop (f ∷ fs) ≡ it ∷ next ∷ others
  pub is_loop : it.part ≡ loop_body
  pub holds : Held t i it (next ∷ others)
  pub same_home : home (next ∷ others) ≡ home (f ∷ fs)
  pub not_above : it.region ≤ f.region
  pub next_below : next.region < it.region

loop-here : (t : Table) (i b : ℕ) (f : Open) (fs : List Open) → Formed t (f ∷ fs) → AllHeld t i (f ∷ fs) → Chain b (f ∷ fs)
    → is_outside (from_loop (f ∷ fs)) ≡ false → LoopAround t i f fs
loop-here t i b f [] g a c e = clash (ap (λ p. is_outside (cond (is_loop_body p) (f ∷ []) [])) g.0) e
loop-here t i b f (h ∷ hs) g a c e = by (is_loop_body f.part) refl (loop-here t i f.region h hs g.1 a.1 c.1)
  where
    by : (v : Bool) → is_loop_body f.part ≡ v → (is_outside (from_loop (h ∷ hs)) ≡ false → LoopAround t i h hs) → LoopAround t i f (h ∷ hs)
    by true q ih =
        record {
          it = f;
          next = h;
          others = hs;
          from_it = ap (λ v. cond v (f ∷ h ∷ hs) (from_loop (h ∷ hs))) q;
          is_loop = is-loop-body f.part q;
          holds = a.0;
          same_home = refl;
          not_above = le_refl _;
          next_below = c.1.0;
        }
    by false q ih =
        let s : from_loop (f ∷ h ∷ hs) ≡ from_loop (h ∷ hs) = ap (λ v. cond v (f ∷ h ∷ hs) (from_loop (h ∷ hs))) q in
        let l = ih (ap is_outside (sym s) ∙ e) in
        record {
          it = l.it;
          next = l.next;
          others = l.others;
          from_it = s ∙ l.from_it;
          is_loop = l.is_loop;
          holds = l.holds;
          same_home = l.same_home;
          not_above = omega (arith, l.not_above, c.1.0);
          next_below = l.next_below;
        }

pub loop-around : (t : Table) → Proper t → (i : ℕ) {f : Open} {fs : List Open} → i ≤ length t → open_at t i ≡ f ∷ fs
    → is_outside (from_loop (f ∷ fs)) ≡ false → LoopAround t i f fs
loop-around t ok i {f} {fs} h q e =
    loop-here t i (regions t i) f fs (subst (Formed t) q (formed t ok i h)) (subst (AllHeld t i) q (held t i)) (chain-at t i q) e
