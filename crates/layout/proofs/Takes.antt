-- What a row takes, by its kind. Assumes nothing.
use mathlib.Core.Path.{◌≡◌, refl, sym, ap, ◌∙◌, subst}
use mathlib.Core.Bool.{Bool, true, false}
use mathlib.Core.Logic.{◌⊎◌, inl, inr}
use lib.Dec.{eqb}
use borrow.Author.Tests.{eqb-true, eqb-false}
use mir.Val.{bool_byte}
use mathlib.Core.List.{List, [], ◌∷◌}
use Prim.Native.Nat.{ℕ, ◌/◌, ◌≤◌, ◌<◌}
use native.Mathlib.Omega.{arith}
use lib.ListN.{length}
use Rattle.rules.specs.declared.kind.Kind.{Kind}
use Rattle.rules.specs.declared.kind.Kind.TheVariants.{Function, Do, If, Else, Loop, End, Break, Continue, Call, Unknown}
use Rattle.rules.specs.Row.{Table, table_of, kind_at}
use Rattle.rules.specs.Scan.{Part, Open, open_at, regions, region_of, body_region}
use Rattle.rules.specs.Value.{takes, takes_in}
use Rattle.rules.specs.Check.{is_outside, misplaced_in}
use Rattle.rules.proofs.Scan.{Chain, chain, body-least}
use Rattle.rules.proofs.Value.{takes-top}
use Rattle.rules.proofs.Function.{Formed, formed, end-takes-none}
use Rattle.layout.specs.declared.scope.Scope.{Scope}
use Rattle.layout.specs.Scope.{scope_of, Stands}
use Rattle.layout.specs.Number.{takes_at}
use Rattle.layout.proofs.Around.{from-loop}
use Rattle.layout.proofs.Survey.{ok, within, kind_is, not-misplaced, some-open}

-- where something is open
open-takes : (t : Table) (i : ℕ) (k : Kind) (d : ℕ) → kind_at t i ≡ k → is_outside (open_at t i) ≡ false → ((p : Part) → takes k p ≡ d) → d ≡ takes_at t i
unfolding takes_at
open-takes t i k d e o h = let z = some-open (open_at t i) o in by z.0 z.1 z.2
  where
    by : (f : Open) (hs : List Open) → open_at t i ≡ f ∷ hs → d ≡ takes_in (kind_at t i) (region_of (open_at t i)) (open_at t i)
    by f hs q = rw (q, e) (sym (takes-top k f hs ∙ h f.part))

-- where the kind takes nothing
no_takes : (t : Table) (i : ℕ) (k : Kind) → kind_at t i ≡ k → ((p : Part) → takes k p ≡ 0) → 0 ≡ takes_at t i
unfolding takes_at
no_takes t i k e h = by (open_at t i)
  where
    by : (fs : List Open) → 0 ≡ takes_in (kind_at t i) (region_of fs) fs
    by [] = refl
    by (f ∷ fs) = rw e (sym (takes-top k f fs ∙ h f.part))

-- the end of the body, and of another part
body_end : (t : Table) (b : ℕ) (f : Open) (fs : List Open) → Formed t (f ∷ fs) → Chain b (f ∷ fs) → f.region ≡ body_region (f ∷ fs) → takes End f.part ≡ 1
body_end t b f [] g k e = ap (takes End) g.0
body_end t b f (h ∷ hs) g k e = absurd (let l = body-least f.region h hs k.1 in omega arith)

part_end : (t : Table) (f : Open) (fs : List Open) → Formed t (f ∷ fs) → (f.region ≡ body_region (f ∷ fs) → ⊥) → takes End f.part ≡ 0
part_end t f [] g e = absurd (e refl)
part_end t f (h ∷ hs) g e = end-takes-none f.part g.0

module _ {bs : List ℕ} {i : ℕ} {here : Scope} {k : Kind} (s : Stands bs i here) (l : i < length bs / 6) (e : k ≡ kind_at (table_of bs) i) where
  pub takes-function : k ≡ Function → 0 ≡ takes_at (table_of bs) i
  takes-function q = no_takes (table_of bs) i Function (kind_is s l e q) (λ p. refl)

  pub takes-else : k ≡ Else → 0 ≡ takes_at (table_of bs) i
  takes-else q = no_takes (table_of bs) i Else (kind_is s l e q) (λ p. refl)

  pub takes-unknown : k ≡ Unknown → 0 ≡ takes_at (table_of bs) i
  takes-unknown q = no_takes (table_of bs) i Unknown (kind_is s l e q) (λ p. refl)

  pub takes-do : k ≡ Do → 1 ≡ takes_at (table_of bs) i
  unfolding misplaced_in
  takes-do q = open-takes (table_of bs) i Do 1 (kind_is s l e q) (not-misplaced s l e q) (λ p. refl)

  pub takes-if : k ≡ If → 2 ≡ takes_at (table_of bs) i
  unfolding misplaced_in
  takes-if q = open-takes (table_of bs) i If 2 (kind_is s l e q) (not-misplaced s l e q) (λ p. refl)

  pub takes-loop : k ≡ Loop → 2 ≡ takes_at (table_of bs) i
  unfolding misplaced_in
  takes-loop q = open-takes (table_of bs) i Loop 2 (kind_is s l e q) (not-misplaced s l e q) (λ p. refl)

  pub takes-call : k ≡ Call → 2 ≡ takes_at (table_of bs) i
  unfolding misplaced_in
  takes-call q = open-takes (table_of bs) i Call 2 (kind_is s l e q) (not-misplaced s l e q) (λ p. refl)

  pub takes-break : k ≡ Break → 1 ≡ takes_at (table_of bs) i
  unfolding misplaced_in
  takes-break q = open-takes (table_of bs) i Break 1 (kind_is s l e q) (from-loop (open_at (table_of bs) i) (not-misplaced s l e q)) (λ p. refl)

  pub takes-continue : k ≡ Continue → 1 ≡ takes_at (table_of bs) i
  unfolding misplaced_in
  takes-continue q = open-takes (table_of bs) i Continue 1 (kind_is s l e q) (from-loop (open_at (table_of bs) i) (not-misplaced s l e q)) (λ p. refl)

  end_by : (d : ℕ) → k ≡ End
      → ((f : Open) (fs : List Open) → Formed (table_of bs) (f ∷ fs) → Chain (regions (table_of bs) i) (f ∷ fs) → here.region ≡ f.region → here.body ≡ body_region (f ∷ fs) → takes End f.part ≡ d)
      → d ≡ takes_at (table_of bs) i
  unfolding takes_at scope_of misplaced_in
  end_by d q h = let z = some-open (open_at (table_of bs) i) (not-misplaced s l e q) in by z.0 z.1 z.2 (kind_is s l e q)
    where
      by : (f : Open) (hs : List Open) → open_at (table_of bs) i ≡ f ∷ hs → kind_at (table_of bs) i ≡ End
          → d ≡ takes_in (kind_at (table_of bs) i) (region_of (open_at (table_of bs) i)) (open_at (table_of bs) i)
      by f hs z r =
          rw (z, r)
          (sym (takes-top End f hs ∙ h f hs (subst (Formed (table_of bs)) z (formed (table_of bs) (ok s l e) i (omega (arith, within s l e)))) (subst (Chain (regions (table_of bs) i)) z (chain (table_of bs) i)) (ap (λ x. x.region) s.is ∙ ap region_of z) (ap (λ x. x.body) s.is ∙ ap body_region z)))

  pub takes-end : k ≡ End → here.region ≡ here.body → 1 ≡ takes_at (table_of bs) i
  takes-end q x = end_by 1 q (λ f fs g c a b. body_end (table_of bs) (regions (table_of bs) i) f fs g c (cc))

  pub takes_part : k ≡ End → (here.region ≡ here.body → ⊥) → 0 ≡ takes_at (table_of bs) i
  takes_part q x = end_by 0 q (λ f fs g c a b. part_end (table_of bs) f fs g (λ y. x (a ∙ y ∙ sym b)))

  -- ---- by what a row takes
  pub takes-none : (k ≡ Function) ⊎ ((k ≡ Else) ⊎ (k ≡ Unknown)) → 0 ≡ takes_at (table_of bs) i
  takes-none (inl q) = takes-function q
  takes-none (inr (inl q)) = takes-else q
  takes-none (inr (inr q)) = takes-unknown q

  pub takes-one : (k ≡ Do) ⊎ ((k ≡ Break) ⊎ (k ≡ Continue)) → 1 ≡ takes_at (table_of bs) i
  takes-one (inl q) = takes-do q
  takes-one (inr (inl q)) = takes-break q
  takes-one (inr (inr q)) = takes-continue q

  pub takes-two : (k ≡ If) ⊎ (k ≡ Loop) → 2 ≡ takes_at (table_of bs) i
  takes-two (inl q) = takes-if q
  takes-two (inr q) = takes-loop q

  pub takes-at-end : {r : ℕ} → k ≡ End → r ≡ bool_byte (eqb here.region here.body) → (r ≡ takes_at (table_of bs) i) × (r ≤ 2)
  takes-at-end {r} q e = by (eqb here.region here.body) refl e
    where
      by : (b : Bool) → eqb here.region here.body ≡ b → r ≡ bool_byte b → (r ≡ takes_at (table_of bs) i) × (r ≤ 2)
      by true y v = (v ∙ takes-end q (eqb-true here.region here.body y), omega (arith, v))
      by false y v = (v ∙ takes_part q (eqb-false here.region here.body y), omega (arith, v))
