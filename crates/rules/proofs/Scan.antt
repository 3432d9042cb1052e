-- The open parts: their regions fall towards the body, a closed region never comes back, and each part remembers its opener.
-- Assumes nothing.
use mathlib.Core.Logic.{◌≢◌}
use mathlib.Core.Path.{◌≡◌, refl, ap, ◌∙◌}
use mathlib.Core.Bool.{true}
use mathlib.Core.List.{List, [], ◌∷◌}
use Prim.Native.Nat.{ℕ, zero, suc, ◌≤◌, ◌<◌}
use native.Mathlib.Nat.{le_refl}
use native.Mathlib.Decide.{le_ind}
use native.Mathlib.Omega.{arith}
use Rattle.rules.specs.declared.kind.Kind.{Kind}
use Rattle.rules.specs.declared.kind.Kind.TheVariants.{Function, Do, If, Else, Loop, End, Break, Continue, Call, Unknown}
use Rattle.rules.specs.Row.{Table, kind_at}
use Rattle.rules.specs.Scan.{Part, body, then_part, else_part, loop_body, Open, Shape, pushes, turns, closes, stays, shape_of, turned, regions_after, open_after_lem, regions, open_at, body_region}
use Rattle.rules.specs.Links.{is_opening}
use Rattle.rules.proofs.Logic.{clash}

-- ---- the regions of the open parts fall, and all are below b
abbrev pub Chain : ℕ → List Open → Type 0
Chain b [] = Unit {0}
Chain b (f ∷ fs) = (f.region < b) × Chain f.region fs

pub chain-up : {b c : ℕ} (fs : List Open) → b ≤ c → Chain b fs → Chain c fs
chain-up [] h k = tt
chain-up (f ∷ fs) h k = (omega arith, k.1)

chain_next : (s : Shape) (i g : ℕ) (fs : List Open) → Chain g fs → Chain (regions_after s g) (open_after_lem s i g fs)
chain_next (pushes p) i g fs k = (omega arith, k)
chain_next turns i g [] k = tt
chain_next turns i g (f ∷ fs) k = (omega arith, chain-up fs (omega arith) k.1)
chain_next closes i g [] k = tt
chain_next closes i g (f ∷ fs) k = chain-up fs (omega arith) k.1
chain_next stays i g fs k = k

pub chain : (t : Table) (i : ℕ) → Chain (regions t i) (open_at t i)
unfolding regions open_at
chain t zero = tt
chain t (suc i) = chain_next (shape_of (kind_at t i)) i (regions t i) (open_at t i) (chain t i)

pub body-least : (b : ℕ) (f : Open) (fs : List Open) → Chain b (f ∷ fs) → body_region (f ∷ fs) ≤ f.region
body-least b f [] k = le_refl _
body-least b f (h ∷ hs) k = omega (arith, body-least f.region h hs k.1)

grows : (s : Shape) (g : ℕ) → g ≤ regions_after s g
grows (pushes p) g = omega arith
grows turns g = omega arith
grows closes g = omega arith
grows stays g = omega arith

pub regions-mono : (t : Table) {i : ℕ} (j : ℕ) → i ≤ j → regions t i ≤ regions t j
unfolding regions
regions-mono t {i} j h =
    le_ind (λ m. regions t i ≤ regions t m) (le_refl _) (λ m l p. omega (arith, grows (shape_of (kind_at t m)) (regions t m))) j h

-- ---- a region that is closed never comes back
abbrev pub NotIn : ℕ → List Open → Type 0
NotIn g [] = Unit {0}
NotIn g (f ∷ fs) = (f.region ≢ g) × NotIn g fs

pub chain-not-in : {b : ℕ} (g : ℕ) (fs : List Open) → b ≤ g → Chain b fs → NotIn g fs
chain-not-in g [] h k = tt
chain-not-in g (f ∷ fs) h k = (omega arith, chain-not-in g fs (omega arith) k.1)

pub record Gone (g r : ℕ) (fs : List Open) : Type 0 where
  pub old : g < r
  pub off : NotIn g fs

gone-next : (s : Shape) (g i r : ℕ) (fs : List Open) → Gone g r fs → Gone g (regions_after s r) (open_after_lem s i r fs)
gone-next (pushes p) g i r fs k = record { old = omega arith; off = (omega arith, k.off) }
gone-next turns g i r [] k = record { old = omega arith; off = tt }
gone-next turns g i r (f ∷ fs) k = record { old = omega arith; off = (omega arith, k.off.1) }
gone-next closes g i r [] k = record { old = k.old; off = tt }
gone-next closes g i r (f ∷ fs) k = record { old = k.old; off = k.off.1 }
gone-next stays g i r fs k = k

pub gone-later : (t : Table) (g : ℕ) {i : ℕ} → Gone g (regions t i) (open_at t i) → (j : ℕ) → i ≤ j
    → Gone g (regions t j) (open_at t j)
unfolding regions open_at
gone-later t g {i} k j h = le_ind (λ m. Gone g (regions t m) (open_at t m)) k
    (λ m l p. gone-next (shape_of (kind_at t m)) g m (regions t m) (open_at t m) p) j h

-- ---- the scan past a row that is known
pub open_next : (t : Table) (i : ℕ) {k : Kind} {fs : List Open} → kind_at t i ≡ k → open_at t i ≡ fs
    → open_at t (suc i) ≡ open_after_lem (shape_of k) i (regions t i) fs
unfolding open_at
open_next t i {k} {fs} e q = ap (λ s. open_after_lem (shape_of (kind_at t i)) i (regions t i) s) q
    ∙ ap (λ x. open_after_lem (shape_of x) i (regions t i) fs) e

pub regions-next : (t : Table) (i : ℕ) {k : Kind} → kind_at t i ≡ k → regions t (suc i) ≡ regions_after (shape_of k) (regions t i)
unfolding regions
regions-next t i e = ap (λ x. regions_after (shape_of x) (regions t i)) e

-- a row that closes its part
pub data Closing : Shape → Type 0 where
  by_turn : Closing turns
  by_close : Closing closes

closing-gone : (s : Shape) (i r : ℕ) (f : Open) (fs : List Open) → Closing s → Chain r (f ∷ fs)
    → Gone f.region (regions_after s r) (open_after_lem s i r (f ∷ fs))
closing-gone s i r f fs by_turn k =
    record { old = omega arith; off = (omega arith, chain-not-in f.region fs (le_refl _) k.1) }
closing-gone s i r f fs by_close k =
    record { old = omega arith; off = chain-not-in f.region fs (le_refl _) k.1 }

pub gone-after : (t : Table) (i : ℕ) (k : Kind) (f : Open) (fs : List Open) → kind_at t i ≡ k → Closing (shape_of k)
    → open_at t i ≡ f ∷ fs → Gone f.region (regions t (suc i)) (open_at t (suc i))
gone-after t i k f fs e c q = rw (regions-next t i e, open_next t i e q)
    (closing-gone (shape_of k) i (regions t i) f fs c (rw q at (chain t i)))

-- row i does not close its part where that is the innermost part of a later row
pub not-closing : (t : Table) (i j : ℕ) (k : Kind) (f h : Open) (fs hs : List Open) → kind_at t i ≡ k → open_at t i ≡ f ∷ fs
    → open_at t j ≡ h ∷ hs → h.region ≡ f.region → i < j → Closing (shape_of k) → ⊥
not-closing t i j k f h fs hs e q l s lt c =
    let g : Gone f.region (regions t j) (h ∷ hs)
    = rw l at (gone-later t f.region {i = suc i} (gone-after t i k f fs e c q) j lt) in
    g.off.0 s

-- ---- the part that a row opens, where it is an else part
abbrev pub origin : Part → Part
origin body = body
origin then_part = then_part
origin else_part = then_part
origin loop_body = loop_body

pub turned-origin : (p : Part) → origin (turned p) ≡ origin p
turned-origin body = refl
turned-origin then_part = refl
turned-origin else_part = refl
turned-origin loop_body = refl

pub pushes-origin : (k : Kind) (p : Part) → shape_of k ≡ pushes p → origin p ≡ p
pushes-origin Function p e = cc
pushes-origin Do p e = cc
pushes-origin If p e = cc
pushes-origin Else p e = cc
pushes-origin Loop p e = cc
pushes-origin End p e = cc
pushes-origin Break p e = cc
pushes-origin Continue p e = cc
pushes-origin Call p e = cc
pushes-origin Unknown p e = cc

-- ---- a row that opens something pushes a part
pub opening-pushes : (k : Kind) → is_opening k ≡ true → (p : Part) × (shape_of k ≡ pushes p)
opening-pushes Function e = (body, refl)
opening-pushes Do e = clash e refl
opening-pushes If e = (then_part, refl)
opening-pushes Else e = clash e refl
opening-pushes Loop e = (loop_body, refl)
opening-pushes End e = clash e refl
opening-pushes Break e = clash e refl
opening-pushes Continue e = clash e refl
opening-pushes Call e = clash e refl
opening-pushes Unknown e = clash e refl
