-- A guard passes only at its own place: the value that it wants stands in its region's counter nowhere else.
-- Assumes that the table is accepted.
use mathlib.Core.Path.{◌≡◌, refl, sym, ap, ◌∙◌}
use mathlib.Core.Bool.{Bool, true, false}
use mathlib.Core.List.{List, [], ◌∷◌}
use Prim.Native.Nat.{ℕ, ◌+◌, ◌-◌, ◌≤◌, ◌<◌}
use native.Mathlib.Omega.{arith}
use lib.ListN.{length}
use lib.Dec.{eqb}
use borrow.Author.Tests.{eqb-true}
use Rattle.rules.specs.Row.{Table, kind_at}
use Rattle.rules.specs.Scan.{Part, Open, pushes, shape_of, open_at}
use Rattle.rules.specs.Value.{inside, takes, value}
use Rattle.rules.proofs.Logic.{Order, less, same, more, order}
use Rattle.rules.proofs.Accepted.{Proper}
use Rattle.rules.proofs.Scan.{origin}
use Rattle.rules.proofs.Value.{AllHeld, held, Held, value-moves, value_pos}
use Rattle.rules.proofs.Function.{part-takes, not-silent}
use Rattle.rules.proofs.Parts.{holding}
use Rattle.rules.proofs.Counter.Counters.{counter_of}

module _ (t : Table) (ok : Proper t) (j : ℕ) (h : Open) (hs : List Open) (d : ℕ) (jl : j < length t) (l : open_at t j ≡ h ∷ hs) (b : d ≤ takes (kind_at t j) h.part - 1) where
  -- both in one region
  same-region : (i : ℕ) (f : Open) (fs : List Open) (e : ℕ) → i < length t → open_at t i ≡ f ∷ fs → h.region ≡ f.region
      → e ≤ takes (kind_at t i) f.part - 1 → value t f.region i + e ≡ value t f.region j + d → (i ≡ j) × (e ≡ d)
  same-region i f fs e il k q a v = by (order i j)
    where
      by : Order i j → (i ≡ j) × (e ≡ d)
      by (less x) =
          let m = value-moves t i j f h fs hs k l q x (not-silent t ok i il k) in
          absurd (omega (arith, m.0, m.1))
      by (same x) = (x, (let y : value t f.region i ≡ value t f.region j = ap (value t f.region) x in omega arith))
      by (more x) =
          let m = value-moves t j i h f hs fs l k (sym q) x (not-silent t ok j jl l) in
          absurd (omega (arith, m.0, rw q at m.1))

  at_top : (i : ℕ) (f : Open) (fs : List Open) (e : ℕ) → i < length t → open_at t i ≡ f ∷ fs → e ≤ takes (kind_at t i) f.part - 1
      → (counter_of t fs (holding t f fs) h.region ≡ value t h.region j + d → ⊥)
      → (x : Bool) → eqb h.region f.region ≡ x → counter_of t (f ∷ fs) (value t f.region i + e) h.region ≡ value t h.region j + d → (i ≡ j) × (e ≡ d)
  at_top i f fs e il k a deep true q v =
      let r : h.region ≡ f.region = eqb-true h.region f.region q in
      let v' : value t f.region i + e ≡ value t h.region j + d = rw q at v in
      same-region i f fs e il k r a (rw r at v')
  at_top i f fs e il k a deep false q v = absurd (deep (rw q at v))

  -- At row i the innermost region is e past the row's value. Row j's guard, which wants d past its value, passes only where i is
  -- j and e is d; the rows that open a part have no guard `inside` past their value.
  pub unique : ((p : Part) → shape_of (kind_at t j) ≡ pushes p → d ≡ inside → ⊥) → (fs : List Open) (f : Open) (i e : ℕ) → i < length t → open_at t i ≡ f ∷ fs
      → e ≤ takes (kind_at t i) f.part - 1 → counter_of t (f ∷ fs) (value t f.region i + e) h.region ≡ value t h.region j + d → (i ≡ j) × (e ≡ d)
  unique z [] f i e il k a v = at_top i f [] e il k a (λ y. omega (arith, value_pos t h.region j)) (eqb h.region f.region) refl v
  unique z (g ∷ gs) f i e il k a v = at_top i f (g ∷ gs) e il k a
      (λ y. wrong (unique z gs g f.opener inside (omega (arith, m.before)) m.outer (omega (arith, part-takes t ok i f g gs g.part il k)) y))
      (eqb h.region f.region) refl v
    where
      m : Held t i f (g ∷ gs)
      m = (let x : AllHeld t i (f ∷ g ∷ gs) = rw k at (held t i) in x.0)

      wrong : (f.opener ≡ j) × (inside ≡ d) → ⊥
      wrong p = z (origin f.part) (ap (λ x. shape_of (kind_at t x)) (sym p.0) ∙ m.by) (sym p.1)
