-- What a row opened ends once and turns once: after its end row it is no opener of an open part, after its else row its part is no
-- then part. Assumes nothing.
use mathlib.Core.Logic.{◌≢◌}
use mathlib.Core.Path.{◌≡◌, refl, sym, ap, ◌∙◌, subst}
use mathlib.Core.Bool.{true, false}
use mathlib.Core.List.{List, [], ◌∷◌}
use Prim.Native.Nat.{ℕ, suc, ◌≤◌, ◌<◌}
use native.Mathlib.Nat.{le_refl}
use native.Mathlib.Decide.{le_ind}
use native.Mathlib.Omega.{arith}
use borrow.Author.Tests.{eqb-true}
use Rattle.rules.specs.declared.kind.Kind.{Kind}
use Rattle.rules.specs.declared.kind.Kind.TheVariants.{Function, Do, If, Else, Loop, End, Break, Continue, Call, Unknown}
use Rattle.rules.specs.Row.{Table, kind_at}
use Rattle.rules.specs.Scan.{Part, body, then_part, else_part, loop_body, Open, Shape, pushes, turns, closes, stays, shape_of, turned, open_after_lem, regions, open_at, is_opener, is_end_lem, is_else, is_end_of, is_else_of}
use Rattle.rules.specs.Check.{is_then}
use Rattle.rules.proofs.Logic.{clash, and_left, and_right}
use Rattle.rules.proofs.Scan.{open_next}
use Rattle.rules.proofs.Value.{AllHeld, held}
use Rattle.rules.proofs.Close.{closed_is}

-- ---- no open part was opened by row p
abbrev Free : ℕ → List Open → Type 0
Free p [] = Unit {0}
Free p (f ∷ fs) = (f.opener ≢ p) × Free p fs

free-below : (t : Table) (p j : ℕ) (fs : List Open) → j ≤ p → AllHeld t j fs → Free p fs
free-below t p j [] h g = tt
free-below t p j (f ∷ fs) h g = (omega (arith, g.0.before), free-below t p j fs h g.1)

pub free-now : (t : Table) (p : ℕ) → Free p (open_at t p)
free-now t p = free-below t p p (open_at t p) (le_refl _) (held t p)

free-next : (s : Shape) (i g p : ℕ) (fs : List Open) → p < i → Free p fs → Free p (open_after_lem s i g fs)
free-next (pushes x) i g p fs h n = (omega arith, n)
free-next turns i g p [] h n = tt
free-next turns i g p (f ∷ fs) h n = n
free-next closes i g p [] h n = tt
free-next closes i g p (f ∷ fs) h n = n.1
free-next stays i g p fs h n = n

free-later : (t : Table) (p i : ℕ) → p < i → Free p (open_at t i) → (j : ℕ) → i ≤ j → Free p (open_at t j)
unfolding open_at
free-later t p i h n j l =
    le_ind (λ m. Free p (open_at t m)) n (λ m q k. free-next (shape_of (kind_at t m)) m (regions t m) p (open_at t m) (omega arith) k) j l

pub free-not : {A : Type 0} (p : ℕ) (fs : List Open) → Free p fs → is_opener p fs ≡ true → A
free-not p [] n e = clash e refl
free-not p (f ∷ fs) n e = absurd (n.0 (eqb-true f.opener p e))

-- an end row stands after what it closes
pub opener-below : (t : Table) (p j : ℕ) (fs : List Open) → open_at t j ≡ fs → is_opener p fs ≡ true → p < j
opener-below t p j [] q e = clash e refl
opener-below t p j (f ∷ fs) q e =
    let g : AllHeld t j (f ∷ fs) = rw q at (held t j) in
    omega (arith, g.0.before, eqb-true f.opener p e)

pub end_below : (t : Table) (p j : ℕ) → is_end_of t p j ≡ true → p < j
end_below t p j e = opener-below t p j (open_at t j) refl (and_right (is_end_lem (kind_at t j)) _ e)

pub else-below : (t : Table) (p j : ℕ) → is_else_of t p j ≡ true → p < j
else-below t p j e = opener-below t p j (open_at t j) refl (and_right (is_else (kind_at t j)) _ e)

pub end-once : (t : Table) (p j i : ℕ) → is_end_of t p j ≡ true → j < i → is_opener p (open_at t i) ≡ true → ⊥
end-once t p j i e l o =
    let c = closed_is t p j e in
    free-not p (open_at t i)
    (free-later t p (suc j) (omega (arith, end_below t p j e)) (subst (Free p) (sym c.open_after) (free-now t p)) i l) o

-- ---- no open part that row p opened is a then part
abbrev Spent : ℕ → List Open → Type 0
Spent p [] = Unit {0}
Spent p (f ∷ fs) = (f.opener ≡ p → is_then f.part ≡ false) × Spent p fs

spent-free : (p : ℕ) (fs : List Open) → Free p fs → Spent p fs
spent-free p [] n = tt
spent-free p (f ∷ fs) n = (λ e. absurd (n.0 e), spent-free p fs n.1)

turned-not : (x : Part) → is_then (turned x) ≡ false
turned-not body = refl
turned-not then_part = refl
turned-not else_part = refl
turned-not loop_body = refl

spent-next : (s : Shape) (i g p : ℕ) (fs : List Open) → p < i → Spent p fs → Spent p (open_after_lem s i g fs)
spent-next (pushes x) i g p fs h n = (λ e. absurd (omega arith), n)
spent-next turns i g p [] h n = tt
spent-next turns i g p (f ∷ fs) h n = (λ e. turned-not f.part, n.1)
spent-next closes i g p [] h n = tt
spent-next closes i g p (f ∷ fs) h n = n.1
spent-next stays i g p fs h n = n

spent-later : (t : Table) (p i : ℕ) → p < i → Spent p (open_at t i) → (j : ℕ) → i ≤ j → Spent p (open_at t j)
unfolding open_at
spent-later t p i h n j l =
    le_ind (λ m. Spent p (open_at t m)) n (λ m q k. spent-next (shape_of (kind_at t m)) m (regions t m) p (open_at t m) (omega arith) k) j l

pub is-else : (k : Kind) → is_else k ≡ true → k ≡ Else
is-else Function e = cc
is-else Do e = cc
is-else If e = cc
is-else Else e = refl
is-else Loop e = cc
is-else End e = cc
is-else Break e = cc
is-else Continue e = cc
is-else Call e = cc
is-else Unknown e = cc

spent-start : (t : Table) (p j : ℕ) (fs : List Open) → open_at t j ≡ fs → kind_at t j ≡ Else → is_opener p fs ≡ true → Spent p (open_at t (suc j))
spent-start t p j [] q k e = clash e refl
spent-start t p j (f ∷ fs) q k e =
    let g : AllHeld t j (f ∷ fs) = rw q at (held t j) in
    let o : f.opener ≡ p = eqb-true f.opener p e in
    let a : open_at t p ≡ fs = ap (open_at t) (sym o) ∙ g.0.outer in
    subst (Spent p) (sym (open_next t j k q)) (λ z. turned-not f.part, spent-free p fs (subst (Free p) a (free-now t p)))

pub else-once : (t : Table) (p j i : ℕ) (f : Open) (fs : List Open) → is_else_of t p j ≡ true → j < i → open_at t i ≡ f ∷ fs → f.opener ≡ p
    → is_then f.part ≡ false
else-once t p j i f fs e l q o =
    let s = spent-start t p j (open_at t j) refl (is-else (kind_at t j) (and_left _ _ e)) (and_right (is_else (kind_at t j)) _ e) in
    (subst (Spent p) q (spent-later t p (suc j) (omega (arith, else-below t p j e)) s i l)).0 o
