-- Values: what a region has taken grows with its rows, a fresh region holds its base, and each open part has moved the region
-- around it by what its row takes. Assumes nothing.
use mathlib.Core.Logic.{◌≢◌}
use mathlib.Core.Path.{◌≡◌, refl, sym, ap, ◌∙◌}
use mathlib.Core.List.{List, [], ◌∷◌}
use Prim.Native.Nat.{ℕ, zero, suc, ◌+◌, ◌≤◌, ◌<◌}
use native.Mathlib.Nat.{le_refl}
use native.Mathlib.Decide.{le_ind}
use native.Mathlib.Omega.{arith}
use borrow.Author.Tests.{eq-eqb, ne_eqb}
use Rattle.rules.specs.declared.kind.Kind.{Kind}
use Rattle.rules.specs.declared.kind.Kind.TheVariants.{Function, Do, If, Else, Loop, End, Break, Continue, Call, Unknown}
use Rattle.rules.specs.Row.{Table, kind_at}
use Rattle.rules.specs.Scan.{Part, body, Open, Shape, pushes, turns, closes, stays, shape_of, turned, open_after_lem, regions, open_at}
use Rattle.rules.specs.Value.{past, takes, takes_in, taken, base, value}
use Rattle.rules.proofs.Scan.{Chain, chain, regions-mono, Closing, by_turn, by_close, not-closing, origin, turned-origin, pushes-origin}

-- ---- what a region has taken grows
pub taken_mono : (t : Table) (g : ℕ) {i : ℕ} (j : ℕ) → i ≤ j → taken t g i ≤ taken t g j
unfolding taken
taken_mono t g {i} j h = le_ind (λ m. taken t g i ≤ taken t g m) (le_refl _) (λ m l p. omega arith) j h

taken-grows : (t : Table) (g : ℕ) (i j : ℕ) → i < j → taken t g i + takes_in (kind_at t i) g (open_at t i) ≤ taken t g j
unfolding taken
taken-grows t g i j h = taken_mono t g {i = suc i} j h

pub taken_next : (t : Table) (g i : ℕ) {k : Kind} {fs : List Open} → kind_at t i ≡ k → open_at t i ≡ fs
    → taken t g (suc i) ≡ taken t g i + takes_in k g fs
unfolding taken
taken_next t g i {k} {fs} e q = ap (λ s. taken t g i + takes_in (kind_at t i) g s) q ∙ ap (λ x. taken t g i + takes_in x g fs) e

pub takes-top : (k : Kind) (f : Open) (fs : List Open) → takes_in k f.region (f ∷ fs) ≡ takes k f.part
takes-top k f fs = rw (eq-eqb f.region f.region refl)

pub takes-off : (k : Kind) (x : ℕ) (f : Open) (fs : List Open) → (f.region ≢ x) → takes_in k x (f ∷ fs) ≡ 0
takes-off k x f fs h = rw (ne_eqb f.region x h)

pub value-next : (t : Table) (i : ℕ) {k : Kind} {f : Open} {fs : List Open} → kind_at t i ≡ k → open_at t i ≡ f ∷ fs
    → value t f.region (suc i) ≡ value t f.region i + takes k f.part
unfolding value
value-next t i {k} {f} {fs} e q = omega (arith, taken_next t f.region i e q, takes-top k f fs)

-- ---- a row that stands in a region takes something there, but the rows that close it and those of no kind
pub data Silent : Kind → Type 0 where
  a_function : Silent Function
  no_kind : Silent Unknown

takes_one : (k : Kind) (p : Part) → (Closing (shape_of k) → ⊥) → (Silent k → ⊥) → 1 ≤ takes k p
takes_one Function p h s = absurd (s a_function)
takes_one Do p h s = omega arith
takes_one If p h s = omega arith
takes_one Else p h s = absurd (h by_turn)
takes_one Loop p h s = omega arith
takes_one End p h s = absurd (h by_close)
takes_one Break p h s = omega arith
takes_one Continue p h s = omega arith
takes_one Call p h s = omega arith
takes_one Unknown p h s = absurd (s no_kind)

-- rows i and j stand in one region: its value has moved on by what row i takes, at least 1
pub value-moves : (t : Table) (i j : ℕ) (f h : Open) (fs hs : List Open) → open_at t i ≡ f ∷ fs → open_at t j ≡ h ∷ hs
    → h.region ≡ f.region → i < j → (Silent (kind_at t i) → ⊥)
    → (1 ≤ takes (kind_at t i) f.part) × (value t f.region i + takes (kind_at t i) f.part ≤ value t f.region j)
unfolding value
value-moves t i j f h fs hs q l s lt n = (
  takes_one (kind_at t i) f.part (not-closing t i j (kind_at t i) f h fs hs refl q l s lt) n,
  (let p : taken t f.region i + takes (kind_at t i) f.part ≤ taken t f.region j
      = rw (q, takes-top (kind_at t i) f fs) at (taken-grows t f.region i j lt) in omega arith),
)

-- ---- a region that has not opened has taken nothing
takes_none : (t : Table) (i g : ℕ) (fs : List Open) → Chain (regions t i) fs → regions t i ≤ g → takes_in (kind_at t i) g fs ≡ 0
takes_none t i g [] k h = refl
takes_none t i g (f ∷ fs) k h = takes-off (kind_at t i) g f fs (omega arith)

pub fresh : (t : Table) (i g : ℕ) → regions t i ≤ g → taken t g (suc i) ≡ 0
unfolding taken
fresh t zero g h = omega (arith, takes_none t zero g (open_at t zero) (chain t zero) h)
fresh t (suc i) g h =
    omega
    (arith, fresh t i g (omega (arith, regions-mono t {i = i} (suc i) (omega arith))), takes_none t (suc i) g (open_at t (suc i)) (chain t (suc i)) h)

pub fresh-value : (t : Table) (i : ℕ) → value t (regions t i) (suc i) ≡ base t (regions t i)
unfolding value
fresh-value t i = omega (arith, fresh t i (regions t i) (le_refl _))

pub base-pos : (t : Table) (g : ℕ) → 1 ≤ base t g
unfolding base
base-pos t zero = le_refl _
base-pos t (suc g) = omega (arith, base-pos t g)

pub value_pos : (t : Table) (g i : ℕ) → 1 ≤ value t g i
unfolding value
value_pos t g i = omega (arith, base-pos t g)

-- ---- what each open part remembers: its opener, what was open there, and that the region around has moved on since by what the
-- opener takes
abbrev pub Moved : Table → ℕ → Open → List Open → Type 0
Moved t j f [] = Unit {0}
Moved t j f (h ∷ hs) = taken t h.region j ≡ taken t h.region f.opener + takes (kind_at t f.opener) h.part

pub record Held (t : Table) (j : ℕ) (f : Open) (fs : List Open) : Type 0 where
  pub before : f.opener < j
  pub by : shape_of (kind_at t f.opener) ≡ pushes (origin f.part)
  pub outer : open_at t f.opener ≡ fs
  pub moved : Moved t j f fs

abbrev pub AllHeld : Table → ℕ → List Open → Type 0
AllHeld t j [] = Unit {0}
AllHeld t j (f ∷ fs) = Held t j f fs × AllHeld t j fs

-- row j moves no region below b
abbrev Still : Table → ℕ → ℕ → Type 0
Still t j b = (x : ℕ) → x < b → takes_in (kind_at t j) x (open_at t j) ≡ 0

keep-moved : (t : Table) (j b : ℕ) (f : Open) (fs : List Open) → Still t j b → Chain b fs → Moved t j f fs → Moved t (suc j) f fs
unfolding taken
keep-moved t j b f [] s k m = tt
keep-moved t j b f (h ∷ hs) s k m = omega (arith, s h.region k.0)

keep-held : (t : Table) (j b : ℕ) (f : Open) (fs : List Open) → Still t j b → Chain b fs → Held t j f fs → Held t (suc j) f fs
keep-held t j b f fs s k m =
    record { before = omega (arith, m.before); by = m.by; outer = m.outer; moved = keep-moved t j b f fs s k m.moved }

keep : (t : Table) (j b : ℕ) (f : Open) (fs : List Open) → Still t j b → Chain b fs → AllHeld t j (f ∷ fs) → AllHeld t (suc j) (f ∷ fs)
keep t j b f [] s k g = (keep-held t j b f [] s k g.0, tt)
keep t j b f (h ∷ hs) s k g = (
  keep-held t j b f (h ∷ hs) s k g.0,
  keep t j h.region h hs (λ x l. s x (omega arith)) k.1 g.1,
)

-- the parts open before row j, one row on
keep_all : (t : Table) (j : ℕ) (fs : List Open) → open_at t j ≡ fs → Chain (regions t j) fs → AllHeld t j fs → AllHeld t (suc j) fs
keep_all t j [] e k g = tt
keep_all t j (f ∷ fs) e k g =
    keep t j f.region f fs (λ x l. rw e (takes-off (kind_at t j) x f fs (omega arith))) k.1 g

push-moved : (t : Table) (j : ℕ) (p : Part) (g : ℕ) (fs : List Open) → open_at t j ≡ fs
    → Moved t (suc j) (record { part = p; opener = j; region = g }) fs
push-moved t j p g [] q = tt
push-moved t j p g (h ∷ hs) q =
    taken_next t h.region j refl q ∙ ap (λ d. taken t h.region j + d) (takes-top (kind_at t j) h hs)

held_next : (t : Table) (j : ℕ) (s : Shape) (fs : List Open) → shape_of (kind_at t j) ≡ s → open_at t j ≡ fs → AllHeld t j fs
    → AllHeld t (suc j) (open_after_lem s j (regions t j) fs)
held_next t j (pushes p) fs e q g = (
  record {
    before = omega arith;
    by = e ∙ ap pushes (sym (pushes-origin (kind_at t j) p e));
    outer = q;
    moved = push-moved t j p (regions t j) fs q;
  },
  keep_all t j fs q (rw q at (chain t j)) g,
)
held_next t j turns [] e q g = tt
held_next t j turns (f ∷ fs) e q g =
    let h : AllHeld t (suc j) (f ∷ fs) = keep_all t j (f ∷ fs) q (rw q at (chain t j)) g in (
      record {
        before = h.0.before;
        by = h.0.by ∙ ap pushes (sym (turned-origin f.part));
        outer = h.0.outer;
        moved = turn_moved fs h.0.moved;
      },
      h.1,
    )
  where
    turn_moved : (hs : List Open) → Moved t (suc j) f hs
        → Moved t (suc j) (record { part = turned f.part; opener = f.opener; region = regions t j }) hs
    turn_moved [] m = tt
    turn_moved (x ∷ xs) m = m
held_next t j closes [] e q g = tt
held_next t j closes (f ∷ fs) e q g = (keep_all t j (f ∷ fs) q (rw q at (chain t j)) g).1
held_next t j stays fs e q g = keep_all t j fs q (rw q at (chain t j)) g

pub held : (t : Table) (j : ℕ) → AllHeld t j (open_at t j)
unfolding open_at
held t zero = tt
held t (suc j) = held_next t j (shape_of (kind_at t j)) (open_at t j) refl refl (held t j)

-- the region around the innermost part, one row on
pub moved-after : (t : Table) (j : ℕ) (f : Open) (fs : List Open) → open_at t j ≡ f ∷ fs → Moved t (suc j) f fs
moved-after t j f fs q = (keep_all t j (f ∷ fs) q (rw q at (chain t j)) (rw q at (held t j))).0.moved

-- an if or a loop takes `past`
pub takes-past : (k : Kind) (p q : Part) → shape_of k ≡ pushes p → (p ≡ body → ⊥) → takes k q ≡ past
takes-past Function p q e n = absurd (n cc)
takes-past Do p q e n = cc
takes-past If p q e n = refl
takes-past Else p q e n = cc
takes-past Loop p q e n = refl
takes-past End p q e n = cc
takes-past Break p q e n = cc
takes-past Continue p q e n = cc
takes-past Call p q e n = cc
takes-past Unknown p q e n = cc

pub moved_value : (t : Table) (j i : ℕ) (f h : Open) (hs : List Open) → f.opener ≡ i → Moved t j f (h ∷ hs)
    → value t h.region j ≡ value t h.region i + takes (kind_at t i) h.part
unfolding value
moved_value t j i f h hs o m =
    omega (arith, ap (λ x. taken t h.region x) o, ap (λ x. takes (kind_at t x) h.part) o)
