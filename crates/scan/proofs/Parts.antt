-- The open parts as numbers and bytes: what a row that opens, turns or closes a part does to them. Assumes nothing.
use mathlib.Core.Path.{◌≡◌, refl, sym, ap, ◌∙◌, subst}
use mathlib.Core.Bool.{Bool, true, false, cond}
use mathlib.Core.List.{List, [], ◌∷◌}
use Prim.Native.Nat.{ℕ, zero, suc, ◌+◌, ◌-◌, ◌≤◌, ◌<◌}
use native.Mathlib.Nat.{le_refl}
use native.Mathlib.Numerals.{add-one}
use native.Mathlib.Omega.{arith}
use lib.Dec.{eqb}
use lib.ListN.{length, get_or, set}
use lib.Seq.{get_or-set_same, get_or-set_other}
use borrow.Author.Tests.{ne_eqb}
use Rattle.rules.specs.Scan.{Part, body, then_part, else_part, loop_body, Open, turns, closes, open_after_lem, part_of, from_loop}
use Rattle.rules.specs.Check.{is_outside, is_then}
use Rattle.scan.specs.declared.open.Standing.{Standing}
use Rattle.scan.specs.Standing.{part_byte, Spells, Parts, loop_bytes, loops_without_lem}

-- ---- a byte stored behind those of the open parts
pub spells-above : (ps : List ℕ) (k v : ℕ) (fs : List Open) → length fs ≤ k → Spells ps fs → Spells (set ps k v) fs
spells-above ps k v [] h w = tt
spells-above ps k v (f ∷ fs) h w =
    (get_or-set_other ps k (length fs) v 0 (omega arith) ∙ w.0, spells-above ps k v fs (omega arith) w.1)

bytes-above : (ps : List ℕ) (k v d : ℕ) → d ≤ k → loop_bytes (set ps k v) d ≡ loop_bytes ps d
unfolding loop_bytes
bytes-above ps k v zero h = refl
bytes-above ps k v (suc d) h = rw (get_or-set_other ps k d v 0 (omega arith), bytes-above ps k v d (omega arith))

-- ---- the loops among the bytes
pub bytes-none : (ps : List ℕ) → loop_bytes ps 0 ≡ 0
unfolding loop_bytes
bytes-none ps = refl

pub bytes_low : (ps : List ℕ) (d : ℕ) → loop_bytes ps d ≤ d
unfolding loop_bytes
bytes_low ps zero = le_refl _
bytes_low ps (suc d) = by (eqb (get_or ps d 0) 0x05) (bytes_low ps d)
  where
    by : (b : Bool) → loop_bytes ps d ≤ d → cond b (suc (loop_bytes ps d)) (loop_bytes ps d) ≤ suc d
    by true h = omega arith
    by false h = omega arith

pub bytes-push : (ps : List ℕ) (d v : ℕ) → d < length ps → loop_bytes (set ps d v) (d + 1) ≡ cond (eqb v 0x05) (suc (loop_bytes ps d)) (loop_bytes ps d)
unfolding loop_bytes
bytes-push ps d v h = ap (loop_bytes (set ps d v)) (add-one d) ∙ rw (get_or-set_same ps d v 0 h, bytes-above ps d v d (le_refl _))

bytes-set : (ps : List ℕ) (d v : ℕ) → d < length ps → eqb v 0x05 ≡ eqb (get_or ps d 0) 0x05 → loop_bytes (set ps d v) (suc d) ≡ loop_bytes ps (suc d)
unfolding loop_bytes
bytes-set ps d v h e = rw (get_or-set_same ps d v 0 h, bytes-above ps d v d (le_refl _), e)

pub bytes-turn : (ps : List ℕ) (d : ℕ) → (d ≡ 0 → ⊥) → d ≤ length ps → get_or ps (d - 1) 0 ≡ 3 → loop_bytes (set ps (d - 1) 4) d ≡ loop_bytes ps d
bytes-turn ps d n h e =
    let z : suc (d - 1) ≡ d = omega arith in
    ap (loop_bytes (set ps (d - 1) 4)) (sym z) ∙ bytes-set ps (d - 1) 4 (omega arith) (rw e) ∙ ap (loop_bytes ps) z

last-closed : (ps : List ℕ) (d : ℕ) → loop_bytes ps d ≡ loops_without_lem (get_or ps d 0) (loop_bytes ps (suc d))
unfolding loop_bytes loops_without_lem
last-closed ps d = by (eqb (get_or ps d 0) 0x05) (loop_bytes ps d)
  where
    by : (b : Bool) (l : ℕ) → l ≡ cond b (cond b (suc l) l - 1) (cond b (suc l) l)
    by true l = omega arith
    by false l = refl

pub bytes-close : (ps : List ℕ) (d : ℕ) → (d ≡ 0 → ⊥) → loop_bytes ps (d - 1) ≡ loops_without_lem (get_or ps (d - 1) 0) (loop_bytes ps d)
bytes-close ps d n =
    let z : suc (d - 1) ≡ d = omega arith in
    last-closed ps (d - 1) ∙ ap (λ x. loops_without_lem (get_or ps (d - 1) 0) (loop_bytes ps x)) z

last-counted : (ps : List ℕ) (d : ℕ) → get_or ps d 0 ≡ 5 → 0 < loop_bytes ps (suc d)
unfolding loop_bytes
last-counted ps d e = rw e (omega arith)

pub loop-counted : (ps : List ℕ) (d : ℕ) → (d ≡ 0 → ⊥) → get_or ps (d - 1) 0 ≡ 5 → 0 < loop_bytes ps d
loop-counted ps d n e =
    let z : suc (d - 1) ≡ d = omega arith in
    subst (λ x. 0 < loop_bytes ps x) z (last-counted ps (d - 1) e)

pub loops-in : (ps : List ℕ) (fs : List Open) → Spells ps fs → is_outside (from_loop fs) ≡ eqb (loop_bytes ps (length fs)) 0
unfolding loop_bytes
loops-in ps [] w = refl
loops-in ps (f ∷ fs) w = by f.part refl (loops-in ps fs w.1)
  where
    by : (p : Part) → f.part ≡ p → is_outside (from_loop fs) ≡ eqb (loop_bytes ps (length fs)) 0
        → is_outside (from_loop (f ∷ fs)) ≡ eqb (loop_bytes ps (length (f ∷ fs))) 0
    by body q ih = rw (w.0, q) ih
    by then_part q ih = rw (w.0, q) ih
    by else_part q ih = rw (w.0, q) ih
    by loop_body q ih = rw (w.0, q) (sym (ne_eqb (suc (loop_bytes ps (length fs))) 0 (λ z. absurd (omega arith))))

-- ---- the innermost part
part_then : (p : Part) → part_byte p ≡ 3 → p ≡ then_part
part_then body e = absurd (omega arith)
part_then then_part e = refl
part_then else_part e = absurd (omega arith)
part_then loop_body e = absurd (omega arith)

part-other : (p : Part) → (part_byte p ≡ 3 → ⊥) → is_then p ≡ false
part-other body e = refl
part-other then_part e = absurd (e refl)
part-other else_part e = refl
part-other loop_body e = refl

module _ {s : Standing} {ps : List ℕ} {g : ℕ} where
  pub outside : (fs : List Open) → Parts fs g s ps → s.depth ≡ 0 → is_outside fs ≡ true
  outside [] w z = refl
  outside (f ∷ fs) w z = absurd (omega (arith, w.depth_is))

  pub inside : (fs : List Open) → Parts fs g s ps → (s.depth ≡ 0 → ⊥) → is_outside fs ≡ false
  inside [] w n = absurd (n (sym w.depth_is))
  inside (f ∷ fs) w n = refl

  inner-byte : (f : Open) (fs : List Open) → Parts (f ∷ fs) g s ps → get_or ps (s.depth - 1) 0 ≡ part_byte f.part
  inner-byte f fs w =
      let z : s.depth - 1 ≡ length fs = omega (arith, w.depth_is) in
      ap (λ d. get_or ps d 0) z ∙ w.spelt.0

  pub none_then : (fs : List Open) → Parts fs g s ps → s.depth ≡ 0 → is_then (part_of fs) ≡ false
  none_then [] w z = refl
  none_then (f ∷ fs) w z = absurd (omega (arith, w.depth_is))

  pub not-then : (fs : List Open) → Parts fs g s ps → (get_or ps (s.depth - 1) 0 ≡ 3 → ⊥) → is_then (part_of fs) ≡ false
  not-then [] w n = refl
  not-then (f ∷ fs) w n = part-other f.part (λ e. n (inner-byte f fs w ∙ e))

  pub is-then : (fs : List Open) → Parts fs g s ps → (s.depth ≡ 0 → ⊥) → get_or ps (s.depth - 1) 0 ≡ 3 → is_then (part_of fs) ≡ true
  is-then [] w n e = absurd (n (sym w.depth_is))
  is-then (f ∷ fs) w n e = ap is_then (part_then f.part (sym (inner-byte f fs w) ∙ e))

-- ---- a part opens, turns, closes
module _ {s : Standing} {ps : List ℕ} (i g : ℕ) where
  pub begin-parts : (c : ℕ) (fs : List Open) → Parts fs g s ps → s.depth ≡ 0 → 0 < length ps
      → Parts (record { part = body; opener = i; region = g } ∷ fs) (suc g) (record { depth = 1; loops = 0; opened = 1; count = c }) (set ps 0 1)
  begin-parts c [] w z h = record { depth_is = refl; spelt = (get_or-set_same ps 0 1 0 h, tt); rooted = refl; opened_are = omega arith }
  begin-parts c (f ∷ fs) w z h = absurd (omega (arith, w.depth_is))

  pub enter-parts : (p : Part) (b l c : ℕ) → b ≡ part_byte p → (fs : List Open) → Parts fs g s ps → (s.depth ≡ 0 → ⊥) → s.depth < length ps
      → Parts (record { part = p; opener = i; region = g } ∷ fs) (suc g)
      (record { depth = s.depth + 1; loops = l; opened = s.opened + 1; count = c }) (set ps s.depth b)
  enter-parts p b l c q [] w n h = absurd (n (sym w.depth_is))
  enter-parts p b l c q (f ∷ fs) w n h = record {
    depth_is = omega (arith, w.depth_is);
    spelt = (
      ap (λ d. get_or (set ps s.depth b) d 0) w.depth_is ∙ get_or-set_same ps s.depth b 0 h ∙ q,
      spells-above ps s.depth b (f ∷ fs) (omega (arith, w.depth_is)) w.spelt,
    );
    rooted = w.rooted;
    opened_are = omega (arith, w.opened_are);
  }

  pub turn-parts : (l c : ℕ) (fs : List Open) → Parts fs g s ps → (s.depth ≡ 0 → ⊥) → s.depth ≤ length ps → get_or ps (s.depth - 1) 0 ≡ 3
      → Parts (open_after_lem turns i g fs) (suc g) (record { depth = s.depth; loops = l; opened = s.opened + 1; count = c }) (set ps (s.depth - 1) 4)
  turn-parts l c [] w n h e = absurd (n (sym w.depth_is))
  turn-parts l c (f ∷ []) w n h e =
      let z : part_byte f.part ≡ 1 = ap part_byte w.rooted in
      absurd (omega (arith, z, inner-byte f [] w))
  turn-parts l c (f ∷ x ∷ fs) w n h e =
      let z : s.depth - 1 ≡ length (x ∷ fs) = omega (arith, w.depth_is) in
      let q : f.part ≡ then_part = part_then f.part (sym (inner-byte f (x ∷ fs) w) ∙ e) in
      record {
        depth_is = w.depth_is;
        spelt = (
          ap (λ d. get_or (set ps (s.depth - 1) 4) d 0) (sym z) ∙ get_or-set_same ps (s.depth - 1) 4 0 (omega arith) ∙ rw q,
          spells-above ps (s.depth - 1) 4 (x ∷ fs) (omega arith) w.spelt.1,
        );
        rooted = w.rooted;
        opened_are = omega (arith, w.opened_are);
      }

  pub close_parts : (l c : ℕ) (fs : List Open) → Parts fs g s ps → (s.depth ≡ 0 → ⊥)
      → Parts (open_after_lem closes i g fs) g (record { depth = s.depth - 1; loops = l; opened = s.opened; count = c }) ps
  close_parts l c [] w n = absurd (n (sym w.depth_is))
  close_parts l c (f ∷ []) w n = record { depth_is = omega (arith, w.depth_is); spelt = tt; rooted = tt; opened_are = tt }
  close_parts l c (f ∷ x ∷ fs) w n =
      record { depth_is = omega (arith, w.depth_is); spelt = w.spelt.1; rooted = w.rooted; opened_are = w.opened_are }

-- the same place said otherwise
pub parts_at : {fs fs' : List Open} {g g' : ℕ} {s : Standing} {ps : List ℕ} → Parts fs g s ps → fs ≡ fs' → g ≡ g' → Parts fs' g' s ps
parts_at w p q = rw (← p, ← q) w
