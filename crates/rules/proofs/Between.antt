-- When a guard lies between two lines of the hardened table. Assumes nothing.
use mathlib.Core.Logic.{◌⊎◌, inl, inr}
use mathlib.Core.Path.{◌≡◌, refl, sym, ap, ◌∙◌}
use mathlib.Core.Bool.{Bool, true, false, ◌||◌}
use mathlib.Core.List.{List}
use Prim.Native.Nat.{ℕ, zero, suc, ◌+◌, ◌-◌, ◌≤◌, ◌<◌}
use native.Mathlib.Nat.{add-zero, eq-or-lt_of_le}
use native.Mathlib.Omega.{arith}
use lib.ListN.{length}
use Rattle.rules.specs.declared.kind.Kind.TheVariants.{Do}
use Rattle.rules.specs.Row.{Table, kind_at}
use Rattle.rules.specs.Line.{Line, line_at, is_guard}
use Rattle.rules.specs.Harden.{line_of, row_lines, harden}
use Rattle.rules.specs.Match.{guard_from_lem, guard_between}
use Rattle.std.proofs.lemmas.Bool.{or_left, or_right}
use Rattle.rules.proofs.Logic.{clash}
use Rattle.rules.proofs.Harden.{line-at}

pub data Between (ls : List Line) (a b : ℕ) : Type 0 where
  up : (x : ℕ) → a ≤ x → x < b → is_guard (line_at ls x) ≡ true → Between ls a b
  down : (x : ℕ) → b ≤ x → x < a → is_guard (line_at ls x) ≡ true → Between ls a b

record GuardIn (ls : List Line) (k d : ℕ) : Type 0 where
  x : ℕ
  not_below : k ≤ x
  not_above : x < k + d
  guards : is_guard (line_at ls x) ≡ true

guard-in : (ls : List Line) (k d : ℕ) → guard_from_lem ls k d ≡ true → GuardIn ls k d
unfolding guard_from_lem
guard-in ls k zero e = clash {b = false} e refl
guard-in ls k (suc d) e = by (is_guard (line_at ls k)) refl e (λ q. guard-in ls (suc k) d q)
  where
    by : (b : Bool) → is_guard (line_at ls k) ≡ b → b || guard_from_lem ls (suc k) d ≡ true → (guard_from_lem ls (suc k) d ≡ true → GuardIn ls (suc k) d) → GuardIn ls k (suc d)
    by true g q ih = record { x = k; not_below = omega arith; not_above = omega arith; guards = g }
    by false g q ih =
        let r = ih q in
        record { x = r.x; not_below = omega (arith, r.not_below); not_above = omega (arith, r.not_above); guards = r.guards }

pub between : (ls : List Line) (a b : ℕ) → guard_between ls a b ≡ true → Between ls a b
between ls a b e = by (guard_from_lem ls a (b - a)) refl e
  where
    by : (x : Bool) → guard_from_lem ls a (b - a) ≡ x → x || guard_from_lem ls b (a - b) ≡ true → Between ls a b
    by true g q =
        let r = guard-in ls a (b - a) g in
        up r.x r.not_below (omega (arith, r.not_below, r.not_above)) r.guards
    by false g q =
        let r = guard-in ls b (a - b) q in
        down r.x r.not_below (omega (arith, r.not_below, r.not_above)) r.guards

-- and back: a guard in either direction lies between
guard-there : (ls : List Line) (k d x : ℕ) → k ≤ x → x < k + d → is_guard (line_at ls x) ≡ true → guard_from_lem ls k d ≡ true
unfolding guard_from_lem
guard-there ls k zero x a b g = absurd (omega arith)
guard-there ls k (suc d) x a b g = by (eq-or-lt_of_le a) (λ l. guard-there ls (suc k) d x l (omega arith) g)
  where
    by : (k ≡ x) ⊎ (k < x) → (k < x → guard_from_lem ls (suc k) d ≡ true) → is_guard (line_at ls k) || guard_from_lem ls (suc k) d ≡ true
    by (inl e) ih = or_left (is_guard (line_at ls k)) (guard_from_lem ls (suc k) d) (ap (λ y. is_guard (line_at ls y)) e ∙ g)
    by (inr l) ih = or_right (is_guard (line_at ls k)) _ (ih l)

pub wide : (ls : List Line) (a b : ℕ) → Between ls a b → guard_between ls a b ≡ true
wide ls a b (up x p q g) = or_left (guard_from_lem ls a (b - a)) (guard_from_lem ls b (a - b)) (guard-there ls a (b - a) x p (omega arith) g)
wide ls a b (down x p q g) = or_right (guard_from_lem ls a (b - a)) _ (guard-there ls b (a - b) x p (omega arith) g)

pub not_same : (ls : List Line) (a b : ℕ) → a ≡ b → Between ls a b → ⊥
not_same ls a b e (up x p q g) = omega arith
not_same ls a b e (down x p q g) = omega arith

do-no-guard : (t : Table) (j : ℕ) → j < length t → kind_at t j ≡ Do → is_guard (line_at (harden t) (line_of t j)) ≡ false
unfolding row_lines
do-no-guard t j l e = ap (λ x. is_guard (line_at (harden t) x)) (sym (add-zero (line_of t j))) ∙ ap is_guard (line-at t j 0 l (rw e (omega arith))) ∙ rw e

-- from before a do to before its tick, or back
pub not-over-do : (t : Table) (j a b : ℕ) → j < length t → kind_at t j ≡ Do → ((a ≡ line_of t j) × (b ≡ line_of t j + 1)) ⊎ ((a ≡ line_of t j + 1) × (b ≡ line_of t j)) → Between (harden t) a b → ⊥
not-over-do t j a b l e (inl ab) (up x y z g) = clash g (ap (λ c. is_guard (line_at (harden t) c)) (omega (arith, ab.0, ab.1)) ∙ do-no-guard t j l e)
not-over-do t j a b l e (inl ab) (down x y z g) = omega (arith, ab.0, ab.1)
not-over-do t j a b l e (inr ab) (up x y z g) = omega (arith, ab.0, ab.1)
not-over-do t j a b l e (inr ab) (down x y z g) = clash g (ap (λ c. is_guard (line_at (harden t) c)) (omega (arith, ab.0, ab.1)) ∙ do-no-guard t j l e)
