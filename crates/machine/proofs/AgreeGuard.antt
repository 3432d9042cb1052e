-- A tick, test, leave, out or back of the code agrees with that of the hardened machine. Assumes that the fields are in range.
use mathlib.Core.Path.{◌≡◌, refl, sym, ap, ◌∙◌, subst}
use mathlib.Core.Bool.{Bool, true, false, cond}
use mathlib.Core.List.{List}
use Prim.Native.Nat.{ℕ, suc, ◌+◌, ◌*◌, ◌-◌, ◌≤◌, ◌<◌}
use native.Mathlib.Numerals.{add-one}
use native.Mathlib.Omega.{arith}
use lib.Dec.{eqb}
use lib.ListN.{length, length-set}
use Rattle.rules.specs.declared.step.Step.TheVariants.{Went}
use Rattle.rules.specs.Line.{Line}
use Rattle.rules.specs.Variables.{holds_on}
use Rattle.rules.specs.Run.{Turn}
use Rattle.rules.specs.Form.{turn_by}
use Rattle.rules.specs.Hardened.{Counters, Hardened, put, clear_from, moved, line_step_lem}
use Rattle.rules.specs.Bounds.{Fits}
use Rattle.line.specs.declared.Line as Declared
use Rattle.line.specs.declared.kind.LineKind.TheVariants.{Tick, Test, Leave, Out, Back}
use Rattle.line.specs.Read.{as_line}
use Rattle.guard.specs.Counters.{with_counter, zeroed}
use Rattle.guard.specs.Guard.{counted, tick_of, test_of, leave_of, out_of, back_of}
use Rattle.machine.specs.Step.{Map, Parts, guarded, line_of}
use Rattle.machine.specs.Stands.{Own, Stands}
use Rattle.guard.proofs.Zeroed.{length-zeroed}
use Rattle.machine.proofs.Own.{SameBelow, set_below, zeroed-below, below_both, own_put, own-clear}
use Rattle.machine.proofs.Agree.{Agrees, must-and, moves_on, both, checks}

module _ (ls : List Line) (held : List ℕ) (m : Map) (p : Parts) (s : Hardened) (st : Stands ls held p s) (l : Declared.Line) where
  abbrev d : ℕ
  d = p.registers.depth

  abbrev ws : List ℕ
  ws = p.words

  abbrev k : ℕ
  k = p.registers.at

  abbrev own : Counters
  own = s.running.own

  room : (r : ℕ) → r < 64 → 64 * d + r < length ws
  room r h = omega (arith, st.sizes.deep, st.sizes.words_are)

  put-own : (r v : ℕ) → r < 64 → Own (with_counter ws d r v) d (put r v own)
  put-own r v h = own_put ws d r v own (room r h) st.own_is

  put-below : (r v : ℕ) → SameBelow (64 * d) ws (with_counter ws d r v)
  put-below r v = set_below (64 * d) ws (64 * d + r) v (omega arith)

  put_two : (r v q w : ℕ) → r < 64 → q < 64 → Own (with_counter (with_counter ws d r v) d q w) d (put q w (put r v own))
  put_two r v q w h g = own_put (with_counter ws d r v) d q w (put r v own) (simp length-set (room q g)) (put-own r v h)

  two-below : (r v q w : ℕ) → SameBelow (64 * d) ws (with_counter (with_counter ws d r v) d q w)
  two-below r v q w =
      below_both (64 * d) ws (with_counter ws d r v) (with_counter (with_counter ws d r v) d q w) (put-below r v)
      (set_below (64 * d) (with_counter ws d r v) (64 * d + q) w (omega arith))

  pub tick-agrees : Fits ls s.running.function k (as_line Tick l) → Agrees ls held p.registers.traced (line_of m Tick l p) (line_step_lem ls k (as_line Tick l) s)
  unfolding line_of turn_by tick_of
  tick-agrees f =
      checks ls held p s st l.r l.e (counted (Went (k + 1)) (with_counter ws d l.r l.a)) (moved (suc k) (put l.r l.a) s) f.0
      (moves_on ls held p s st (k + 1) (suc k) (with_counter ws d l.r l.a) (put l.r l.a own) (add-one k) f.3 (simp length-set st.sizes.words_are)
      (put-below l.r l.a) (put-own l.r l.a f.0))

  pub back-agrees : Fits ls s.running.function k (as_line Back l) → Agrees ls held p.registers.traced (line_of m Back l p) (line_step_lem ls k (as_line Back l) s)
  unfolding line_of turn_by back_of
  back-agrees f =
      let w = with_counter ws d l.r l.a in
      subst (Agrees ls held p.registers.traced (line_of m Back l p)) (sym (must-and (eqb (own l.r) l.e) (eqb (s.last 0) l.b) s _))
      (checks ls held p s st l.r l.e _ _ f.0
      (both ls held p s st _ _ (ap (λ v. eqb v l.b) st.last_is) (counted (Went (k + 1)) w) (moved (suc k) (put l.r l.a) s) ws
      (moves_on ls held p s st (k + 1) (suc k) w (put l.r l.a own) (add-one k) f.4 (simp length-set st.sizes.words_are)
      (put-below l.r l.a) (put-own l.r l.a f.0))))

  pub leave-agrees : Fits ls s.running.function k (as_line Leave l) → Agrees ls held p.registers.traced (line_of m Leave l p) (line_step_lem ls k (as_line Leave l) s)
  unfolding line_of turn_by leave_of
  leave-agrees f =
      let w = with_counter ws d l.r 0 in
      subst (Agrees ls held p.registers.traced (line_of m Leave l p)) (sym (must-and (eqb (own l.r) l.e) (eqb (put l.r 0 own l.s) l.b) s _))
      (checks ls held p s st l.r l.e _ _ f.0
      (both ls held p s st _ _ (ap (λ v. eqb v l.b) (put-own l.r 0 f.0 l.s f.1)) (counted (Went l.go) (with_counter w d l.s l.a))
      (moved l.go (λ x. put l.s l.a (put l.r 0 x)) s) w
      (moves_on ls held p s st l.go l.go (with_counter w d l.s l.a) (put l.s l.a (put l.r 0 own)) refl f.5
      (simp length-set st.sizes.words_are) (two-below l.r 0 l.s l.a) (put_two l.r 0 l.s l.a f.0 f.1))))

  pub out-agrees : Fits ls s.running.function k (as_line Out l) → Agrees ls held p.registers.traced (line_of m Out l p) (line_step_lem ls k (as_line Out l) s)
  unfolding line_of turn_by out_of
  out-agrees f =
      let from = 64 * d + l.t in
      let n = l.r + 1 - l.t in
      let w = zeroed ws from n in
      let fits : from + n ≤ length ws = omega (arith, room l.r f.0, f.2) in
      let long : length w ≡ length ws = length-zeroed ws from n fits in
      checks ls held p s st l.r l.e _ _ f.0
      (moves_on ls held p s st l.go l.go (with_counter w d l.s l.a) (put l.s l.a (clear_from l.t l.r own)) refl f.5
      (simp length-set (long ∙ st.sizes.words_are))
      (below_both (64 * d) ws w (with_counter w d l.s l.a) (zeroed-below (64 * d) ws from n fits (omega arith)) (set_below (64 * d) w (64 * d + l.s) l.a (omega arith)))
      (own_put w d l.s l.a (clear_from l.t l.r own) (omega (arith, long, room l.s f.1))
      (own-clear ws d l.t l.r own f.2 (room l.r f.0) st.own_is)))

  pub test-agrees : Fits ls s.running.function k (as_line Test l) → Agrees ls held p.registers.traced (line_of m Test l p) (line_step_lem ls k (as_line Test l) s)
  unfolding line_of turn_by test_of
  test-agrees f = checks ls held p s st l.r l.e _ _ f.1
      (subst (λ b. Agrees ls held p.registers.traced (guarded p (cond b (counted (Went (k + 1)) held-words) (counted (Went l.go) failed-words))) (cond (holds_on l.operands s.vars) held-turn failed-turn))
      (ap (holds_on l.operands) (sym st.vars_are)) (by (holds_on l.operands s.vars)))
    where
      held-words : List ℕ
      held-words = with_counter (with_counter ws d l.r l.a) d l.s l.b

      failed-words : List ℕ
      failed-words = with_counter (with_counter ws d l.r l.a) d l.t l.c

      held-turn : Turn Counters
      held-turn = moved (suc k) (λ x. put l.s l.b (put l.r l.a x)) s

      failed-turn : Turn Counters
      failed-turn = moved l.go (λ x. put l.t l.c (put l.r l.a x)) s

      by : (b : Bool) → Agrees ls held p.registers.traced (guarded p (cond b (counted (Went (k + 1)) held-words) (counted (Went l.go) failed-words))) (cond b held-turn failed-turn)
      by true =
          moves_on ls held p s st (k + 1) (suc k) held-words (put l.s l.b (put l.r l.a own)) (add-one k) f.8 (simp length-set st.sizes.words_are)
          (two-below l.r l.a l.s l.b) (put_two l.r l.a l.s l.b f.1 f.2)
      by false =
          moves_on ls held p s st l.go l.go failed-words (put l.t l.c (put l.r l.a own)) refl f.9 (simp length-set st.sizes.words_are)
          (two-below l.r l.a l.t l.c) (put_two l.r l.a l.t l.c f.1 f.3)
