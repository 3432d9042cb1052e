-- A struck run taken up at the step struck: where the unstruck run stands then, and the ticks and backs of the rest. Assumes that the table is
-- accepted, where it says so.
use mathlib.Core.Path.{◌≡◌, refl, sym, ap, ◌∙◌}
use mathlib.Core.Bool.{true, cond}
use mathlib.Core.List.{List}
use Prim.Native.Nat.{ℕ, zero, suc, ◌+◌, ◌-◌, ◌≤◌, ◌<◌}
use native.Mathlib.Nat.{add-zero}
use native.Mathlib.Omega.{arith}
use borrow.Author.Tests.{ne_eqb}
use Rattle.rules.specs.Strike.{None, Jump}
use Rattle.rules.specs.Row.{Table}
use Rattle.rules.specs.Line.{Line}
use Rattle.rules.specs.Harden.{harden}
use Rattle.rules.specs.Function.{last_place}
use Rattle.rules.specs.State.{State}
use Rattle.rules.specs.Run.{Turn, on, ends, untaken, run, if_done, tally}
use Rattle.rules.specs.Form.{Form, strike_by_lem, step_of, striking_step_of, start_by}
use Rattle.rules.specs.Match.{quiet_at_lem, quiet_step, quiet_done, matching_of, matching}
use Rattle.rules.specs.Demands.{before, strikes}
use Rattle.rules.proofs.Form.Settles.{Settles}
use Rattle.rules.proofs.Form.Unstruck.{line_machine}
use Rattle.rules.proofs.Form.Struck.{landed_at, struck-on, in-budget, is-jump}
use Rattle.rules.proofs.Form.Progress.{Reaches}

if-done-same : {C : Type 0} (r : Turn C) (f g : State C → ℕ) → ((h : State C) → f h ≡ g h) → if_done r f ≡ if_done r g
if-done-same (on h) f g e = e h
if-done-same (ends o h) f g e = refl
if-done-same (untaken o h) f g e = refl

module _ {H : Type 0} (F : Form H) (ls : List Line) where
  -- once the jump is past, the ticks and backs are those of the unstruck run
  past-quiet : (j p b k : ℕ) (h : State H) → j < k
      → tally (quiet_step ls (Jump j p)) (striking_step_of F ls (Jump j p)) b k h ≡ tally (quiet_step ls None) (striking_step_of F ls None) b k h
  unfolding tally
  past-quiet j p zero k h l = refl
  past-quiet j p (suc b) k h l =
      rw (ne_eqb j k (omega arith)) (if-done-same (step_of F ls h) _ _ (λ h'. ap (λ y. cond (quiet_at_lem ls h) 1 0 + y) (past-quiet j p b (suc k) h' (omega arith))))

  -- from the step struck on
  quiet-now : (p k b : ℕ) (h : State H) → p ≤ last_place ls h.running.function
      → tally (quiet_step ls (Jump k p)) (striking_step_of F ls (Jump k p)) (suc b) k h ≡ tally (quiet_step ls None) (striking_step_of F ls None) (suc b) k (landed_at ls p h)
  unfolding tally
  quiet-now p k b h l =
      rw (struck-on F ls p k h l)
      (if-done-same (step_of F ls (landed_at ls p h)) _ _ (λ h'. ap (λ y. cond (quiet_at_lem ls (landed_at ls p h)) 1 0 + y) (past-quiet k p b (suc k) h' (omega arith))))

-- ---- where a jump before step k finds the run
module _ {t : Table} {H : Type 0} {F : Form H} (S : Settles t F) (vs : List ℕ) (k : ℕ) (a : Reaches S vs k) where
  took-k : run (line_machine S) k 0 (start_by F vs) ≡ run (line_machine S) 0 k a.h
  took-k = ap (λ y. run (line_machine S) y 0 (start_by F vs)) (sym (add-zero k)) ∙ a.line_goes 0

  pub state_is : (before F (harden t) vs k).state ≡ a.h
  unfolding run
  state_is = ap (λ y. y.state) took-k

  -- the source has then taken as many steps as the matching step says
  pub matching-is : matching F (harden t) k vs ≡ a.m
  unfolding run matching_of quiet_done tally
  matching-is =
      let z : tally (quiet_step (harden t) None) (line_machine S) k 0 (start_by F vs) ≡ a.quiet + 0 =
      ap (λ y. tally (quiet_step (harden t) None) (line_machine S) y 0 (start_by F vs)) (sym (add-zero k)) ∙ a.quiets None tt 0 in
      omega (arith, ap (λ y. y.steps) took-k, z, a.counted)

  -- the ticks and backs of the struck run
  pub quiet_is : (b p : ℕ) → strikes F (harden t) vs b k ≡ true → p ≤ last_place (harden t) a.h.running.function
      → tally (quiet_step (harden t) (strike_by_lem k p)) (striking_step_of F (harden t) (strike_by_lem k p)) b 0 (start_by F vs)
      ≡ a.quiet + tally (quiet_step (harden t) None) (line_machine S) (b - k) k (landed_at (harden t) p a.h)
  quiet_is b p e l =
      let ib = in-budget F (harden t) vs b k e in
      let q : b ≡ k + suc (b - suc k) = omega (arith, ib) in
      let left : suc (b - suc k) ≡ b - k = omega (arith, ib) in
      ap (λ y. tally (quiet_step (harden t) y) (striking_step_of F (harden t) y) b 0 (start_by F vs)) (is-jump F (harden t) vs b k e p)
      ∙ ap (λ y. tally (quiet_step (harden t) (Jump k p)) (striking_step_of F (harden t) (Jump k p)) y 0 (start_by F vs)) q
      ∙ a.quiets (Jump k p) (omega arith) (suc (b - suc k))
      ∙ ap (λ y. a.quiet + y)
      (quiet-now F (harden t) p k (b - suc k) a.h l ∙ ap (λ z. tally (quiet_step (harden t) None) (line_machine S) z k (landed_at (harden t) p a.h)) left)
