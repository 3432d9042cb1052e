-- A run does not look at its trace, and can be made in pieces. Assumes nothing.
use mathlib.Core.Logic.{◌≢◌}
use mathlib.Core.Path.{◌≡◌, refl, sym, ap, ◌∙◌, subst}
use mathlib.Core.Bool.{Bool, true, false, cond, not, ◌||◌}
use mathlib.Core.List.{List, [], ◌∷◌, ◌++◌, append_assoc, append-nil}
use Prim.Native.Nat.{ℕ, zero, suc, ◌+◌}
use native.Mathlib.Nat.{add-zero, zero-add, suc-add}
use native.Mathlib.Omega.{arith}
use lib.Dec.{eqb, ltb}
use borrow.Author.Tests.{eq-eqb}
use Rattle.rules.specs.declared.step.Step.{Step}
use Rattle.rules.specs.declared.step.Step.TheVariants.{Went, Finished, TooManyOpen, Overflow}
use Rattle.rules.specs.Strike.{None}
use Rattle.rules.specs.Bytes.{same}
use Rattle.rules.specs.Limits.{max_open}
use Rattle.rules.specs.Variables.{variable, holds_on, overflows}
use Rattle.rules.specs.Line.{Line, do_line, tick_line, test_line, leave_line, out_line, call_line, back_line, ret_line, line_at, is_guard}
use Rattle.rules.specs.Function.{function_at, finish_of}
use Rattle.rules.specs.State.{Frame, State, go_to, did, opening, retraced, depth}
use Rattle.rules.specs.Run.{Turn, on, ends, untaken, next, doing, Answer, after, run, outcome_of_lem}
use Rattle.rules.specs.Form.{Guard, Form, moved, must, leaves_of, turn_by, step_of, striking_step_of}
use Rattle.rules.specs.Sweep.{ending_of}
use Rattle.rules.proofs.Logic.{cond_either}

-- the state with this before its trace
abbrev pub ahead : {H : Type 0} → List ℕ → State H → State H
ahead tr s = retraced (tr ++ s.trace) s

abbrev pub turn_ahead : {H : Type 0} → List ℕ → Turn H → Turn H
turn_ahead tr (on s) = on (ahead tr s)
turn_ahead tr (ends o s) = ends o (ahead tr s)
turn_ahead tr (untaken o s) = untaken o (ahead tr s)

-- ---- a step that ends the run is taken, and its outcome is not 0
abbrev Sound : {H : Type 0} → Turn H → Type 0
Sound (on s) = Unit {0}
Sound (ends o s) = outcome_of_lem o ≢ 0
Sound (untaken o s) = ⊥

must-sound : {H : Type 0} (b : Bool) (s : State H) (x : Turn H) → Sound x → Sound (must b s x)
unfolding outcome_of_lem
must-sound true s x p = p
must-sound false s x p = omega arith

many-sound : {H : Type 0} (s : State H) → Sound (ends (TooManyOpen max_open) s)
unfolding outcome_of_lem
many-sound s = omega arith

-- a do that overflows, or is done
do-sound : {H : Type 0} (k : ℕ) (y : Bool) (e v : ℕ) (s d : State H) → Sound (next (cond y (ends (Overflow e v) s) (on d)) (λ x. moved (suc k) (λ c. c) x))
unfolding outcome_of_lem
do-sound k true e v s d = omega arith
do-sound k false e v s d = tt

do-ahead : {H : Type 0} (tr : List ℕ) (k : ℕ) (y : Bool) (e v : ℕ) (s d x : State H) → d ≡ ahead tr x
    → next (cond y (ends (Overflow e v) (ahead tr s)) (on d)) (λ z. moved (suc k) (λ c. c) z) ≡ turn_ahead tr (next (cond y (ends (Overflow e v) s) (on x)) (λ z. moved (suc k) (λ c. c) z))
do-ahead tr k true e v s d x q = refl
do-ahead tr k false e v s d x q = ap (λ z. moved (suc k) (λ c. c) z) q

must-ahead : {H : Type 0} (tr : List ℕ) (b : Bool) (s : State H) (x y : Turn H) → x ≡ turn_ahead tr y → must b (ahead tr s) x ≡ turn_ahead tr (must b s y)
must-ahead tr true s x y e = e
must-ahead tr false s x y e = refl

cond-ahead : {H : Type 0} (tr : List ℕ) (b : Bool) (x y z w : Turn H) → x ≡ turn_ahead tr z → y ≡ turn_ahead tr w → cond b x y ≡ turn_ahead tr (cond b z w)
cond-ahead tr true x y z w p q = p
cond-ahead tr false x y z w p q = q

-- the call of line k, where 16 functions are not open yet
abbrev called : {H : Type 0} → List Line → (k go : ℕ) → Guard H → State H → Turn H
called ls k go g now = on (opening (function_at ls go) go g.opens (go_to (suc k) (g.moves true now.running.own) now))

-- what a line comes to where its guard passes
abbrev passed : {H : Type 0} → Form H → List Line → (k : ℕ) → Line → Guard H → State H → Turn H
passed F ls k (do_line o e) g now = next (doing o e now) (λ s. moved (suc k) (λ x. x) s)
passed F ls k (tick_line r e a) g now = moved (suc k) (g.moves true) now
passed F ls k (test_line o r s t e a b c go) g now = cond (holds_on o now.vars) (moved (suc k) (g.moves true) now) (moved go (g.moves false) now)
passed F ls k (leave_line r s e a b go) g now = moved go (g.moves true) now
passed F ls k (out_line r s t e a go) g now = moved go (g.moves true) now
passed F ls k (call_line r e a b go) g now = cond (ltb (depth now) max_open) (called ls k go g now) (ends (TooManyOpen max_open) now)
passed F ls k (back_line r e a b) g now = moved (suc k) (g.moves true) now
passed F ls k (ret_line e a) g now = leaves_of F (go_to k (g.moves true now.running.own) now) now.callers

module _ {H : Type 0} (F : Form H) (ls : List Line) where
  abbrev allowed : Line → Guard H → State H → Bool
  allowed l g now = not (is_guard l) || g.passes now.running.own now.last

  turn_is : (k : ℕ) (l : Line) (g : Guard H) (now : State H) → turn_by F ls k l g now ≡ must (allowed l g now) now (passed F ls k l g now)
  unfolding turn_by
  turn_is k (do_line o e) g now = refl
  turn_is k (tick_line r e a) g now = refl
  turn_is k (test_line o r s t e a b c go) g now = refl
  turn_is k (leave_line r s e a b go) g now = refl
  turn_is k (out_line r s t e a go) g now = refl
  turn_is k (call_line r e a b go) g now = refl
  turn_is k (back_line r e a b) g now = refl
  turn_is k (ret_line e a) g now = refl

  leaves-sound : (s : State H) (fs : List (Frame H)) → Sound (leaves_of F s fs)
  unfolding outcome_of_lem
  leaves-sound s [] = must-sound (F.ended s.running.own) s (ends Finished s) (omega arith)
  leaves-sound s (f ∷ fs) = tt

  passed-sound : (k : ℕ) (l : Line) (g : Guard H) (now : State H) → Sound (passed F ls k l g now)
  passed-sound k (do_line o e) g now = do-sound k (overflows o now.vars) e (variable now.vars o.p) now (did o e now)
  passed-sound k (tick_line r e a) g now = tt
  passed-sound k (test_line o r s t e a b c go) g now = cond_either Sound (holds_on o now.vars) (moved (suc k) (g.moves true) now) (moved go (g.moves false) now) tt tt
  passed-sound k (leave_line r s e a b go) g now = tt
  passed-sound k (out_line r s t e a go) g now = tt
  passed-sound k (call_line r e a b go) g now = cond_either Sound (ltb (depth now) max_open) (called ls k go g now) (ends (TooManyOpen max_open) now) tt (many-sound now)
  passed-sound k (back_line r e a b) g now = tt
  passed-sound k (ret_line e a) g now = leaves-sound (go_to k (g.moves true now.running.own) now) now.callers

  line-sound : (k : ℕ) (l : Line) (g : Guard H) (now : State H) → Sound (turn_by F ls k l g now)
  line-sound k l g now = subst Sound (sym (turn_is k l g now)) (must-sound (allowed l g now) now (passed F ls k l g now) (passed-sound k l g now))

  step-sound : (s : State H) → Sound (step_of F ls s)
  unfolding step_of
  step-sound s =
      let k = s.running.at in
      let l = line_at ls k in
      cond_either Sound (eqb k (finish_of ls s.running.function)) (leaves_of F s s.callers) (turn_by F ls k l (F.guard k l) s) (leaves-sound s s.callers) (line-sound k l (F.guard k l) s)

  pub ends-nonzero : (s : State H) (o : Step) (g : State H) → step_of F ls s ≡ ends o g → outcome_of_lem o ≢ 0
  ends-nonzero s o g e = subst Sound e (step-sound s)

  pub never-untaken : (s : State H) (o : Step) (g : State H) → step_of F ls s ≡ untaken o g → ⊥
  never-untaken s o g e = subst Sound e (step-sound s)

  -- ---- a step with more before the trace
  leaves-ahead : (tr : List ℕ) (s : State H) (fs : List (Frame H)) → leaves_of F (ahead tr s) fs ≡ turn_ahead tr (leaves_of F s fs)
  leaves-ahead tr s [] = must-ahead tr (F.ended s.running.own) s (ends Finished (ahead tr s)) (ends Finished s) refl
  leaves-ahead tr s (f ∷ fs) = refl

  passed-ahead : (tr : List ℕ) (k : ℕ) (l : Line) (g : Guard H) (now : State H) → passed F ls k l g (ahead tr now) ≡ turn_ahead tr (passed F ls k l g now)
  passed-ahead tr k (do_line o e) g now =
      do-ahead tr k (overflows o now.vars) e (variable now.vars o.p) now (did o e (ahead tr now)) (did o e now) (ap (λ y. retraced y (did o e now)) (append_assoc tr now.trace (e ∷ [])))
  passed-ahead tr k (tick_line r e a) g now = refl
  passed-ahead tr k (test_line o r s t e a b c go) g now =
      cond-ahead tr (holds_on o now.vars) (moved (suc k) (g.moves true) (ahead tr now)) (moved go (g.moves false) (ahead tr now)) (moved (suc k) (g.moves true) now) (moved go (g.moves false) now) refl refl
  passed-ahead tr k (leave_line r s e a b go) g now = refl
  passed-ahead tr k (out_line r s t e a go) g now = refl
  passed-ahead tr k (call_line r e a b go) g now =
      cond-ahead tr (ltb (depth now) max_open) (called ls k go g (ahead tr now)) (ends (TooManyOpen max_open) (ahead tr now)) (called ls k go g now) (ends (TooManyOpen max_open) now) refl refl
  passed-ahead tr k (back_line r e a b) g now = refl
  passed-ahead tr k (ret_line e a) g now = leaves-ahead tr (go_to k (g.moves true now.running.own) now) now.callers

  line-ahead : (tr : List ℕ) (k : ℕ) (l : Line) (g : Guard H) (now : State H) → turn_by F ls k l g (ahead tr now) ≡ turn_ahead tr (turn_by F ls k l g now)
  line-ahead tr k l g now =
      turn_is k l g (ahead tr now) ∙ must-ahead tr (allowed l g now) now (passed F ls k l g (ahead tr now)) (passed F ls k l g now) (passed-ahead tr k l g now) ∙ ap (turn_ahead tr) (sym (turn_is k l g now))

  pub step-ahead : (tr : List ℕ) (s : State H) → step_of F ls (ahead tr s) ≡ turn_ahead tr (step_of F ls s)
  unfolding step_of
  step-ahead tr s =
      let k = s.running.at in
      let l = line_at ls k in
      let g = F.guard k l in
      cond-ahead tr (eqb k (finish_of ls s.running.function)) (leaves_of F (ahead tr s) s.callers) (turn_by F ls k l g (ahead tr s)) (leaves_of F s s.callers) (turn_by F ls k l g s) (leaves-ahead tr s s.callers) (line-ahead tr k l g s)

  ahead-of-none : (tr : List ℕ) (s : State H) → retraced tr s ≡ ahead tr (retraced [] s)
  ahead-of-none tr s = ap (λ y. retraced y s) (sym (append-nil tr))

  pub step-retraced : (tr : List ℕ) (s : State H) → step_of F ls (retraced tr s) ≡ turn_ahead tr (step_of F ls (retraced [] s))
  step-retraced tr s = ap (step_of F ls) (ahead-of-none tr s) ∙ step-ahead tr (retraced [] s)

-- ---- a run with more before the trace: where it starts after k steps instead of j, it takes that many more
pub record Retraced {H : Type 0} (tr : List ℕ) (k j : ℕ) (x y : Answer H) : Type 0 where
  pub step_is : x.step ≡ y.step
  pub steps_are : x.steps + j ≡ y.steps + k
  pub state_is : x.state ≡ ahead tr y.state

-- ---- the test of two traces that begin alike
pub same-append : (tr x y : List ℕ) → same (tr ++ x) (tr ++ y) ≡ same x y
unfolding same
same-append [] x y = refl
same-append (z ∷ tr) x y = rw (eq-eqb z z refl) (same-append tr x y)

-- ---- a run that has ended goes no further, whichever machine steps
pub run-over : {C : Type 0} (m : ℕ → State C → Turn C) (d b k : ℕ) (s : State C) → outcome_of_lem (run m d k s).step ≢ 0 → run m (d + b) k s ≡ run m d k s
unfolding run outcome_of_lem
run-over m zero b k s o = absurd (o refl)
run-over {C} m (suc d) b k s o = rw (suc-add d b) (by (m k s) o (λ s' o'. run-over m d b (suc k) s' o'))
  where
    by : (r : Turn C) → outcome_of_lem (after k r (λ s'. run m d (suc k) s')).step ≢ 0 → ((s' : State C) → outcome_of_lem (run m d (suc k) s').step ≢ 0 → run m (d + b) (suc k) s' ≡ run m d (suc k) s')
        → after k r (λ s'. run m (d + b) (suc k) s') ≡ after k r (λ s'. run m d (suc k) s')
    by (on s') x ih = ih s' x
    by (ends y s') x ih = refl
    by (untaken y s') x ih = refl

module _ {H : Type 0} (F : Form H) (ls : List Line) where
  run-ahead : (tr : List ℕ) (b k j : ℕ) (s : State H) → Retraced tr k j (run (striking_step_of F ls None) b k (ahead tr s)) (run (striking_step_of F ls None) b j s)
  unfolding run
  run-ahead tr zero k j s = record { step_is = refl; steps_are = omega arith; state_is = refl }
  run-ahead tr (suc b) k j s = rw (step-ahead F ls tr s) (by (step_of F ls s) (λ s'. run-ahead tr b (suc k) (suc j) s'))
    where
      by : (r : Turn H) → ((s' : State H) → Retraced tr (suc k) (suc j) (run (striking_step_of F ls None) b (suc k) (ahead tr s')) (run (striking_step_of F ls None) b (suc j) s'))
          → Retraced tr k j (after k (turn_ahead tr r) (λ s'. run (striking_step_of F ls None) b (suc k) s')) (after j r (λ s'. run (striking_step_of F ls None) b (suc j) s'))
      by (on s') ih =
          let x = ih s' in
          record { step_is = x.step_is; steps_are = omega (arith, x.steps_are); state_is = x.state_is }
      by (ends o s') ih = record { step_is = refl; steps_are = omega arith; state_is = refl }
      by (untaken o s') ih = record { step_is = refl; steps_are = omega arith; state_is = refl }

  pub run_retraced : (tr : List ℕ) (b k j : ℕ) (s : State H) → Retraced tr k j (run (striking_step_of F ls None) b k (retraced tr s)) (run (striking_step_of F ls None) b j (retraced [] s))
  run_retraced tr b k j s =
      subst (λ y. Retraced tr k j (run (striking_step_of F ls None) b k y) (run (striking_step_of F ls None) b j (retraced [] s))) (sym (ahead-of-none F ls tr s)) (run-ahead tr b k j (retraced [] s))

  pub ending_retraced : (tr rest : List ℕ) (b k j : ℕ) (s : State H)
      → ending_of (tr ++ rest) (run (striking_step_of F ls None) b k (retraced tr s)) ≡ ending_of rest (run (striking_step_of F ls None) b j (retraced [] s))
  unfolding ending_of
  ending_retraced tr rest b k j s =
      let x = run_retraced tr b k j s in
      let y = run (striking_step_of F ls None) b j (retraced [] s) in
      rw (x.step_is, ap (λ z. same z.trace (tr ++ rest)) x.state_is ∙ same-append tr y.state.trace rest)

  -- ---- a run in pieces: d steps that do not end it, then b more
  pub record Pieces (d b k : ℕ) (s : State H) : Type 0 where
    pub goes_on : run (striking_step_of F ls None) (d + b) k s ≡ run (striking_step_of F ls None) b (k + d) (run (striking_step_of F ls None) d k s).state
    pub taken : (run (striking_step_of F ls None) d k s).steps ≡ k + d

  pub pieces : (d b k : ℕ) (s : State H) → outcome_of_lem (run (striking_step_of F ls None) d k s).step ≡ 0 → Pieces d b k s
  unfolding run
  pieces zero b k s o = record { goes_on = rw (zero-add b, add-zero k); taken = omega arith }
  pieces (suc d) b k s o = by (step_of F ls s) refl o (λ s' o'. pieces d b (suc k) s' o')
    where
      by : (r : Turn H) → step_of F ls s ≡ r → outcome_of_lem (after k r (λ s'. run (striking_step_of F ls None) d (suc k) s')).step ≡ 0
          → ((s' : State H) → outcome_of_lem (run (striking_step_of F ls None) d (suc k) s').step ≡ 0 → Pieces d b (suc k) s') → Pieces (suc d) b k s
      by (on s') e o' ih =
          let x = ih s' o' in
          let q : suc k + d ≡ k + suc d = omega arith in
          record { goes_on = rw (suc-add d b, e) (x.goes_on ∙ ap (λ y. run (striking_step_of F ls None) b y (run (striking_step_of F ls None) d (suc k) s').state) q); taken = rw e (x.taken ∙ q) }
      by (ends y g) e o' ih = absurd (ends-nonzero F ls s y g e o')
      by (untaken y g) e o' ih = absurd (never-untaken F ls s y g e)

  pub went_on : (x : Step) (i : ℕ) → x ≡ Went i → outcome_of_lem x ≡ 0
  unfolding outcome_of_lem
  went_on x i e = ap outcome_of_lem e

  pub run_on : (d b k : ℕ) (s : State H) (i : ℕ) → (run (striking_step_of F ls None) d k s).step ≡ Went i
      → run (striking_step_of F ls None) (d + b) k s ≡ run (striking_step_of F ls None) b (k + d) (run (striking_step_of F ls None) d k s).state
  run_on d b k s i e = (pieces d b k s (went_on _ i e)).goes_on

  pub run_on_steps : (d k : ℕ) (s : State H) (i : ℕ) → (run (striking_step_of F ls None) d k s).step ≡ Went i → (run (striking_step_of F ls None) d k s).steps ≡ k + d
  run_on_steps d k s i e = (pieces d 0 k s (went_on _ i e)).taken
