-- Whole runs of any form with a strike, over what an unstruck run keeps to, I: a strike that does not strike changes nothing, a jump
-- beyond place m ends the run there, and one that is caught comes to what demand 3 says. Assumes nothing.
use mathlib.Core.Logic.{◌≢◌}
use mathlib.Core.Path.{◌≡◌, refl, sym, ap, ◌∙◌, subst}
use mathlib.Core.Bool.{Bool, true, false, cond, not, ◌&&◌}
use mathlib.Core.List.{List}
use Prim.Native.Nat.{ℕ, zero, suc, ◌+◌, ◌-◌, ◌≤◌, ◌<◌}
use native.Mathlib.Nat.{add-zero, zero-add, suc-add}
use native.Mathlib.Omega.{arith}
use lib.Dec.{eqb, ltb}
use borrow.Author.Tests.{eq-eqb, ne_eqb, eqb-true, eqb-false, ltb-true, ltb-false, lt-ltb, le-ltb, le-leb, lt-leb}
use Rattle.rules.specs.Strike.{Strike, None, Jump}
use Rattle.rules.specs.declared.step.Step.{Step}
use Rattle.rules.specs.declared.step.Step.TheVariants.{Went, Alarm, Beyond, Overflow}
use Rattle.rules.specs.Limits.{no_step}
use Rattle.rules.specs.Line.{Line}
use Rattle.rules.specs.Function.{finish_of, last_place}
use Rattle.rules.specs.State.{State, go_to}
use Rattle.rules.specs.Run.{Turn, on, ends, untaken, Answer, after, run, outcome_of_lem}
use Rattle.rules.specs.Form.{Form, strike_by_lem, place_line, struck, step_of, striking_step_of, start_by, run_of}
use Rattle.rules.specs.Match.{guard_between}
use Rattle.rules.specs.Demands.{before, strikes, Struck, struck_shown, alarm_step, done_at, overflows_at, caught_from, Jumped}
use Rattle.std.proofs.lemmas.Bool.{not-true}
use Rattle.rules.proofs.Logic.{clash, and_left, and_right}

-- ---- a strike that names step j: every other step is as without it
abbrev pub Named : {H : Type 0} → Form H → List Line → Strike → ℕ → Type 0
Named {H} F ls x j = (k : ℕ) (h : State H) → j ≢ k → striking_step_of F ls x k h ≡ step_of F ls h

-- variables and trace are those of another state
pub record Keeps {H : Type 0} (h s : State H) : Type 0 where
  pub vars_are : h.vars ≡ s.vars
  pub trace_is : h.trace ≡ s.trace

-- the run at the place that it is struck to
abbrev pub landed_at : {H : Type 0} → List Line → (p : ℕ) → State H → State H
landed_at ls p s = go_to (place_line ls p s) s.running.own s

-- ---- a step of an unstruck run keeps to I, or ends the run
pub data Onward {H : Type 0} (F : Form H) (ls : List Line) (I : State H → Type 0) (h : State H) : Type 0 where
  goes_on : (g : State H) → step_of F ls h ≡ on g → I g → Onward F ls I h
  stops : (o : Step) (g : State H) → step_of F ls h ≡ ends o g → (outcome_of_lem o ≡ 0 → ⊥) → Onward F ls I h

-- ---- the step that a jump strikes: the alarm comes at once, or one step later, or the do at the place overflows
pub data Caught {H : Type 0} (F : Form H) (ls : List Line) (p : ℕ) (s : State H) : Type 0 where
  at_once : overflows_at ls p s ≡ false → ((k : ℕ) → alarm_step ls p k s ≡ k) → (h : State H) → step_of F ls (landed_at ls p s) ≡ ends Alarm h → Keeps h (done_at ls p s) → Caught F ls p s
  one_later : overflows_at ls p s ≡ false → ((k : ℕ) → alarm_step ls p k s ≡ suc k) → (h g : State H) → step_of F ls (landed_at ls p s) ≡ on h → h.running.at < finish_of ls h.running.function → step_of F ls h ≡ ends Alarm g
      → Keeps h (done_at ls p s) → Keeps g (done_at ls p s) → Caught F ls p s
  overflowing : overflows_at ls p s ≡ true → (row held : ℕ) (h : State H) → step_of F ls (landed_at ls p s) ≡ ends (Overflow row held) h → Keeps h s → Caught F ls p s

pub after_same : {H : Type 0} (k : ℕ) (r : Turn H) (f g : State H → Answer H) → ((h : State H) → f h ≡ g h) → after k r f ≡ after k r g
after_same k (on h) f g e = e h
after_same k (ends o h) f g e = refl
after_same k (untaken o h) f g e = refl

module _ {H : Type 0} (F : Form H) (ls : List Line) where
  -- a jump strikes no step but its own
  pub not-now : (j p : ℕ) → Named F ls (Jump j p) j
  not-now j p k h x = rw (ne_eqb j k x)

  -- it comes after the budget
  pub not-reached : (x : Strike) (j : ℕ) → Named F ls x j → (b k : ℕ) (h : State H) → k + b ≤ j → run (striking_step_of F ls x) b k h ≡ run (striking_step_of F ls None) b k h
  unfolding run
  not-reached x j w zero k h l = refl
  not-reached x j w (suc b) k h l = rw (w k h (omega arith)) (after_same k (step_of F ls h) _ _ (λ h'. not-reached x j w b (suc k) h' (omega arith)))

  -- it is over
  pub over-same : (x : Strike) (j : ℕ) → Named F ls x j → (b k : ℕ) (h : State H) → j < k → run (striking_step_of F ls x) b k h ≡ run (striking_step_of F ls None) b k h
  unfolding run
  over-same x j w zero k h l = refl
  over-same x j w (suc b) k h l = rw (w k h (omega arith)) (after_same k (step_of F ls h) _ _ (λ h'. over-same x j w b (suc k) h' (omega arith)))

  -- the run ends before it, or the step that it names is as without it
  no-strike : (x : Strike) (j : ℕ) → Named F ls x j → (d b k : ℕ) (h : State H) → k + d ≡ j
      → (outcome_of_lem (run (striking_step_of F ls None) d k h).step ≡ 0 → striking_step_of F ls x j (run (striking_step_of F ls None) d k h).state ≡ step_of F ls (run (striking_step_of F ls None) d k h).state)
      → run (striking_step_of F ls x) b k h ≡ run (striking_step_of F ls None) b k h
  unfolding run outcome_of_lem
  no-strike x j w d zero k h e o = refl
  no-strike x j w zero (suc b) k h e o =
      let q : k ≡ j = omega arith in
      rw (ap (λ y. striking_step_of F ls x y h) q ∙ o refl) (after_same k (step_of F ls h) _ _ (λ h'. over-same x j w b (suc k) h' (omega arith)))
  no-strike x j w (suc d) (suc b) k h e o =
      rw (w k h (omega arith)) (by (step_of F ls h) o (λ h' o'. no-strike x j w d b (suc k) h' (omega arith) o'))
    where
      by : (r : Turn H)
          → (outcome_of_lem (after k r (λ h'. run (striking_step_of F ls None) d (suc k) h')).step ≡ 0 → striking_step_of F ls x j (after k r (λ h'. run (striking_step_of F ls None) d (suc k) h')).state ≡ step_of F ls (after k r (λ h'. run (striking_step_of F ls None) d (suc k) h')).state)
          → ((h' : State H)
          → (outcome_of_lem (run (striking_step_of F ls None) d (suc k) h').step ≡ 0 → striking_step_of F ls x j (run (striking_step_of F ls None) d (suc k) h').state ≡ step_of F ls (run (striking_step_of F ls None) d (suc k) h').state)
          → run (striking_step_of F ls x) b (suc k) h' ≡ run (striking_step_of F ls None) b (suc k) h')
          → after k r (λ h'. run (striking_step_of F ls x) b (suc k) h') ≡ after k r (λ h'. run (striking_step_of F ls None) b (suc k) h')
      by (on h') o ih = ih h' o
      by (ends y h') o ih = refl
      by (untaken y h') o ih = refl

  -- ---- jumps that do not strike
  not-struck-by : (vs : List ℕ) (b k p : ℕ) → (x y z : Bool) → eqb k no_step ≡ x → ltb k b ≡ y → eqb (outcome_of_lem (before F ls vs k).step) 0 ≡ z → not x && y && z ≡ false
      → run_of F ls (cond x None (Jump k p)) b vs ≡ run_of F ls None b vs
  not-struck-by vs b k p true y z ex ey ez e = refl
  not-struck-by vs b k p false false z ex ey ez e = not-reached (Jump k p) k (not-now k p) b 0 (start_by F vs) (omega (arith, ltb-false k b ey))
  not-struck-by vs b k p false true true ex ey ez e = clash {b = true} refl e
  not-struck-by vs b k p false true false ex ey ez e = no-strike (Jump k p) k (not-now k p) k b 0 (start_by F vs) (omega arith) (λ o. absurd (eqb-false _ _ ez o))

  pub not_struck : (vs : List ℕ) (b k p : ℕ) → strikes F ls vs b k ≡ false → run_of F ls (strike_by_lem k p) b vs ≡ run_of F ls None b vs
  not_struck vs b k p e = not-struck-by vs b k p (eqb k no_step) (ltb k b) (eqb (outcome_of_lem (before F ls vs k).step) 0) refl refl refl e

  -- ---- the struck step, and the one after it
  pub struck-on : (p k : ℕ) (h : State H) → p ≤ last_place ls h.running.function → struck ls (Jump k p) k h ≡ on (landed_at ls p h)
  struck-on p k h l = rw (eq-eqb k k refl, le-leb p (last_place ls h.running.function) l)

  struck-beyond : (p k : ℕ) (h : State H) → last_place ls h.running.function < p → struck ls (Jump k p) k h ≡ untaken (Beyond (last_place ls h.running.function)) h
  struck-beyond p k h l = rw (eq-eqb k k refl, lt-leb p (last_place ls h.running.function) l)

  beyond-from : (p k b : ℕ) (h : State H) → last_place ls h.running.function < p
      → run (striking_step_of F ls (Jump k p)) (suc b) k h ≡ record { step = Beyond (last_place ls h.running.function); steps = k; state = h }
  unfolding run
  beyond-from p k b h l = rw (struck-beyond p k h l)

  shown_of : (o n : ℕ) (h s : State H) → Keeps h s → ◌≡◌ {A = Struck} (record { outcome = o; steps = n; trace = h.trace; variables = h.vars }) (record { outcome = o; steps = n; trace = s.trace; variables = s.vars })
  shown_of o n h s q = rw (q.vars_are, q.trace_is)

  caught-from : (p k b : ℕ) (s : State H) → p ≤ last_place ls s.running.function → Caught F ls p s
      → struck_shown (run (striking_step_of F ls (Jump k p)) (suc b) k s) ≡ caught_from ls (k + suc b) k p s
  unfolding run caught_from outcome_of_lem
  caught-from p k b s l (at_once v x h e q) =
      rw (struck-on p k s l, e, v, x k, lt-ltb k (k + suc b) (omega arith)) (shown_of 2 (suc k) h (done_at ls p s) q)
  caught-from p k zero s l (one_later v x h g e₁ i e₂ q r) =
      rw (struck-on p k s l, e₁, v, x k, le-ltb (suc k) (k + 1) (omega arith))
      (shown_of 0 (suc k) h (done_at ls p s) q ∙ ap (λ y. record { outcome = 0; steps = y; trace = (done_at ls p s).trace; variables = (done_at ls p s).vars }) (let z : suc k ≡ k + 1 = omega arith in z))
  caught-from p k (suc b) s l (one_later v x h g e₁ i e₂ q r) =
      rw (struck-on p k s l, e₁, not-now k p (suc k) h (omega arith), e₂, v, x k, lt-ltb (suc k) (k + suc (suc b)) (omega arith))
      (shown_of 2 (suc (suc k)) g (done_at ls p s) r)
  caught-from p k b s l (overflowing v row held h e q) = rw (struck-on p k s l, e, v) (shown_of 5 (suc k) h s q)

  -- from the step struck on, the run goes unstruck from the place that it lands at
  strike-now : (p k b : ℕ) (h : State H) → p ≤ last_place ls h.running.function
      → run (striking_step_of F ls (Jump k p)) (suc b) k h ≡ run (striking_step_of F ls None) (suc b) k (landed_at ls p h)
  unfolding run
  strike-now p k b h l =
      rw (struck-on p k h l) (after_same k (step_of F ls (landed_at ls p h)) _ _ (λ h'. over-same (Jump k p) k (not-now k p) b (suc k) h' (omega arith)))

  -- ---- a jump that strikes is one, before a step that the budget holds, of a run that has not ended
  module _ (vs : List ℕ) (b k : ℕ) (e : strikes F ls vs b k ≡ true) where
    some-step : eqb k no_step ≡ false
    some-step = not-true (eqb k no_step) (and_left (not (eqb k no_step)) (ltb k b) (and_left _ (eqb (outcome_of_lem (before F ls vs k).step) 0) e))

    pub in-budget : k < b
    in-budget = ltb-true k b (and_right (not (eqb k no_step)) (ltb k b) (and_left _ (eqb (outcome_of_lem (before F ls vs k).step) 0) e))

    pub not-over : outcome_of_lem (before F ls vs k).step ≡ 0
    not-over = eqb-true _ _ (and_right (not (eqb k no_step) && ltb k b) (eqb (outcome_of_lem (before F ls vs k).step) 0) e)

    pub is-jump : (p : ℕ) → strike_by_lem k p ≡ Jump k p
    unfolding some-step
    is-jump p = rw some-step

  -- ---- the state before step k + d of an unstruck run that has not ended, and a run with a strike there up to it
  module _ (I : State H → Type 0) (step : (h : State H) → I h → Onward F ls I h) where
    record Reached (x : Strike) (d k : ℕ) (h : State H) : Type 0 where
      there : State H
      holds : I there
      plainly : run (striking_step_of F ls None) d k h ≡ record { step = Went there.running.at; steps = k + d; state = there }
      likewise : (b : ℕ) → run (striking_step_of F ls x) (d + b) k h ≡ run (striking_step_of F ls x) b (k + d) there

    reach : (x : Strike) (j : ℕ) → Named F ls x j → (d k : ℕ) (h : State H) → k + d ≡ j → I h → outcome_of_lem (run (striking_step_of F ls None) d k h).step ≡ 0 → Reached x d k h
    unfolding run outcome_of_lem
    reach x j w zero k h l r o = record { there = h; holds = r; plainly = rw (add-zero k); likewise = λ b. rw (add-zero k, zero-add b) }
    reach x j w (suc d) k h l r o = by (step h r) o (λ h' r' o'. reach x j w d (suc k) h' (omega arith) r' o')
      where
        by : Onward F ls I h → outcome_of_lem (after k (step_of F ls h) (λ h'. run (striking_step_of F ls None) d (suc k) h')).step ≡ 0
            → ((h' : State H) → I h' → outcome_of_lem (run (striking_step_of F ls None) d (suc k) h').step ≡ 0 → Reached x d (suc k) h') → Reached x (suc d) k h
        by (goes_on h' e r') o ih =
            let z = ih h' r' (rw e at o) in
            let sh : suc k + d ≡ k + suc d = omega arith in
            record {
              there = z.there;
              holds = z.holds;
              plainly = rw e (z.plainly ∙ ap (λ y. record { step = Went z.there.running.at; steps = y; state = z.there }) sh);
              likewise = λ b. rw (suc-add d b, w k h (omega arith), e) (z.likewise b ∙ ap (λ y. run (striking_step_of F ls x) b y z.there) sh);
            }
        by (stops y h' e n) o ih = absurd (n (rw e at o))

    -- ---- from the start
    none_named : (k : ℕ) → Named F ls None k
    none_named k j h x = refl

    pub kept : (vs : List ℕ) → I (start_by F vs) → (k : ℕ) → outcome_of_lem (before F ls vs k).step ≡ 0 → I (before F ls vs k).state
    kept vs start k o =
        let z = reach None k (none_named k) k 0 (start_by F vs) (zero-add k) start o in
        subst I (sym (ap (λ y. y.state) z.plainly)) z.holds

    module _ (vs : List ℕ) (start : I (start_by F vs)) (b k : ℕ) (e : strikes F ls vs b k ≡ true) where
      there_by : (x : Strike) → Named F ls x k → Reached x k 0 (start_by F vs)
      there_by x w = reach x k w k 0 (start_by F vs) (zero-add k) start (not-over vs b k e)

      state_is : (x : Strike) (w : Named F ls x k) → (before F ls vs k).state ≡ (there_by x w).there
      state_is x w = ap (λ y. y.state) (there_by x w).plainly

      -- the run with the strike, from step k on
      from_there : (x : Strike) (w : Named F ls x k) → run_of F ls x b vs ≡ run (striking_step_of F ls x) (suc (b - suc k)) k (there_by x w).there
      from_there x w =
          let q : b ≡ k + suc (b - suc k) = omega (arith, in-budget vs b k e) in
          ap (λ y. run_of F ls x y vs) q ∙ (there_by x w).likewise (suc (b - suc k)) ∙ ap (λ y. run (striking_step_of F ls x) (suc (b - suc k)) y (there_by x w).there) (zero-add k)

      -- the run taken up at the step struck: as it goes on unstruck, and struck
      left_is : suc (b - suc k) ≡ b - k
      left_is = omega (arith, in-budget vs b k e)

      pub goes_plainly : run_of F ls None b vs ≡ run (striking_step_of F ls None) (b - k) k (before F ls vs k).state
      goes_plainly =
          let w = none_named k in
          from_there None w ∙ ap (λ y. run (striking_step_of F ls None) y k (there_by None w).there) left_is ∙ ap (run (striking_step_of F ls None) (b - k) k) (sym (state_is None w))

      pub goes_struck : (p : ℕ) → p ≤ last_place ls (before F ls vs k).state.running.function
          → run_of F ls (strike_by_lem k p) b vs ≡ run (striking_step_of F ls None) (b - k) k (landed_at ls p (before F ls vs k).state)
      goes_struck p l =
          let w = not-now k p in
          let x = (there_by (Jump k p) w).there in
          let si = state_is (Jump k p) w in
          ap (λ y. run_of F ls y b vs) (is-jump vs b k e p) ∙ from_there (Jump k p) w ∙ strike-now p k (b - suc k) x (subst (λ y. p ≤ last_place ls y.running.function) si l)
          ∙ ap (λ y. run (striking_step_of F ls None) y k (landed_at ls p x)) left_is ∙ ap (λ y. run (striking_step_of F ls None) (b - k) k (landed_at ls p y)) (sym si)

      beyond : (p : ℕ) → last_place ls (before F ls vs k).state.running.function < p
          → run_of F ls (strike_by_lem k p) b vs ≡ record { step = Beyond (last_place ls (before F ls vs k).state.running.function); steps = k; state = (before F ls vs k).state }
      beyond p l =
          let w = not-now k p in
          ap (λ y. run_of F ls y b vs) (is-jump vs b k e p) ∙ from_there (Jump k p) w
          ∙ rw (state_is (Jump k p) w) (beyond-from p k (b - suc k) (there_by (Jump k p) w).there (subst (λ y. last_place ls y.running.function < p) (state_is (Jump k p) w) l))

      caught : (p : ℕ) → ((s : State H) → I s → p ≤ last_place ls s.running.function → guard_between ls s.running.at (place_line ls p s) ≡ true → Caught F ls p s)
          → p ≤ last_place ls (before F ls vs k).state.running.function
          → guard_between ls (before F ls vs k).state.running.at (place_line ls p (before F ls vs k).state) ≡ true
          → struck_shown (run_of F ls (strike_by_lem k p) b vs) ≡ caught_from ls b k p (before F ls vs k).state
      caught p catches l w =
          let nm = not-now k p in
          let x = (there_by (Jump k p) nm).there in
          let si = state_is (Jump k p) nm in
          let l' : p ≤ last_place ls x.running.function = subst (λ y. p ≤ last_place ls y.running.function) si l in
          let w' : guard_between ls x.running.at (place_line ls p x) ≡ true = subst (λ y. guard_between ls y.running.at (place_line ls p y) ≡ true) si w in
          let q : k + suc (b - suc k) ≡ b = omega (arith, in-budget vs b k e) in
          ap (λ y. struck_shown (run_of F ls y b vs)) (is-jump vs b k e p) ∙ ap struck_shown (from_there (Jump k p) nm) ∙ caught-from p k (b - suc k) x l' (catches x (there_by (Jump k p) nm).holds l' w')
          ∙ ap (λ y. caught_from ls y k p x) q ∙ ap (caught_from ls b k p) (sym si)

    -- ---- demand 3 of runs with a strike, of every form
    pub jumped : (vs : List ℕ) → I (start_by F vs) → (b k p : ℕ)
        → ((s : State H) → I s → p ≤ last_place ls s.running.function → guard_between ls s.running.at (place_line ls p s) ≡ true → Caught F ls p s) → Jumped F ls vs b k p
    jumped vs start b k p catches =
        record { not_struck = not_struck vs b k p; beyond = λ e l. beyond vs start b k e p l; caught = λ e l w. caught vs start b k e p catches l w }
