-- Steps, budget and outcome: what every run shares, whichever machine steps (01, "Running").
use Rattle.std.specs.Prelude.{ℕ, zero, suc, ◌+◌, Bool, cond}
use Rattle.rules.specs.declared.operands.Operands.{Operands}
use Rattle.rules.specs.declared.step.Step.{Step}
use Rattle.rules.specs.declared.step.Step.TheVariants.{Went, Finished, Alarm, TooManyOpen, Beyond, Overflow}
use Rattle.rules.specs.Variables.{variable, overflows}
use Rattle.rules.specs.State.{State, did}

-- "Outcomes: 0 budget spent, 1 finished, 2 alarm, 3 too many open functions, 4 the place is beyond m." 02, No. 5: "outcome 5"
unfoldable pub outcome_of_lem : Step → ℕ
outcome_of_lem (Went at) = 0
outcome_of_lem Finished = 1
outcome_of_lem Alarm = 2
outcome_of_lem (TooManyOpen limit) = 3
outcome_of_lem (Beyond last) = 4
outcome_of_lem (Overflow row held) = 5

-- What a step comes to: the run goes on; it ends with this step; it ends and the step is not taken.
pub data Turn (C : Type 0) : Type 0 where
  on : State C → Turn C
  ends : Step → State C → Turn C
  untaken : Step → State C → Turn C

-- how a run ended, the steps that it took, and the state that it left
pub record Answer (C : Type 0) : Type 0 where
  pub step : Step
  pub steps : ℕ
  pub state : State C

-- one thing after another within a step
abbrev pub next : {C : Type 0} → Turn C → (State C → Turn C) → Turn C
next (on s) f = f s
next (ends o s) f = ends o s
next (untaken o s) f = untaken o s

-- The do of row i, in either run. 02, No. 5: one that overflows "stops either run with outcome 5, before it changes a variable or the
-- trace; the step is counted".
abbrev pub doing : {C : Type 0} → Operands → (row : ℕ) → State C → Turn C
doing o i s =
    cond (overflows o s.vars) (ends (Overflow i (variable s.vars o.p)) s) (on (did o i s))

-- k steps are taken, and the next came to this: "The step that ends in 2 or 3 is counted .. with 4 the step struck is not taken."
abbrev pub after : {C : Type 0} → (k : ℕ) → Turn C → (State C → Answer C) → Answer C
after k (on s) f = f s
after k (ends o s) f = record { step = o; steps = suc k; state = s }
after k (untaken o s) f = record { step = o; steps = k; state = s }

-- At most b steps more, where k are taken. "Outcome 0 means that exactly the budget was taken. A run that ends in its last
-- budgeted step has that end's outcome." The machine is told the number of the step, from 0.
unfoldable pub run : {C : Type 0} → (machine : ℕ → State C → Turn C) → (b k : ℕ) → State C → Answer C
run m zero k s = record { step = Went s.running.at; steps = k; state = s }
run m (suc b) k s = after k (m k s) (λ s'. run m b (suc k) s')

-- how many of those steps are done and pass the test, which is told the number of the step and the state before it
abbrev pub if_done : {C : Type 0} → Turn C → (State C → ℕ) → ℕ
if_done (on s) f = f s
if_done (ends o s) f = 0
if_done (untaken o s) f = 0

unfoldable pub tally : {C : Type 0} → (ℕ → State C → Bool) → (machine : ℕ → State C → Turn C) → (b k : ℕ) → State C → ℕ
tally p m zero k s = 0
tally p m (suc b) k s = if_done (m k s) (λ s'. cond (p k s) 1 0 + tally p m b (suc k) s')
