-- The state of the source machine that a machine and its slots are, and what a run from it comes to.
use Rattle.std.specs.Prelude.{ℕ, zero, suc, ◌+◌, ◌≤◌, ◌<◌, ◌≡◌, List, [], ◌∷◌, length, get_or, take, drop}
use Rattle.rules.specs.declared.answer.Ran.{Ran}
use Rattle.rules.specs.declared.step.Step.TheVariants.{Went}
use Rattle.rules.specs.Limits.{max_open}
use Rattle.rules.specs.Row.{Table, table_of}
use Rattle.rules.specs.State.{Frame, frame}
use Rattle.rules.specs.Run.{Turn, on, ends, Answer, run}
use Rattle.rules.specs.Source.{Source, source_step}
use Rattle.rules.specs.Calls.{Running}
use Rattle.layout.specs.Spot.{Inside}
use Rattle.state.specs.declared.machine.Machine.{Machine}
use Rattle.state.specs.declared.machine.Stopped.{Stopped}
use Rattle.state.specs.Machine.{registers_at, onward}
use Rattle.source.specs.Step.{Parts, parts_of, After}

-- ---- the parts of a machine, with the slots that it is lent
abbrev pub parts_in : Machine → (slots : List ℕ) → Parts
parts_in m tr = parts_of m.registers m.resumes m.functions m.variables tr

abbrev pub stopped_with : Stopped → (slots : List ℕ) → After
stopped_with x tr = record { step = x.step; parts = parts_in x.machine tr }

-- with the row and the steps set
abbrev pub parts_at : Parts → (row steps : ℕ) → Parts
parts_at p i n = parts_of (registers_at p.registers i n) p.resumes p.functions p.vars p.slots

-- ---- the state
-- the functions that wait below depth d, the newest first
abbrev pub frames_of : (resumes functions : List ℕ) → (d : ℕ) → List (Frame (Unit {0}))
frames_of ks fs zero = []
frames_of ks fs (suc d) = frame (get_or fs d 0) (get_or ks d 0) tt ∷ frames_of ks fs d

abbrev pub state_of : Parts → Source
state_of p =
    record {
      running = frame p.registers.function p.registers.at tt;
      callers = frames_of p.resumes p.functions p.registers.depth;
      last = tt;
      vars = p.vars;
      trace = take p.registers.traced p.slots;
    }

-- what a step came to, and a run
abbrev pub turn_of : After → Turn (Unit {0})
turn_of a = onward a.step (λ i. on (state_of (parts_at a.parts i 0))) (ends a.step (state_of a.parts))

abbrev pub answer_of : After → Answer (Unit {0})
answer_of a = record { step = a.step; steps = a.parts.registers.steps; state = state_of a.parts }

abbrev pub run_from : Table → (budget : ℕ) → Parts → Answer (Unit {0})
run_from t b p = run (λ k s. source_step t s) b p.registers.steps (state_of p)

-- ---- what holds of a machine before each step: every open function is at a row of the table
pub record Fits (bs : List ℕ) (depth row : ℕ) (resumes functions : List ℕ) : Type 0 where
  pub deep : depth < max_open
  pub resumes_are : length resumes ≡ max_open
  pub functions_are : length functions ≡ max_open
  pub here : Inside bs row
  pub waiting : (d : ℕ) → d < depth → Inside bs (get_or resumes d 0)

-- at most `left` steps are to come, and there are slots for them
pub record Going (bs : List ℕ) (left : ℕ) (p : Parts) : Type 0 where
  pub fits : Fits bs p.registers.depth p.registers.at p.resumes p.functions
  pub few : p.registers.steps + left ≤ 65535
  pub room : p.registers.traced + left ≤ length p.slots
  pub traced : p.registers.traced ≤ p.registers.steps

-- the slots past the first n are as they were
pub record Kept (n : ℕ) (held slots : List ℕ) : Type 0 where
  pub in_slots : n ≤ length slots
  pub same_length : length slots ≡ length held
  pub same_rest : drop n slots ≡ drop n held

-- a run of these parts came to this, and one with more steps in its budget comes to what it goes on to from here, which it may for as
-- many steps as were to come
pub record Ended (bs : List ℕ) (budget : ℕ) (p : Parts) (a : After) : Type 0 where
  pub answer_is : run_from (table_of bs) budget p ≡ answer_of a
  pub kept : Kept a.parts.registers.traced p.slots a.parts.slots
  pub with_more : (more : ℕ) → run_from (table_of bs) (budget + more) p ≡ onward a.step (λ k. run_from (table_of bs) more a.parts) (answer_of a)
  pub goes_on : (more k : ℕ) → Going bs (budget + more) p → a.step ≡ Went k → Going bs more a.parts

-- ---- what is given back
abbrev pub ran_with : Ran → (slots : List ℕ) → Running
ran_with r tr = record { ran = r; trace = tr }
