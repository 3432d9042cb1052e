-- What a run keeps, as its steps change it: the registers, the functions that wait, the variables and the trace.
use Rattle.std.specs.Prelude.{ℕ, ◌+◌, ◌<◌, List, length, set, replicate}
use Rattle.rules.specs.declared.answer.Ran.{Ran}
use Rattle.rules.specs.Computed.{Computed, Fits, Overflows}
use Rattle.rules.specs.declared.operands.Operands.{Operands}
use Rattle.rules.specs.declared.step.Step.{Step}
use Rattle.rules.specs.declared.step.Step.TheVariants.{Went, Finished, Alarm, TooManyOpen, Beyond, Overflow}
use Rattle.rules.specs.Limits.{max_open}
use Rattle.rules.specs.Variables.{variable, computed}
use Rattle.rules.specs.Run.{outcome_of_lem}
use Rattle.state.specs.declared.machine.Registers.{Registers}
use Rattle.state.specs.declared.machine.Machine.{Machine}
use Rattle.state.specs.declared.machine.Moved.{Moved}
use Rattle.state.specs.declared.machine.Stopped.{Stopped}

-- ---- the registers
-- with where the run is and the steps set
abbrev pub registers_at : Registers → (at steps : ℕ) → Registers
registers_at h k n =
    record { depth = h.depth; function = h.function; at = k; last = h.last; steps = n; traced = h.traced }

-- one more do is done, and the run goes on at the next row or line
abbrev pub traced_of : Registers → Registers
traced_of h =
    record { depth = h.depth; function = h.function; at = h.at + 1; last = h.last; steps = h.steps; traced = h.traced + 1 }

-- ---- an answer with the registers after it
abbrev pub moved : Step → Registers → Moved
moved s h = record { step = s; registers = h }

-- by whether a step went on
abbrev pub onward : {A : Type 0} → Step → (ℕ → A) → A → A
onward (Went k) f z = f k
onward Finished f z = z
onward Alarm f z = z
onward (TooManyOpen n) f z = z
onward (Beyond n) f z = z
onward (Overflow n v) f z = z

-- ---- a do
-- there is a slot for its row
pub record HasSlot (h : Registers) (slots : List ℕ) : Type 0 where
  pub slot : h.traced < length slots
  pub count : h.traced < 65535

-- an answer with the variables and the slots after it
pub record Done : Type 0 where
  pub to : Moved
  pub vars : List ℕ
  pub slots : List ℕ

abbrev pub done : Moved → (vars slots : List ℕ) → Done
done x vs tr = record { to = x; vars = vs; slots = tr }

-- a variable gets x, and the row goes into the first slot past the trace
abbrev pub put_of : (to x row : ℕ) → Registers → (vars slots : List ℕ) → Done
put_of to x row h vs tr = done (moved (Went (h.at + 1)) (traced_of h)) (set vs to x) (set tr h.traced row)

-- variable p changes, or nothing does
abbrev pub did_by : Computed → (p row : ℕ) → Registers → (vars slots : List ℕ) → Done
did_by (Fits to x) p row h vs tr = put_of to x row h vs tr
did_by Overflows p row h vs tr = done (moved (Overflow row (variable vs p)) h) vs tr

unfoldable pub did_of : Operands → (row : ℕ) → Registers → (vars slots : List ℕ) → Done
did_of o row h vs tr = did_by (computed o vs) o.p row h vs tr

-- ---- the machine
-- put together where a run stops
abbrev pub stopped_at : Step → (resumes functions vars : List ℕ) → Registers → Stopped
stopped_at s ks fs vs h = record { step = s; machine = record { resumes = ks; functions = fs; variables = vs; registers = h } }

-- the running function goes to another line
abbrev pub machine_at : Machine → (at : ℕ) → Machine
machine_at m k =
    record {
      resumes = m.resumes;
      functions = m.functions;
      variables = m.variables;
      registers = registers_at m.registers k m.registers.steps;
    }

-- no step is taken and no do is done
abbrev pub afresh_of : Registers → Registers
afresh_of h = record { depth = h.depth; function = h.function; at = h.at; last = h.last; steps = 0; traced = 0 }

abbrev pub machine_afresh : Machine → Machine
machine_afresh m =
    record { resumes = m.resumes; functions = m.functions; variables = m.variables; registers = afresh_of m.registers }

-- function 0 alone is open, and nothing is done
abbrev pub first_registers : (at : ℕ) → Registers
first_registers k = record { depth = 0; function = 0; at = k; last = 0; steps = 0; traced = 0 }

abbrev pub begun_at : (at : ℕ) → (vars : List ℕ) → Machine
begun_at k vs =
    record {
      resumes = replicate max_open 0;
      functions = replicate max_open 0;
      variables = vs;
      registers = first_registers k;
    }

-- what an accepted run answers
abbrev pub ran_of : Stopped → Ran
ran_of x =
    record {
      number = 0;
      outcome = outcome_of_lem x.step;
      steps = x.machine.registers.steps;
      traced = x.machine.registers.traced;
      variables = x.machine.variables;
    }
