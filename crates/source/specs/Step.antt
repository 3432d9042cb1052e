-- What each row does to a run's registers, arrays and slots, and so what one step does.
use Rattle.std.specs.Prelude.{ℕ, suc, ◌+◌, ◌<◌, ◌≡◌, cond, List, eqb, ltb}
use Rattle.rules.specs.declared.kind.Kind.{Kind}
use Rattle.rules.specs.declared.kind.Kind.TheVariants.{Function, Do, If, Else, Loop, End, Break, Continue, Call, Unknown}
use Rattle.rules.specs.Verdict.{Accepted}
use Rattle.rules.specs.declared.step.Step.{Step}
use Rattle.rules.specs.declared.step.Step.TheVariants.{Went, Finished, TooManyOpen}
use Rattle.rules.specs.Limits.{max_open}
use Rattle.rules.specs.Row.{Table, kind_at, operands_at}
use Rattle.rules.specs.Check.{verdict_of}
use Rattle.rules.specs.Variables.{holds_on}
use Rattle.layout.specs.Spot.{Inside}
use Rattle.state.specs.declared.machine.Registers.{Registers}
use Rattle.state.specs.declared.machine.Moved.{Moved}
use Rattle.state.specs.Machine.{registers_at, moved, HasSlot, did_of, Done}
use Rattle.state.specs.Open.{Opened, opened, opened_of, closed_of}
use Rattle.source.specs.Goes.{go_of_lem}

-- ---- what a step needs
-- the table is accepted, and the run stands at one of its rows, in a function
pub record Standing (bs : List ℕ) (h : Registers) : Type 0 where
  pub accepted : verdict_of bs ≡ Accepted
  pub here : Inside bs h.at

pub record CanStep (bs : List ℕ) (h : Registers) (slots : List ℕ) : Type 0 where
  pub standing : Standing bs h
  pub has_slot : HasSlot h slots
  pub deep : h.depth < max_open

-- ---- rows that change nothing but where the run goes on
abbrev pub goes_to_lem : Registers → (i : ℕ) → Moved
goes_to_lem h i = moved (Went i) (registers_at h i h.steps)

-- an if or a loop
unfoldable pub after_test : Table → Registers → (vars : List ℕ) → Moved
after_test t h vs = goes_to_lem h (cond (holds_on (operands_at t h.at) vs) (suc h.at) (go_of_lem t h.at))

-- an else, a break or a continue
unfoldable pub after_jump : Table → Registers → Moved
after_jump t h = goes_to_lem h (go_of_lem t h.at)

-- ---- the end of a function, whose caller waits or not; an end
unfoldable pub after_return : Registers → (resumes functions : List ℕ) → Moved
after_return h ks fs =
    cond (ltb 0 h.depth) (closed_of h 0 ks fs) (moved Finished h)

unfoldable pub after_end : Table → Registers → (resumes functions : List ℕ) → Moved
after_end t h ks fs = cond (eqb (go_of_lem t h.at) 0) (after_return h ks fs) (goes_to_lem h (go_of_lem t h.at))

-- ---- a call
unfoldable pub after_call : Table → Registers → (resumes functions : List ℕ) → Opened
after_call t h ks fs =
    let n = (operands_at t h.at).n in
    cond (ltb (h.depth + 1) max_open)
    (opened_of h n (go_of_lem t h.at) ks fs)
    (opened (moved (TooManyOpen max_open) h) ks fs)

-- ---- a do
unfoldable pub after_do_lem : Table → Registers → (vars slots : List ℕ) → Done
after_do_lem t h vs tr = did_of (operands_at t h.at) h.at h vs tr

-- ---- a step
-- all that a step may change
pub record Parts : Type 0 where
  pub registers : Registers
  pub resumes : List ℕ
  pub functions : List ℕ
  pub vars : List ℕ
  pub slots : List ℕ

abbrev pub parts_of : Registers → (resumes functions vars slots : List ℕ) → Parts
parts_of h ks fs vs tr = record { registers = h; resumes = ks; functions = fs; vars = vs; slots = tr }

pub record After : Type 0 where
  pub step : Step
  pub parts : Parts

abbrev pub after : Moved → (resumes functions vars slots : List ℕ) → After
after x ks fs vs tr = record { step = x.step; parts = parts_of x.registers ks fs vs tr }

-- the row changed no array and no slot
abbrev pub moving : Parts → Moved → After
moving p x = after x p.resumes p.functions p.vars p.slots

-- a row of this kind
unfoldable pub row_of : Table → Kind → Parts → After
row_of t Function p = moving p (goes_to_lem p.registers (suc p.registers.at))
row_of t Do p =
    let x = after_do_lem t p.registers p.vars p.slots in
    after x.to p.resumes p.functions x.vars x.slots
row_of t If p = moving p (after_test t p.registers p.vars)
row_of t Else p = moving p (after_jump t p.registers)
row_of t Loop p = moving p (after_test t p.registers p.vars)
row_of t End p = moving p (after_end t p.registers p.resumes p.functions)
row_of t Break p = moving p (after_jump t p.registers)
row_of t Continue p = moving p (after_jump t p.registers)
row_of t Call p =
    let x = after_call t p.registers p.resumes p.functions in
    after x.to x.resumes x.functions p.vars p.slots
row_of t Unknown p = moving p (goes_to_lem p.registers (suc p.registers.at))

unfoldable pub step_of : Table → Parts → After
step_of t p = row_of t (kind_at t p.registers.at) p
