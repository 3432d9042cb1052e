-- What each line does to a run's registers, arrays, counters and slots, and so what one step does.
use Rattle.std.specs.Prelude.{ℕ, ◌+◌, cond, List, eqb, get_or}
use Rattle.rules.specs.declared.step.Step.{Step}
use Rattle.line.specs.declared.Line.{Line}
use Rattle.line.specs.declared.kind.LineKind.{LineKind}
use Rattle.line.specs.declared.kind.LineKind.TheVariants.{Do, Tick, Test, Leave, Out, Call, Back, Ret}
use Rattle.line.specs.Read.{struct_at, line_kind_at}
use Rattle.state.specs.declared.machine.Registers.{Registers}
use Rattle.state.specs.declared.machine.Moved.{Moved}
use Rattle.state.specs.Machine.{did_of}
use Rattle.guard.specs.Guard.{Counted, tick_of, leave_of, out_of, back_of}
use Rattle.guard.specs.Call.{call_of, return_of, Settled, ret_of, tested_of}

-- ---- a step
-- the first line of each function, the function of each line, and the a of function 0's ret
pub record Map : Type 0 where
  pub starts : List ℕ
  pub owners : List ℕ
  pub home : ℕ

abbrev pub map_of : (starts owners : List ℕ) → (home : ℕ) → Map
map_of ss os home = record { starts = ss; owners = os; home = home }

-- all that a step may change
pub record Parts : Type 0 where
  pub registers : Registers
  pub resumes : List ℕ
  pub functions : List ℕ
  pub vars : List ℕ
  pub words : List ℕ
  pub slots : List ℕ

abbrev pub parts_of : Registers → (resumes functions vars words slots : List ℕ) → Parts
parts_of h ks fs vs ws tr = record { registers = h; resumes = ks; functions = fs; vars = vs; words = ws; slots = tr }

pub record After : Type 0 where
  pub step : Step
  pub parts : Parts

abbrev pub after : Moved → (resumes functions vars words slots : List ℕ) → After
after x ks fs vs ws tr = record { step = x.step; parts = parts_of x.registers ks fs vs ws tr }

-- the line changed counters alone
abbrev pub guarded : Parts → Counted → After
guarded p x =
    record { step = x.step; parts = parts_of p.registers p.resumes p.functions p.vars x.words p.slots }

-- the line changed counters and numbers alone
abbrev pub settling : Parts → Settled → After
settling p x = after x.to p.resumes p.functions p.vars x.words p.slots

-- a line of this kind with these fields
unfoldable pub line_of : Map → LineKind → Line → Parts → After
line_of m Do l p =
    let x = did_of l.operands l.e p.registers p.vars p.slots in
    after x.to p.resumes p.functions x.vars p.words x.slots
line_of m Tick l p = guarded p (tick_of l p.registers.at p.registers.depth p.words)
line_of m Test l p = settling p (tested_of l p.registers p.vars p.words)
line_of m Leave l p = guarded p (leave_of l p.registers.depth p.words)
line_of m Out l p = guarded p (out_of l p.registers.depth p.words)
line_of m Call l p =
    let x = call_of l m.owners p.registers p.resumes p.functions p.words in
    after x.to x.resumes x.functions p.vars x.words p.slots
line_of m Back l p = guarded p (back_of l p.registers.last p.registers.at p.registers.depth p.words)
line_of m Ret l p = settling p (ret_of l m.home p.registers p.resumes p.functions p.words)

abbrev pub returned_of : Map → Parts → After
returned_of m p =
    after (return_of m.home p.registers p.resumes p.functions p.words) p.resumes p.functions p.vars p.words
    p.slots

-- place m of the running function, as a line number
abbrev pub last_line_lem : Map → Registers → ℕ
last_line_lem m h = get_or m.starts (h.function + 1) 0

unfoldable pub step_of : (lines : List ℕ) → Map → Parts → After
step_of bs m p =
    let k = p.registers.at in
    cond (eqb k (last_line_lem m p.registers)) (returned_of m p) (line_of m (line_kind_at bs k) (struct_at bs k) p)
