use Prim.Native.Nat.{◌-◌}
use Rattle.machine.specs.Step.{parts_of}
use Rattle.machine.proofs.Runs.{Running}
use Rattle.machine.specs.Runnable.{map_in}
use Rattle.machine.proofs.run.run_lines.Given as goal

abbrev pub invariant-loop : goal.invariant-loop
invariant-loop l = Running l.table.lines.now (map_in l.table) l.budget (parts_of l.initial.h l.initial.resumes l.initial.functions l.initial.variables l.initial.counters l.initial.trace) (l.budget - l.counter) (parts_of l.h l.resumes l.functions l.variables l.counters l.trace)
