use Prim.Native.Nat.{◌-◌}
use Rattle.source.specs.Step.{parts_of}
use Rattle.source.proofs.Runs.{Running}
use Rattle.source.proofs.run.run_rows.Given as goal

abbrev pub invariant-loop : goal.invariant-loop
invariant-loop l = Running l.table.rows.now l.budget (parts_of l.initial.h l.initial.resumes l.initial.functions l.initial.variables l.initial.trace) (l.budget - l.counter) (parts_of l.h l.resumes l.functions l.variables l.trace)
