use Rattle.std.proofs.Common.{◌-◌}
use Rattle.source.specs.Run.{parts_in}
use Rattle.show.proofs.Rows.{Walking}
use Rattle.show.proofs.source_steps.walk.Given as goal

abbrev pub invariant-loop-step : goal.invariant-loop-step
invariant-loop-step g l =
    Walking l.table.rows.now l.budget (parts_in l.initial.m l.initial.trace) (l.budget - l._step) l.calls (parts_in l.m l.trace)
