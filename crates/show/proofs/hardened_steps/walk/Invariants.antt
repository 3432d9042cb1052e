use Rattle.std.proofs.Common.{◌+◌}
use Rattle.machine.specs.Runnable.{map_in}
use Rattle.machine.specs.Run.{parts_in}
use Rattle.show.proofs.Lines.{Walking, turns_in}
use Rattle.show.proofs.hardened_steps.walk.Given as goal

abbrev pub invariant-loop-left : goal.invariant-loop-left
invariant-loop-left g l =
    Walking l.table.lines.now (map_in l.table) l.budget l.initial.rest (parts_in l.initial.m l.initial.counters l.initial.trace) l.left l.rest
    (parts_in l.m l.counters l.trace)

abbrev pub decreases-loop-left : goal.decreases-loop-left
decreases-loop-left g l = l.left + turns_in l.rest
