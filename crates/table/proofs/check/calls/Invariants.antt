use Rattle.table.proofs.Whole.{CallsTo}
use Rattle.table.proofs.check.calls.Given as goal

abbrev pub invariant-loop-at : goal.invariant-loop-at
invariant-loop-at l = CallsTo l.rows l.at
