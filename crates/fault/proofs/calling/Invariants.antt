use Rattle.fault.proofs.Ends.{CallsTo}
use Rattle.fault.proofs.calling.Given as goal

abbrev pub invariant-loop-at : goal.invariant-loop-at
invariant-loop-at l = CallsTo l.rows l.count l.at
