use Rattle.fault.proofs.Ends.{PassTo}
use Rattle.fault.proofs.pass.rows.Given as goal

abbrev pub invariant-loop-at : goal.invariant-loop-at
invariant-loop-at l = PassTo l.rows l.initial.chain l.at l.s l.parts l.t l.marks l.vars l.used l.chain
