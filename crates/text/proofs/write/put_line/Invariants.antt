-- The bytes of the group up to here are on the line.
use Rattle.text.proofs.Putting.{Line}
use Rattle.text.proofs.write.put_line.Given as goal

abbrev pub invariant-loop-x : goal.invariant-loop-x
invariant-loop-x l = Line l.group l.at l.initial.out l.out l.next l.x-index
