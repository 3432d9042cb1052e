use Rattle.given.proofs.Numbers.{AmongTo}
use Rattle.given.proofs.things.among.Given as goal

abbrev pub invariant-loop-done : goal.invariant-loop-done
invariant-loop-done l = AmongTo l.x l.used l.first l.done
