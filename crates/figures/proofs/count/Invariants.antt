use Rattle.figures.specs.Tallied.{Counting}
use Rattle.figures.proofs.count.Given as goal

abbrev pub invariant-loop-at : goal.invariant-loop-at
invariant-loop-at l = Counting l.rows l.at l.first l.t
