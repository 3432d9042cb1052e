use Rattle.figures.proofs.Tallies.{weights-are}
use Rattle.figures.proofs.weights.weights.Goals as goal

pub returns : goal.returns
returns c = weights-are c.weight.ensures c.weight-2.ensures c.weight-3.ensures c.weight-4.ensures c.weight-5.ensures c.weight-6.ensures c.weight-7.ensures c.weight-8.ensures c.weight-9.ensures
