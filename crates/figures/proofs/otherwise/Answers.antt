use Rattle.figures.proofs.Counting.{else-later}
use Rattle.figures.proofs.otherwise.Goals as goal

pub returns : goal.returns
returns c = else-later c.args.first c.args.t c.if-first.false c.add.ensures
