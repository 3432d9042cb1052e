use Rattle.figures.proofs.Counting.{as_function, as-other}
use Rattle.figures.proofs.tally.plain.Goals as goal

pub returns-then-kind : goal.returns-then-kind
returns-then-kind c = as_function c.args.kind c.args.t c.if-kind.true c.begin.ensures

pub returns : goal.returns
returns c = as-other c.args.kind c.args.t c.if-kind.false c.add.ensures
