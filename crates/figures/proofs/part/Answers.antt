use borrow.Author.Rules.{rules}
use Rattle.figures.proofs.Counting.{as-case, as-default, as_none}
use Rattle.figures.proofs.part.Goals as goal

pub returns-in-11 : goal.returns-in-11
returns-in-11 c = as-case c.args.byte c.args.first c.args.t c.in-11.is c.otherwise.ensures c.add.ensures

pub returns-in-12 : goal.returns-in-12
returns-in-12 c = as-default c.args.byte c.args.first c.args.t c.in-12.is c.otherwise-in-12.ensures

pub returns-in_default : goal.returns-in_default
returns-in_default c = as_none c.args.byte c.args.first c.args.t (search rules) (search rules)
