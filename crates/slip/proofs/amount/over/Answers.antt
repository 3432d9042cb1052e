use Rattle.slip.proofs.Amounts.{over_none, over_do}
use Rattle.slip.proofs.amount.over.Goals as goal

pub returns-in_default : goal.returns-in_default
returns-in_default c = over_none _ _ _ c.requires c.kind_at.ensures c.in_default.not-Do

pub returns : goal.returns
returns c = over_do _ _ _ c.requires c.kind_at.ensures c.in-Do.is c.line_at-l.ensures c.slips.ensures
