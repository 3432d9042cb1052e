use Rattle.source.proofs.Answers.{end_returns, end-goes-on}
use Rattle.source.proofs.kinds.end_row.Goals as goal

pub returns-then-k-eq0 : goal.returns-then-k-eq0
returns-then-k-eq0 c = end_returns _ _ _ _ c.go_of-k.ensures c.if-k-eq0.true c.returned.ensures

pub returns : goal.returns
returns c = end-goes-on _ _ _ _ c.go_of-k.ensures c.if-k-eq0.false c.to_row.ensures
