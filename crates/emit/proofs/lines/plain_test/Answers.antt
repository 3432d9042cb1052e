use Rattle.emit.proofs.RowLines.{plain-is}
use Rattle.emit.proofs.lines.plain_test.Goals as goal

pub returns : goal.returns
returns c = plain-is c.operands_of-f.ensures c.spot_of-here.ensures c.child_of-s.ensures c.base_of-b.ensures c.line_past-past.ensures c.test.ensures
