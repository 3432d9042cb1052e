use Rattle.emit.proofs.RowLines.{else-test-is}
use Rattle.emit.proofs.lines.else_test.Goals as goal

pub returns : goal.returns
returns c = else-test-is c.operands_of-f.ensures c.spot_of-here.ensures c.requires.2 c.child_of-s.ensures c.child_of-t.ensures c.base_of-b.ensures c.base_of-c.ensures c.line_after.ensures c.test.ensures
