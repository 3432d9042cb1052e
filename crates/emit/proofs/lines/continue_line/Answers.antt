use Rattle.emit.proofs.Leaves.{continue-line}
use Rattle.emit.proofs.lines.continue_line.Goals as goal

pub returns : goal.returns
returns c = continue-line c.loop_of-o.ensures c.spot_of-here.ensures c.spot_of-up.ensures c.child_of-t.ensures c.requires.1 c.line_of.ensures c.out.ensures
