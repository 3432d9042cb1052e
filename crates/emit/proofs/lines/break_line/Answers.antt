use Rattle.emit.proofs.Leaves.{break-line}
use Rattle.emit.proofs.lines.break_line.Goals as goal

pub returns : goal.returns
returns c = break-line c.loop_of-o.ensures c.spot_of-here.ensures c.spot_of-up.ensures c.child_of-t.ensures c.requires.1 c.line_past-past.ensures c.out.ensures
