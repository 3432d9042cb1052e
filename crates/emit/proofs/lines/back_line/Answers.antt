use Rattle.emit.proofs.Calls.{back-line}
use Rattle.emit.proofs.lines.back_line.Goals as goal

pub returns : goal.returns
returns c = back-line c.requires.1 c.callee_of-o.ensures c.spot_of-here.ensures c.end_value.ensures c.back.ensures
