use Rattle.emit.proofs.Calls.{call_line_made}
use Rattle.emit.proofs.lines.call_line.Goals as goal

pub returns : goal.returns
returns c = call_line_made c.requires.1 c.callee_of-o.ensures c.spot_of-here.ensures c.base_of-b.ensures c.line_after.ensures c.call.ensures
