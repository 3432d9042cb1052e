use Rattle.emit.proofs.Leaves.{else_inside, else-line}
use Rattle.emit.proofs.lines.else_line.Goals as goal

pub spot_of-up-requires : goal.spot_of-up-requires
spot_of-up-requires c = else_inside c.args.table.now.linked.surveyed c.requires.0 c.requires.1 c.opener_of-o.ensures

pub returns : goal.returns
returns c = else-line c.args.table.now.linked.surveyed c.requires.0 c.requires.1 c.opener_of-o.ensures c.spot_of-here.ensures c.spot_of-up.ensures c.line_past-past.ensures c.leave.ensures
