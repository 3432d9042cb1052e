use Rattle.emit.proofs.Leaves.{ret-is, end-inside, loop-end, if-end}
use Rattle.emit.proofs.lines.end_line.Goals as goal

pub returns-then-in_body : goal.returns-then-in_body
returns-then-in_body c = ret-is c.args.table.now.linked.surveyed c.requires.0 c.requires.1 c.in_body.ensures c.if-in_body.true c.spot_of-here.ensures c.ret.ensures

pub spot_of-up-requires : goal.spot_of-up-requires
spot_of-up-requires c = end-inside c.requires.0 c.in_body.ensures c.if-in_body.false c.opener_of-o.ensures

pub returns-then-is_loop : goal.returns-then-is_loop
returns-then-is_loop c = loop-end c.requires.0 c.in_body.ensures c.if-in_body.false c.opener_of-o.ensures c.requires.1 c.is_loop.ensures c.if-is_loop.true c.spot_of-here.ensures c.spot_of-up.ensures c.line_of.ensures c.leave.ensures

pub returns : goal.returns
returns c = if-end c.requires.0 c.in_body.ensures c.if-in_body.false c.opener_of-o.ensures c.args.table.now.linked.surveyed c.requires.1 c.is_loop.ensures c.if-is_loop.false c.spot_of-here.ensures c.spot_of-up.ensures c.line_after.ensures c.leave-2.ensures
