use Rattle.source.proofs.Targets.{end-nowhere, end-loops, end-passes}
use Rattle.source.proofs.goes.end_go.Goals as goal

pub returns-then-in_body : goal.returns-then-in_body
returns-then-in_body c = end-nowhere c.args.table.now.surveyed c.requires c.in_body.ensures c.if-in_body.true

pub returns-then-is_loop : goal.returns-then-is_loop
returns-then-is_loop c = end-loops c.args.table.now.surveyed c.requires c.in_body.ensures c.opener_of-o.ensures c.is_loop.ensures c.if-is_loop.true

pub returns : goal.returns
returns c = end-passes c.args.table.now.surveyed c.requires c.in_body.ensures c.opener_of-o.ensures c.is_loop.ensures c.if-in_body.false c.if-is_loop.false
