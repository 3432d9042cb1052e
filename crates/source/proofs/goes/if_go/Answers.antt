use native.Mathlib.Omega.{arith}
use mathlib.Core.Path.{refl}
use Rattle.source.proofs.Targets.{if_past, else-low, if_else}
use Rattle.source.proofs.goes.if_go.Goals as goal

pub returns-then-x-eq0 : goal.returns-then-x-eq0
returns-then-x-eq0 c = if_past c.args.table.now.surveyed.accepted c.requires.0 c.requires.1 c.args.table.now.elses_known refl c.if-x-eq0.true c.past.ensures

pub overflow_add-result : goal.overflow_add-result
overflow_add-result c = omega (arith, else-low c.args.table.now.surveyed.accepted c.requires.0 c.requires.1 c.args.table.now.elses_known refl c.if-x-eq0.false)

pub returns : goal.returns
returns c = if_else c.args.table.now.surveyed.accepted c.requires.0 c.requires.1 c.args.table.now.elses_known refl c.if-x-eq0.false
