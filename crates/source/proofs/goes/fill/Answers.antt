use native.Mathlib.Omega.{arith}
use Rattle.source.proofs.Targets.{filled}
use Rattle.source.proofs.goes.fill.Goals as goal

pub returns : goal.returns
returns c = filled c.args.table.now.surveyed c.loop-i.invariant (omega (arith, c.loop-i-test.false))
