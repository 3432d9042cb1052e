use native.Mathlib.Omega.{arith}
use Rattle.source.proofs.Targets.{end_low}
use Rattle.source.proofs.goes.past.Goals as goal

pub overflow_add-result : goal.overflow_add-result
overflow_add-result c = omega (arith, end_low c.args.table.now.surveyed.accepted c.args.table.now.ends_known c.requires)
