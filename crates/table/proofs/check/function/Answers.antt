use Rattle.table.proofs.Functions.{function-stray}
use Rattle.table.proofs.check.function.Goals as goal

pub returns-in_default : goal.returns-in_default
returns-in_default c = function-stray c.requires.in_bounds c.first_kind.ensures c.in_default.not-Function c.stray.ensures
