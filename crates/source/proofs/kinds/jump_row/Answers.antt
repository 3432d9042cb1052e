use Rattle.source.proofs.Answers.{jump-is}
use Rattle.source.proofs.kinds.jump_row.Goals as goal

pub returns : goal.returns
returns c = jump-is _ _ c.go_of.ensures c.to_row.ensures
