use Rattle.std.proofs.Common.{arith}
use Rattle.show.proofs.Lines.{placed}
use Rattle.show.proofs.hardened_steps.turn.Goals as goal

pub list-requires : goal.list-requires
list-requires g c = placed _ _ c.args.table.now.ready 1 _ c.requires (omega arith)
