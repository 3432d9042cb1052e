use Rattle.compare.proofs.Landing.{line-there}
use Rattle.cells.proofs.struck.ending.Goals as goal

pub line_across-requires : goal.line_across-requires
line_across-requires c = line-there _ _ _ c.requires.0 c.requires.1 c.args.table.now.ready.sound
