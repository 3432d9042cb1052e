use Rattle.compare.proofs.Landing.{line-there, inside-across}
use Rattle.compare.proofs.narrow.across.Goals as goal

pub line_across-line-requires : goal.line_across-line-requires
line_across-line-requires c = line-there _ _ _ c.requires.0 c.requires.1 c.args.table.now.ready.sound

pub ending-ending-requires : goal.ending-ending-requires
ending-ending-requires c = (c.requires.0, inside-across _ _ _ c.requires.0 c.requires.1 _ c.line_across-line.ensures)
