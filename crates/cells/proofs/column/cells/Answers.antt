use Rattle.cells.proofs.Marking.{mark-starts, column-is}
use Rattle.cells.proofs.column.cells.Goals as goal

pub walk-requires-clause-held : goal.walk-requires-clause-held
walk-requires-clause-held c = mark-starts _ _ _ _ _ c.requires.0

pub returns : goal.returns
returns c = column-is _ _ _ _ _ _ c.walk.ensures.all _ _ c.walk.ensures.same
