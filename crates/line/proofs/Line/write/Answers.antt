use Rattle.line.proofs.Puts.{line-put}
use Rattle.line.proofs.Line.write.Goals as goal

pub returns : goal.returns
returns c =
    line-put _ _ _ _
    (rw (c.copy_from_slice.ensures.after, c.spell-n.ensures, c.spell-e.ensures, c.spell-a.ensures, c.spell-b.ensures, c.spell-c.ensures, c.spell-go.ensures))
