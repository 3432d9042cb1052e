use Rattle.figures.proofs.Counting.{begun-one}
use Rattle.figures.proofs.tally.begin.Goals as goal

pub returns : goal.returns
returns c = begun-one c.requires.0 c.args.t c.max.ensures
