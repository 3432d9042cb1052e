use Rattle.line.specs.Read.{struct_at}
use Rattle.reader.proofs.candidate.go_of.Goals as goal

pub returns : goal.returns
unfolding struct_at
returns c = c.word.ensures
