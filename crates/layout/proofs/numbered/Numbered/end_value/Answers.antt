use Rattle.layout.proofs.Spots.{body-ends}
use borrow.Author.Rules.{rules}
use Rattle.layout.proofs.numbered.Numbered.end_value.Goals as goal

pub spot_of-last-requires : goal.spot_of-last-requires
spot_of-last-requires c = search (body-ends, rules)

pub returns : goal.returns
returns c = search (body-ends, rules)
