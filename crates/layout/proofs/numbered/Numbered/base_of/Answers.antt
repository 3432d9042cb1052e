use Rattle.layout.proofs.Spots.{access}
use borrow.Author.Rules.{rules}
use Rattle.layout.proofs.numbered.Numbered.base_of.Goals as goal

pub returns : goal.returns
returns c = search (access, rules)
