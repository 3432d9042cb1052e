use Rattle.layout.proofs.Spots.{access}
use borrow.Author.Rules.{rules}
use Rattle.layout.proofs.linked.Linked.in_body.Goals as goal

pub returns : goal.returns
returns c = search (access, rules)
