use Rattle.layout.proofs.Spots.{access}
use borrow.Author.Rules.{rules}
use Rattle.layout.proofs.linked.Linked.child_of.Goals as goal

pub local-requires : goal.local-requires
local-requires c = search (access, rules)

pub returns : goal.returns
returns c = search (access, rules)
