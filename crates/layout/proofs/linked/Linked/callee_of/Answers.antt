use Rattle.layout.proofs.Spots.{callees}
use borrow.Author.Rules.{rules}
use Rattle.layout.proofs.linked.Linked.callee_of.Goals as goal

pub bounds-self-from : goal.bounds-self-from
bounds-self-from c = search (callees, rules)

pub returns : goal.returns
returns c = search (callees, rules)
