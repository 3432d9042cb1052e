use Rattle.layout.proofs.Spots.{access}
use borrow.Author.Rules.{rules}
use Rattle.layout.proofs.linked.Linked.line_past.Goals as goal

pub line_after-requires : goal.line_after-requires
line_after-requires c = search (access, rules)
