use Rattle.layout.proofs.Rows.{operands-read}
use borrow.Author.Rules.{rules}
use Rattle.layout.proofs.row.operands_of.Goals as goal

pub returns : goal.returns
returns c = search (operands-read, rules)
