use Rattle.layout.proofs.Rows.{kind-read}
use borrow.Author.Rules.{rules}
use Rattle.layout.proofs.row.kind.Goals as goal

pub returns : goal.returns
returns c = search (kind-read, rules)
