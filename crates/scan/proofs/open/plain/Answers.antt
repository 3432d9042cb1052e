use Rattle.scan.proofs.Steps.{plains}
use borrow.Author.Rules.{rules}
use Rattle.scan.proofs.open.plain.Goals as goal

pub returns-then-s-eq0 : goal.returns-then-s-eq0
returns-then-s-eq0 c = search (plains, rules)

pub returns : goal.returns
returns c = search (plains, rules)
