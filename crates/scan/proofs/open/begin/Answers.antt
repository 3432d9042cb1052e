use borrow.Author.Rules.{rules}
use Rattle.scan.proofs.Steps.{begins}
use Rattle.scan.proofs.open.begin.Goals as goal

pub returns-then-s-ne0 : goal.returns-then-s-ne0
returns-then-s-ne0 c = search (begins, rules)

pub returns-then-s-ge-FUNCTIONS : goal.returns-then-s-ge-FUNCTIONS
returns-then-s-ge-FUNCTIONS c = search (begins, rules)

pub returns : goal.returns
returns c = search (begins, rules)
