use Rattle.scan.proofs.Steps.{jumps}
use borrow.Author.Rules.{rules}
use Rattle.scan.proofs.open.jump.Goals as goal

pub returns-then-s-eq0 : goal.returns-then-s-eq0
returns-then-s-eq0 c = search (jumps, rules)

pub returns : goal.returns
returns c = search (jumps, rules)
