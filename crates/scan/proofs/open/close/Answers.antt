use borrow.Author.Rules.{rules}
use Rattle.scan.proofs.Steps.{loop-open, closings}
use Rattle.scan.proofs.open.close.Goals as goal

pub returns-then-s-eq0 : goal.returns-then-s-eq0
returns-then-s-eq0 c = search (closings, rules)

pub loops_without-loops-requires : goal.loops_without-loops-requires
loops_without-loops-requires c = search (loop-open, rules)

pub returns : goal.returns
returns c = search (closings, rules)
