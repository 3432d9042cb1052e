use Rattle.emit.proofs.RowLines.{ifs}
use borrow.Author.Rules.{rules}
use Rattle.emit.proofs.lines.if_line.Goals as goal

pub returns-then-x-eq0 : goal.returns-then-x-eq0
returns-then-x-eq0 c = search (ifs, rules)

pub returns : goal.returns
returns c = search (ifs, rules)

pub plain_test-requires : goal.plain_test-requires
plain_test-requires c = search (ifs, rules)

pub else_test-requires : goal.else_test-requires
else_test-requires c = search (ifs, rules)
