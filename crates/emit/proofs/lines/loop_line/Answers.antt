use borrow.Author.Rules.{rules}
use Rattle.emit.proofs.RowLines.{loops}
use Rattle.emit.proofs.lines.loop_line.Goals as goal

pub returns : goal.returns
returns c = search (loops, rules)

pub plain_test-requires : goal.plain_test-requires
plain_test-requires c = search (loops, rules)
