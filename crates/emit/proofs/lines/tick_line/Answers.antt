use Rattle.emit.proofs.RowLines.{dos}
use borrow.Author.Rules.{rules}
use Rattle.emit.proofs.lines.tick_line.Goals as goal

pub returns : goal.returns
returns c = search (dos, rules)
