use Rattle.reader.proofs.LineRows.{function-row, no-function-row}
use Rattle.reader.proofs.candidate.open.Goals as goal

pub returns-then-opening : goal.returns-then-opening
returns-then-opening c = function-row c.if-opening.true c.bare.ensures c.write.ensures

pub returns : goal.returns
returns c = no-function-row c.args.rows.now c.args.at c.if-opening.false
