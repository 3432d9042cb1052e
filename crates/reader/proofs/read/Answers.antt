use native.Mathlib.Omega.{arith}
use Rattle.reader.proofs.Finds.{too_long, too_many, none_found}
use Rattle.reader.proofs.read.Goals as goal

pub returns-then-lines-gt-LONGEST : goal.returns-then-lines-gt-LONGEST
returns-then-lines-gt-LONGEST c = none_found c.args.lines.now c.args.rows.now (too_long c.args.lines.now (record { each = λ i. omega (arith, c.type_inv.lines i) }) (omega arith)) c.requires

pub returns-in_err-count : goal.returns-in_err-count
returns-in_err-count c = rw c.from_residual.ensures (none_found c.args.lines.now c.candidate_of.new.rows (too_many c.args.lines.now c.in_err-count.ensures) (omega arith))
