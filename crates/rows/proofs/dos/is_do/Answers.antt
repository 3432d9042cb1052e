use borrow.Author.Tests.{ne_eqb}
use Rattle.rows.proofs.DoRows.{other_row, do-row}
use Rattle.rows.proofs.dos.is_do.Goals as goal

pub returns-then-rows-eq-DO : goal.returns-then-rows-eq-DO
returns-then-rows-eq-DO c = do-row _ c.if-rows-eq-DO.true c.operands-o.ensures c.do_uses.ensures

pub returns-else-rows-eq-DO : goal.returns-else-rows-eq-DO
returns-else-rows-eq-DO c = rw (ne_eqb _ 2 c.if-rows-eq-DO.false) (other_row _ c.if-rows-eq-DO.false)
