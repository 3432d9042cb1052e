use Rattle.std.proofs.lemmas.Result.{err_from_is_err_and}
use Rattle.fault.proofs.Ends.{find_none, find-ragged, find-long, find_stopped, find_last}
use Rattle.fault.proofs.find.Goals as goal

pub returns-then-rows-eq0 : goal.returns-then-rows-eq0
returns-then-rows-eq0 c = find_none _ _ c.if-rows-eq0.true

pub returns-then-rows-ne0 : goal.returns-then-rows-ne0
returns-then-rows-ne0 c = find-ragged _ _ c.if-rows-eq0.false c.if-rows-ne0.true

pub returns-then-rows-gt-ROWS : goal.returns-then-rows-gt-ROWS
returns-then-rows-gt-ROWS c = find-long _ _ c.if-rows-eq0.false c.if-rows-ne0.false c.if-rows-gt-ROWS.true

pub returns-in_err-counted : goal.returns-in_err-counted
returns-in_err-counted c = let p = err_from_is_err_and c.from_residual.result c.from_residual.ensures.1 in rw (p.1, p.2) (find_stopped _ _ c.if-rows-eq0.false c.if-rows-ne0.false c.if-rows-gt-ROWS.false c.rows.ensures c.in_err-counted.was)

pub returns : goal.returns
returns c = find_last _ _ c.if-rows-eq0.false c.if-rows-ne0.false c.if-rows-gt-ROWS.false c.rows.ensures c.in_ok-counted.was c.calling-at.ensures c.last.ensures
