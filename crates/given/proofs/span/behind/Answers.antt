use Rattle.std.proofs.lemmas.Result.{err_from_is_err_and}
use Rattle.given.proofs.Spans.{row-refused, row_ends}
use Rattle.given.proofs.span.behind.Goals as goal

pub returns-in_err-after : goal.returns-in_err-after
returns-in_err-after c = let p = err_from_is_err_and c.from_residual.result c.from_residual.ensures.1 in rw (p.1, p.2) (row-refused _ c.own.ensures c.in_err-after.was)

pub returns : goal.returns
returns c = row_ends _ c.own.ensures c.in_ok-after.was c.ends.ensures
