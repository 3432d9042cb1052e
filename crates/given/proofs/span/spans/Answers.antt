use Rattle.std.proofs.lemmas.Result.{err_from_is_err_and}
use Rattle.given.proofs.Spans.{else-refused, else_rows}
use Rattle.given.proofs.span.spans.Goals as goal

pub returns-in_err-after : goal.returns-in_err-after
returns-in_err-after c = let p = err_from_is_err_and c.from_residual.result c.from_residual.ensures.1 in rw (p.1, p.2) (else-refused _ c.elses.ensures c.in_err-after.was)

pub returns : goal.returns
returns c = else_rows _ c.elses.ensures c.in_ok-after.was c.behind.ensures
