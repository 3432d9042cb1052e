use Rattle.std.proofs.lemmas.Result.{err_from_is_err_and}
use Rattle.given.proofs.Spans.{else-refused}
use Rattle.given.proofs.Cases.{case-on}
use Rattle.given.proofs.span.case_spans.Goals as goal

pub returns-in_err-after : goal.returns-in_err-after
returns-in_err-after c = let p = err_from_is_err_and c.from_residual.result c.from_residual.ensures.1 in rw (p.1, p.2) (else-refused _ c.elses.ensures c.in_err-after.was)

pub returns : goal.returns
returns c = case-on _ c.requires.own_value.0 c.requires.own_value.1 c.requires.own_value.2 c.elses.ensures c.in_ok-after.was c.own.ensures
