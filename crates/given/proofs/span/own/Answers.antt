use Rattle.std.proofs.lemmas.Result.{err_from_is_err_and}
use Rattle.given.proofs.Spans.{own-refused, own_on}
use Rattle.given.proofs.span.own.Goals as goal

pub returns-in_err-after : goal.returns-in_err-after
returns-in_err-after c = let p = err_from_is_err_and c.from_residual.result c.from_residual.ensures.1 in rw (p.1, p.2) (own-refused c.requires.count_bound c.if-count-eq0.false c.step.ensures c.in_err-after.was)

pub returns : goal.returns
returns c = own_on c.requires.count_bound c.if-count-eq0.false c.step.ensures c.in_ok-after.was c.store.ensures
