use Rattle.std.proofs.lemmas.Result.{err_from_is_err_and}
use Rattle.given.proofs.Spans.{ends-refused, ends_on, ends_done, end-bytes}
use Rattle.given.proofs.span.ends.Goals as goal

pub returns-in_err-here : goal.returns-in_err-here
returns-in_err-here c = let p = err_from_is_err_and c.from_residual.result c.from_residual.ensures.1 in rw (p.1, p.2) (ends-refused c.loop-done.invariant c.loop-done-test.true c.close.ensures c.in_err-here.was)

pub loop-done-preserved : goal.loop-done-preserved
loop-done-preserved c = ends_on c.loop-done.invariant c.loop-done-test.true c.close.ensures c.in_ok-here.was (end-bytes c.bare.ensures) c.store.ensures

pub returns : goal.returns
returns c = ends_done c.loop-done.invariant c.loop-done-test.false
