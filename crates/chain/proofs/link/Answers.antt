use Rattle.std.proofs.lemmas.Result.{err_from_is_err_and}
use mathlib.Core.Path.{sym}
use lib.Seq.{length-take-le}
use Rattle.chain.proofs.Links.{link-refused, link-checked, chain_fits, link-found}
use native.Mathlib.Omega.{arith}
use borrow.Author.Rules.{rules}
use Rattle.chain.proofs.link.Goals as goal

pub overflow_mul-size : goal.overflow_mul-size
overflow_mul-size c = omega (arith, chain_fits c.find.ensures c.in_ok-count.was (search rules))

pub slice_bounds-check-end : goal.slice_bounds-check-end
slice_bounds-check-end c = omega (arith, chain_fits c.find.ensures c.in_ok-count.was (search rules))

pub slice_bounds-check-end-2 : goal.slice_bounds-check-end-2
slice_bounds-check-end-2 c = sym (length-take-le _ _ (omega (arith, chain_fits c.find.ensures c.in_ok-count.was (search rules))))

pub returns : goal.returns
returns c = link-found c.find.ensures c.in_ok-count.was (search rules) c.check.ensures

pub returns-in_err-count : goal.returns-in_err-count
returns-in_err-count c = let p = err_from_is_err_and c.from_residual.result c.from_residual.ensures.1 in rw (p.1, p.2) (link-refused c.find.ensures c.in_err-count.was)

pub returns-in_err-check : goal.returns-in_err-check
returns-in_err-check c = link-checked c.find.ensures c.in_ok-count.was (search rules) c.check.ensures c.in_err-check.was
