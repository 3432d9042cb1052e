use Rattle.std.proofs.Common.{ap, ◌∙◌, Ok}
use Rattle.std.proofs.lemmas.Result.{err_from_is_err_and}
use borrow.Author.Rules.{rules}
use native.Mathlib.Omega.{arith}
use Rattle.table.proofs.Functions.{bodies}
use Rattle.walk.proofs.Sequence.{rows_of_lem}
use Rattle.table.proofs.check.body.Goals as goal

pub returns-in-AtEnd : goal.returns-in-AtEnd
returns-in-AtEnd c = let e = c.in_ok-ended.was ∙ ap Ok c.in-AtEnd.is in search (bodies, rules)

pub returns-in-AtElse : goal.returns-in-AtElse
returns-in-AtElse c = let e = c.in_ok-ended.was ∙ ap Ok c.in-AtElse.is in search (bodies, rules)

pub returns-in_err-ended : goal.returns-in_err-ended
returns-in_err-ended c = let p = err_from_is_err_and c.from_residual.result c.from_residual.ensures.1 in rw (p.1, p.2) (search (bodies, c.in_err-ended.was, rules))

pub overflow_add-result : goal.overflow_add-result
overflow_add-result c = omega (arith, rows_of_lem, c.in_ok-ended.was ∙ ap Ok c.in-AtEnd.is)

pub link-requires-in-AtEnd : goal.link-requires-in-AtEnd
link-requires-in-AtEnd c = omega (arith, rows_of_lem, c.in_ok-ended.was ∙ ap Ok c.in-AtEnd.is)

pub overflow_add-base-in-AtEnd-2 : goal.overflow_add-base-in-AtEnd-2
overflow_add-base-in-AtEnd-2 c = omega (arith, rows_of_lem, c.in_ok-ended.was ∙ ap Ok c.in-AtEnd.is)

pub returns-then-count-ge-FUNCTIONS : goal.returns-then-count-ge-FUNCTIONS
returns-then-count-ge-FUNCTIONS c = search (bodies, rules)
