use Rattle.std.proofs.lemmas.Result.{err_from_is_err_and}
use borrow.Author.Rules.{rules}
use native.Mathlib.Omega.{arith}
use Rattle.table.proofs.Accepting.{too_long, checks}
use Rattle.table.proofs.check.check.Goals as goal

pub returns-then-rows-eq0 : goal.returns-then-rows-eq0
returns-then-rows-eq0 c = search (checks, rules)

pub returns-then-rows-ne0 : goal.returns-then-rows-ne0
returns-then-rows-ne0 c = search (checks, rules)

pub returns-then-rows-gt-ROWS : goal.returns-then-rows-gt-ROWS
returns-then-rows-gt-ROWS c = too_long c.if-rows-eq0.false c.if-rows-ne0.false (omega (arith, c.if-rows-gt-ROWS.true))

pub returns-in_err-count : goal.returns-in_err-count
returns-in_err-count c = let p = err_from_is_err_and c.from_residual.result c.from_residual.ensures.1 in rw (p.1, p.2) (search (checks, c.in_err-count.was, rules))

pub returns : goal.returns
returns c = search (checks, c.in_ok-count.was, rules)
