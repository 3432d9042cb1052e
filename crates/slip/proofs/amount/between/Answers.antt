use Rattle.slip.specs.Amount.{amount_between}
use borrow.Author.Tests.{ne_eqb, eq-eqb}
use Rattle.slip.proofs.amount.between.Goals as goal

pub returns-then-y-x : goal.returns-then-y-x
unfolding amount_between
returns-then-y-x c = rw (eq-eqb _ _ c.if-y-x.true)

pub returns-then-y-x-2 : goal.returns-then-y-x-2
unfolding amount_between
returns-then-y-x-2 c = rw (c.over.ensures, ne_eqb _ _ c.if-y-x.false, eq-eqb _ _ c.if-y-x-2.true)

pub returns-then-x-y : goal.returns-then-x-y
unfolding amount_between
returns-then-x-y c = rw (c.over-then-x-y.ensures, ne_eqb _ _ c.if-y-x.false, ne_eqb _ _ c.if-y-x-2.false, eq-eqb _ _ c.if-x-y.true)

pub returns : goal.returns
unfolding amount_between
returns c = rw (ne_eqb _ _ c.if-y-x.false, ne_eqb _ _ c.if-y-x-2.false, ne_eqb _ _ c.if-x-y.false)
