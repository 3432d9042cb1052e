use Rattle.guard.specs.Guard.{test_of}
use borrow.Author.Tests.{ne_eqb, eq-eqb}
use Rattle.guard.proofs.checks.test.Goals as goal

pub returns-then-outer-l : goal.returns-then-outer-l
unfolding test_of
returns-then-outer-l c = simp (← c.get-outer.ensures, ne_eqb _ _ c.if-outer-l.true)

pub returns-then-holds : goal.returns-then-holds
unfolding test_of
returns-then-holds c = simp (← c.get-outer.ensures, eq-eqb _ _ c.if-outer-l.false, c.if-holds.true, c.put-then-holds.ensures, c.put.ensures)

pub returns : goal.returns
unfolding test_of
returns c = simp (← c.get-outer.ensures, eq-eqb _ _ c.if-outer-l.false, c.if-holds.false, c.put-2.ensures, c.put.ensures)
