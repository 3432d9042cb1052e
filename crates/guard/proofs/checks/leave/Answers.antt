use Rattle.guard.specs.Guard.{leave_of}
use borrow.Author.Tests.{ne_eqb, eq-eqb}
use Rattle.guard.proofs.checks.leave.Goals as goal

pub returns-then-child-l : goal.returns-then-child-l
unfolding leave_of
returns-then-child-l c = simp (← c.get-child.ensures, ne_eqb _ _ c.if-child-l.true)

pub returns-then-around-l : goal.returns-then-around-l
unfolding leave_of
returns-then-around-l c = simp (← c.get-child.ensures, eq-eqb _ _ c.if-child-l.false, ← c.put.ensures, ← c.get-around.ensures, ne_eqb _ _ c.if-around-l.true)

pub returns : goal.returns
unfolding leave_of
returns c = simp (← c.get-child.ensures, eq-eqb _ _ c.if-child-l.false, ← c.put.ensures, ← c.get-around.ensures, eq-eqb _ _ c.if-around-l.false, c.put-2.ensures)
