use Rattle.guard.specs.Guard.{back_of}
use borrow.Author.Tests.{ne_eqb, eq-eqb}
use Rattle.guard.proofs.checks.back.Goals as goal

pub returns-then-caller-l : goal.returns-then-caller-l
unfolding back_of
returns-then-caller-l c = simp (← c.get-caller.ensures, ne_eqb _ _ c.if-caller-l.true)

pub returns-then-last-l : goal.returns-then-last-l
unfolding back_of
returns-then-last-l c = simp (← c.get-caller.ensures, eq-eqb _ _ c.if-caller-l.false, ne_eqb _ _ c.if-last-l.true)

pub returns : goal.returns
unfolding back_of
returns c = simp (← c.get-caller.ensures, eq-eqb _ _ c.if-caller-l.false, eq-eqb _ _ c.if-last-l.false, c.put.ensures)
