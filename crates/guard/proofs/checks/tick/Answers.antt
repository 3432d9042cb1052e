use Rattle.guard.specs.Guard.{tick_of}
use borrow.Author.Tests.{ne_eqb, eq-eqb}
use Rattle.guard.proofs.checks.tick.Goals as goal

pub returns-then-held-l : goal.returns-then-held-l
unfolding tick_of
returns-then-held-l c = simp (← c.get-held.ensures, ne_eqb _ _ c.if-held-l.true)

pub returns : goal.returns
unfolding tick_of
returns c = simp (← c.get-held.ensures, eq-eqb _ _ c.if-held-l.false, c.put.ensures)
