use Rattle.guard.specs.Guard.{out_of}
use borrow.Author.Tests.{ne_eqb, eq-eqb}
use Rattle.guard.proofs.checks.out.Goals as goal

pub returns-then-inner-l : goal.returns-then-inner-l
unfolding out_of
returns-then-inner-l c = simp (← c.get-inner.ensures, ne_eqb _ _ c.if-inner-l.true)

pub returns : goal.returns
unfolding out_of
returns c = simp (← c.get-inner.ensures, eq-eqb _ _ c.if-inner-l.false, ← c.index-from.ensures.0, c.put.ensures, c.zero_part.ensures)
