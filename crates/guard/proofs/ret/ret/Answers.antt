use borrow.Author.Tests.{eq-eqb, ne_eqb}
use Rattle.guard.specs.Call.{ret_of}
use Rattle.guard.proofs.ret.ret.Goals as goal

pub returns-then-held-l : goal.returns-then-held-l
unfolding ret_of
returns-then-held-l c = simp (← c.get-held.ensures, ne_eqb _ _ c.if-held-l.true, c.stay.ensures)

pub returns : goal.returns
unfolding ret_of
returns c = simp (← c.get-held.ensures, eq-eqb _ _ c.if-held-l.false, c.returned.ensures, c.put.ensures)
