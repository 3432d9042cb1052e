use borrow.Author.Tests.{eq-eqb, ne_eqb}
use Rattle.scan.specs.Standing.{loops_without_lem}
use Rattle.scan.proofs.open.loops_without.Goals as goal

pub returns-then-part-eq-LOOP : goal.returns-then-part-eq-LOOP
returns-then-part-eq-LOOP c = unfold loops_without_lem in rw (eq-eqb _ _ c.if-part-eq-LOOP.true)

pub returns : goal.returns
returns c = unfold loops_without_lem in rw (ne_eqb _ _ c.if-part-eq-LOOP.false)
