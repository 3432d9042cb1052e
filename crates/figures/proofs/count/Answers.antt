use native.Mathlib.Omega.{arith}
use mathlib.Core.Path.{refl, ◌∙◌}
use Rattle.figures.proofs.Counting.{counting-start, counting_fits, counting_next, counting_all}
use Rattle.figures.proofs.count.Goals as goal

pub loop-at-init : goal.loop-at-init
loop-at-init c = counting-start _

pub row-t-requires : goal.row-t-requires
row-t-requires c = (c.weights-by.ensures, counting_fits _ c.requires c.loop-at.invariant)

pub loop-at-preserved : goal.loop-at-preserved
loop-at-preserved c = counting_next _ c.requires (omega arith) c.row-t.ensures refl c.loop-at.invariant

pub sums-requires : goal.sums-requires
sums-requires c = counting_fits _ c.requires c.loop-at.invariant

pub returns : goal.returns
returns c = c.sums.ensures ∙ counting_all _ c.requires (omega arith) c.loop-at.invariant
