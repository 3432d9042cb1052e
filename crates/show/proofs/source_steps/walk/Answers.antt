use Rattle.std.proofs.Common.{arith}
use Rattle.show.proofs.Rows.{walks_on, walks_over, walk-spent}
use Rattle.show.proofs.source_steps.walk.Goals as goal

pub returns-in_default : goal.returns-in_default
returns-in_default g c = walks_over c.loop-step.invariant (omega arith) _ c.step-x.ensures c.in_default.not-Went

pub loop-step-preserved : goal.loop-step-preserved
loop-step-preserved g c =
    walks_on c.loop-step.invariant (omega arith) _ c.step-x.ensures _ c.in-Went.is (omega arith) _ c.with_row-made.ensures

pub returns : goal.returns
returns g c = walk-spent c.loop-step.invariant (omega arith) _ c.spent.ensures
