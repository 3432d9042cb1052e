use Rattle.show.proofs.Lines.{walks_on, walks_over, walk-spent}
use Rattle.show.proofs.hardened_steps.walk.Goals as goal

pub returns-in_default : goal.returns-in_default
returns-in_default g c = walks_over c.loop-left.invariant c.loop-left-test.true _ c.turn-x.ensures c.in_default.not-Went

pub loop-left-preserved : goal.loop-left-preserved
loop-left-preserved g c =
    walks_on c.loop-left.invariant c.loop-left-test.true _ c.turn-x.ensures c.args.table.now.ready _ c.in-Went.is c.turn-x.auto.counters
    c.turn-x.auto.trace _ c.left_after-left.ensures _ c.later-rest.ensures

pub returns : goal.returns
returns g c = walk-spent c.loop-left.invariant c.loop-left-test.false
