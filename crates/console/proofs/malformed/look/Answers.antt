use Rattle.console.proofs.Looking.{looked-none, looked-more, looked_all}
use Rattle.console.proofs.malformed.look.Goals as goal

pub loop-b-init : goal.loop-b-init
loop-b-init c = looked-none

pub loop-b-preserved : goal.loop-b-preserved
loop-b-preserved c = looked-more c.loop-b.invariant c.loop-b-test.true c.next-s.ensures

pub returns : goal.returns
returns c = looked_all c.loop-b.invariant c.loop-b-test.false
