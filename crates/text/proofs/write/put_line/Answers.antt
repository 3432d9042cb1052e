use Rattle.text.proofs.Putting.{line-none, line-more, line-all}
use Rattle.text.proofs.write.put_line.Goals as goal

pub loop-x-init : goal.loop-x-init
loop-x-init c = line-none

pub loop-x-preserved : goal.loop-x-preserved
loop-x-preserved c = line-more c.loop-x.invariant c.loop-x-test.true c.put_hex-next.ensures

pub returns : goal.returns
returns c = line-all c.loop-x.invariant c.loop-x-test.false
