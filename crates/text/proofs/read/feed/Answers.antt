use Rattle.text.proofs.Feeding.{upto-none, upto-more}
use Rattle.text.proofs.read.feed.Goals as goal

pub loop-b-init : goal.loop-b-init
loop-b-init c = upto-none c.requires

pub loop-b-preserved : goal.loop-b-preserved
loop-b-preserved c = upto-more c.loop-b.invariant c.loop-b-test.true c.take_byte-q.auto.rows
    c.take_byte-q.ensures
