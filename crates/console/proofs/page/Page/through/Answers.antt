use Rattle.console.proofs.Paging.{upto-more}
use Rattle.console.proofs.page.Page.through.Goals as goal

pub loop-b-preserved : goal.loop-b-preserved
loop-b-preserved g c = upto-more c.loop-b.invariant c.loop-b-test.true c.put.ensures
