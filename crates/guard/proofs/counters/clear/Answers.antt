use Rattle.rules.specs.Calls.{zeros}
use Rattle.guard.proofs.counters.clear.Goals as goal

pub returns : goal.returns
unfolding zeros
returns c = c.fill.ensures.after (λ y e. e)
