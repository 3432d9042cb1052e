use Rattle.rules.specs.Calls.{zeros}
use Rattle.guard.proofs.Zeroed.{zeroed-is}
use Rattle.guard.proofs.counters.zero_part.Goals as goal

pub returns : goal.returns
unfolding zeros
returns c = zeroed-is _ _ _ _ c.requires (c.fill.ensures.after (λ y e. e))
