use Rattle.rules.proofs.Figures.Steps.{steps-promise}
use Rattle.finuraho.proofs.hardened_steps.Goals as goal

pub returns : goal.returns
returns c = steps-promise _ _ _ _ c.hardened_steps.ensures
