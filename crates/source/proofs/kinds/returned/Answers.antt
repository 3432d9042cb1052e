use mathlib.Core.Path.{ap, ◌∙◌}
use Rattle.state.specs.Machine.{moved}
use Rattle.source.proofs.Answers.{return_closes, return-finishes}
use Rattle.source.proofs.kinds.returned.Goals as goal

pub returns-then-h-gt0 : goal.returns-then-h-gt0
returns-then-h-gt0 c = return_closes _ _ _ c.if-h-gt0.true c.returning.ensures

pub returns : goal.returns
returns c = return-finishes _ _ _ c.if-h-gt0.false (c.stay.ensures ∙ ap (moved _) c.standing.ensures)
