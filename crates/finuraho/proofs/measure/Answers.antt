use Rattle.rules.proofs.Figures.Promise.{measure-promise}
use Rattle.finuraho.proofs.Measures.{some-found}
use Rattle.finuraho.proofs.measure.Goals as goal

pub returns-then-number-eq0 : goal.returns-then-number-eq0
returns-then-number-eq0 c = measure-promise _ _ c.figures.ensures

pub returns : goal.returns
returns c = measure-promise _ _ (some-found _ c.check-number.ensures c.if-number-eq0.false)
