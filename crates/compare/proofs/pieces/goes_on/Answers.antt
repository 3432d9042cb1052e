use mathlib.Core.Path.{◌∙◌}
use Rattle.compare.proofs.Begins.{starts_on}
use Rattle.compare.proofs.pieces.goes_on.Goals as goal

pub returns-then-at-known : goal.returns-then-at-known
returns-then-at-known c = c.starts_with.ensures.value ∙ starts_on c.args.rows.now c.args.known.now c.args.at c.if-at-known.true
