use mathlib.Core.Path.{sym, ◌∙◌, refl}
use Rattle.reader.proofs.Finds.{judged}
use Rattle.reader.proofs.judge.Goals as goal

pub returns-then-hardens_to : goal.returns-then-hardens_to
returns-then-hardens_to c = (refl, judged c.args.lines.now c.args.rows.now (sym c.if-hardens_to.true ∙ c.hardens_to.ensures))

pub returns : goal.returns
returns c = judged c.args.lines.now c.args.rows.now (sym c.if-hardens_to.false ∙ c.hardens_to.ensures)
