use mathlib.Core.Path.{refl, sym, ◌∙◌}
use borrow.Author.Tests.{eqb-true, eqb-false}
use Rattle.sweeper.specs.Table.{outcome_in}
use Rattle.sweeper.proofs.table.prepare.Goals as goal

pub returns-then-finishes : goal.returns-then-finishes
returns-then-finishes c = (eqb-true (outcome_in c.args.table.now.lines.now c.args.variables c.args.budget) 1 (sym c.finishes.ensures ∙ c.if-finishes.true), c.record_trace-n.ensures)

pub returns : goal.returns
returns c = (eqb-false (outcome_in c.args.table.now.lines.now c.args.variables c.args.budget) 1 (sym c.finishes.ensures ∙ c.if-finishes.false), refl, refl)
