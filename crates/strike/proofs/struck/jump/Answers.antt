use mathlib.Core.Path.{◌∙◌}
use Rattle.strike.proofs.Jumps.{going-left, jump-none, jump-stopped, jump-there}
use Rattle.strike.proofs.struck.jump.Goals as goal

pub returns-then-budget-step : goal.returns-then-budget-step
returns-then-budget-step c = c.run_lines.ensures ∙ jump-none _ _ _ _ _ _ c.if-budget-step.true

pub returns-in_default : goal.returns-in_default
returns-in_default c = jump-stopped _ _ _ _ _ _ c.if-budget-step.false _ c.run_lines-x.ensures c.in_default.not-Went

pub land-requires : goal.land-requires
land-requires c = going-left _ _ c.args.table.now.ready _ _ _ c.requires c.if-budget-step.false _ c.run_lines-x.ensures _ c.in-Went.is

pub returns : goal.returns
returns c = c.land.ensures ∙ jump-there _ _ _ _ _ _ c.if-budget-step.false _ c.run_lines-x.ensures _ c.in-Went.is
