use Rattle.strike.proofs.Jumps.{going-left}
use Rattle.slip.proofs.Agree.{run-late, run-ended, run-there}
use Rattle.slip.proofs.find.at_jump.Goals as goal

pub returns-then-budget-step : goal.returns-then-budget-step
returns-then-budget-step c = run-late _ _ _ _ _ _ c.if-budget-step.true

pub returns-in_default : goal.returns-in_default
returns-in_default c = run-ended _ _ _ _ _ _ c.if-budget-step.false _ c.run_lines-x.ensures c.in_default.not-Went

pub out_of-requires : goal.out_of-requires
out_of-requires c = going-left _ _ c.args.table.now.ready _ _ _ c.requires c.if-budget-step.false _ c.run_lines-x.ensures _ c.in-Went.is

pub returns : goal.returns
returns c = run-there _ _ _ _ _ _ c.if-budget-step.false _ c.run_lines-x.ensures _ c.in-Went.is c.out_of.ensures
