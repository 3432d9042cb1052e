use native.Mathlib.Omega.{arith}
use Rattle.sweeper.proofs.Walking.{in_steps}
use Rattle.sweeper.proofs.Sweeping.{shown, as_rest, standing, stands-before, in_table, counts_on}
use Rattle.sweeper.proofs.steps.CountingAsked.strike.Goals as goal

pub overflow_sub-left : goal.overflow_sub-left
overflow_sub-left c = omega (arith, in_steps _ _ _ _ _ _ _ _ c.requires.before.walking)

pub across-n-requires : goal.across-n-requires
across-n-requires c = let w = (shown c.args.run.now.table.now.ready c.args.run.now.hardened c.args.run.now.finishes (omega (arith, c.type_inv.run)) c.requires.before) in (standing w, stands-before w)

pub strike_all-self-requires : goal.strike_all-self-requires
strike_all-self-requires c = in_table (shown c.args.run.now.table.now.ready c.args.run.now.hardened c.args.run.now.finishes (omega (arith, c.type_inv.run)) c.requires.before) _ c.requires.held _ (as_rest c.requires.before _ c.across-n.ensures)

pub returns-clause-on : goal.returns-clause-on
returns-clause-on c = λ q. counts_on (shown c.args.run.now.table.now.ready c.args.run.now.hardened c.args.run.now.finishes (omega (arith, c.type_inv.run)) c.requires.before) _ c.requires.held _ (as_rest c.requires.before _ c.across-n.ensures) _ c.strike_all-self.ensures
