use mathlib.Core.Path.{refl}
use native.Mathlib.Omega.{arith}
use Rattle.sweeper.proofs.Walking.{in_steps}
use Rattle.sweeper.proofs.Sweeping.{not-false, shown, as_rest, standing, stands-before, found_on, found_all}
use Rattle.sweeper.proofs.steps.SearchingAsked.strike.Goals as goal

pub overflow_sub-left : goal.overflow_sub-left
overflow_sub-left c = omega (arith, in_steps _ _ _ _ _ _ _ _ c.requires.before.walking)

pub across-n-requires : goal.across-n-requires
across-n-requires c = let w = (shown c.args.run.now.table.now.ready c.args.run.now.hardened c.args.run.now.finishes (omega (arith, c.type_inv.run)) c.requires.before) in (standing w, stands-before w)

pub returns-clause-on : goal.returns-clause-on
returns-clause-on c = λ q. found_on (shown c.args.run.now.table.now.ready c.args.run.now.hardened c.args.run.now.finishes (omega (arith, c.type_inv.run)) c.requires.before) _ c.requires.held _ (as_rest c.requires.before _ c.across-n.ensures) _ c.is_other.ensures _ refl

pub returns-clause-over : goal.returns-clause-over
returns-clause-over c = λ q. found_all (shown c.args.run.now.table.now.ready c.args.run.now.hardened c.args.run.now.finishes (omega (arith, c.type_inv.run)) c.requires.before) _ c.requires.held _ (as_rest c.requires.before _ c.across-n.ensures) _ c.is_other.ensures _ refl (not-false _ q)
