use Rattle.std.proofs.Common.{arith}
use Rattle.sweeper.proofs.Walking.{in_steps}
use Rattle.sweeper.proofs.Sweeping.{shown, as_rest, standing, stands-before}
use Rattle.sweep.proofs.Landed.{lands}
use Rattle.sweep.proofs.list.ListingAsked.strike.Goals as goal

pub overflow_sub-left : goal.overflow_sub-left
overflow_sub-left g c = omega (arith, in_steps _ _ _ _ _ _ _ _ c.requires.before.walking)

pub across-n-requires : goal.across-n-requires
across-n-requires g c = let w = (shown c.args.run.now.table.now.ready c.args.run.now.hardened c.args.run.now.finishes (omega (arith, c.type_inv.run)) c.requires.before) in (standing w, stands-before w)

pub tell-requires : goal.tell-requires
tell-requires g c = lands (shown c.args.run.now.table.now.ready c.args.run.now.hardened c.args.run.now.finishes (omega (arith, c.type_inv.run)) c.requires.before) _ (as_rest c.requires.before _ c.across-n.ensures)
