use native.Mathlib.Omega.{arith}
use Rattle.sweeper.proofs.Walking.{in_steps}
use Rattle.sweeper.proofs.Sweeping.{shown, rest_is, standing, stands-before}
use Rattle.cells.proofs.Marking.{stands-in, mark_on}
use Rattle.cells.proofs.column.ColumnAsked.strike.Goals as goal

pub overflow_sub-left : goal.overflow_sub-left
overflow_sub-left c = omega (arith, in_steps _ _ _ _ _ _ _ _ c.requires.before.walking)

pub rank_of-r-requires : goal.rank_of-r-requires
rank_of-r-requires c = let w = (shown c.args.run.now.table.now.ready c.args.run.now.hardened c.args.run.now.finishes (omega (arith, c.type_inv.run)) c.requires.before) in (standing w, stands-before w, c.requires.held.place)

pub returns-clause-on : goal.returns-clause-on
returns-clause-on c = λ q. mark_on (shown c.args.run.now.table.now.ready c.args.run.now.hardened c.args.run.now.finishes (omega (arith, c.type_inv.run)) c.requires.before) c.requires.held (rest_is c.requires.before) _ c.rank_of-r.ensures _ c.worse.ensures

pub bounds-self-y : goal.bounds-self-y
bounds-self-y c = stands-in (shown c.args.run.now.table.now.ready c.args.run.now.hardened c.args.run.now.finishes (omega (arith, c.type_inv.run)) c.requires.before)

pub bounds-self-y-2 : goal.bounds-self-y-2
bounds-self-y-2 c = stands-in (shown c.args.run.now.table.now.ready c.args.run.now.hardened c.args.run.now.finishes (omega (arith, c.type_inv.run)) c.requires.before)
