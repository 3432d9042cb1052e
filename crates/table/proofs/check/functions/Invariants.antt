use Prim.Native.Nat.{◌*◌, ◌-◌}
use lib.ListN.{length}
use Rattle.table.proofs.Whole.{AllTo}
use Rattle.table.proofs.check.functions.Given as goal

abbrev pub invariant-loop-at : goal.invariant-loop-at
invariant-loop-at l = AllTo l.rows l.links.ends l.links.elses l.heads l.at l.count

abbrev pub decreases-loop-at : goal.decreases-loop-at
decreases-loop-at l = length l.rows - 6 * l.at
