-- The walkers prove one another, with the bytes left and a rank as the measure.
use Rattle.std.proofs.Common.{◌+◌, ◌*◌, ◌-◌, length}
use Rattle.walk.proofs.Sequence.{SeqTo}
use Rattle.walk.proofs.parts.+walker.Given as goal

abbrev pub decreases-construct : goal.decreases-construct
decreases-construct l = length l.rows.now + 1

abbrev pub decreases-else_part : goal.decreases-else_part
decreases-else_part l = length l.rows.now

abbrev pub decreases-if_part : goal.decreases-if_part
decreases-if_part l = length l.rows.now

abbrev pub decreases-loop_part : goal.decreases-loop_part
decreases-loop_part l = length l.rows.now

abbrev pub decreases-sequence : goal.decreases-sequence
decreases-sequence l = length l.rows.now + 2

abbrev pub invariant-sequence-loop-at : goal.invariant-sequence-loop-at
invariant-sequence-loop-at l = SeqTo l.rows l.base l.depth l.opened l.in_loop l.initial.links.ends l.initial.links.elses l.links.ends l.links.elses l.at l.regions

abbrev pub decreases-sequence-loop-at : goal.decreases-sequence-loop-at
decreases-sequence-loop-at l = length l.rows - 6 * l.at
