use Rattle.rules.specs.Line.{lines_in}
use Rattle.rules.specs.Hardened.{Hardened}
use Rattle.compare.specs.Compared.{Stood}
use Rattle.compare.proofs.Comparing.{Comparing}
use Rattle.compare.proofs.pieces.ending.Given as goal

abbrev pub invariant-loop-left : goal.invariant-loop-left
invariant-loop-left l = (s : Hardened) → Stood (lines_in l.table.lines.now) l.initial.m l.initial.spare.counters s → Comparing (lines_in l.table.lines.now) l.known l.budget s l.left l.m l.spare.counters l.at l.same

abbrev pub decreases-loop-left : goal.decreases-loop-left
decreases-loop-left l = l.left
