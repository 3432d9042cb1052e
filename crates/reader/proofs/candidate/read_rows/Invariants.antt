use Prim.Native.Nat.{◌-◌}
use Rattle.reader.specs.Candidate.{Reading}
use Rattle.reader.proofs.candidate.read_rows.Given as goal

abbrev pub invariant-loop-line : goal.invariant-loop-line
invariant-loop-line l = Reading l.lines l.initial.rows l.rows l.at l.opening l.line

abbrev pub decreases-loop-line : goal.decreases-loop-line
decreases-loop-line l = l.count - l.line
