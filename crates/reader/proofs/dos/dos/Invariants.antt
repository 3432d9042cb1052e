use Prim.Native.Nat.{◌-◌}
use Rattle.reader.proofs.Passes.{DosTo}
use Rattle.reader.proofs.dos.dos.Given as goal

abbrev pub invariant-loop-to : goal.invariant-loop-to
invariant-loop-to l = DosTo l.lines l.initial.rows l.rows l.at l.line l.next l.to

abbrev pub decreases-loop-to : goal.decreases-loop-to
decreases-loop-to l = 65536 - l.to
