use Rattle.rows.specs.Dos.{DosAre}
use Rattle.rows.proofs.dos.dos.Given as goal

abbrev pub invariant-loop-at : goal.invariant-loop-at
invariant-loop-at l = DosAre l.rows l.at
