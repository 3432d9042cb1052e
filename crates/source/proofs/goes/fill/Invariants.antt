use Rattle.source.proofs.Targets.{Filling}
use Rattle.source.proofs.goes.fill.Given as goal

abbrev pub invariant-loop-i : goal.invariant-loop-i
invariant-loop-i l = Filling l.table.rows.now l.goes l.i
