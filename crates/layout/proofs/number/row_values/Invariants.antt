use Rattle.layout.proofs.Numbers.{Valuing}
use Rattle.layout.proofs.number.row_values.Given as goal

abbrev pub invariant-loop-i : goal.invariant-loop-i
invariant-loop-i l = Valuing l.rows l.initial.values l.values l.i
