use Rattle.layout.proofs.Numbers.{Spending}
use Rattle.layout.proofs.Survey.{Surveying}
use Rattle.layout.proofs.number.survey_and_spend.Given as goal

abbrev pub invariant-loop-i : goal.invariant-loop-i
invariant-loop-i l = (Surveying l.rows l.initial.map l.map l.i l.here) × (Spending l.rows l.initial.spent l.spent l.initial.took l.took l.i)
