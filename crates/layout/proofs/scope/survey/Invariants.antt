use Rattle.layout.proofs.Survey.{Surveying}
use Rattle.layout.proofs.scope.survey.Given as goal

abbrev pub invariant-loop-i : goal.invariant-loop-i
invariant-loop-i l = Surveying l.rows l.initial.map l.map l.i l.here
