use Rattle.rules.specs.Line.{lines_in}
use Rattle.machine.proofs.Survey.{Surveyed}
use Rattle.machine.proofs.map.survey.Given as goal

abbrev pub invariant-loop-line : goal.invariant-loop-line
invariant-loop-line l = Surveyed (lines_in l.lines) l.starts l.owners l.function l.line
