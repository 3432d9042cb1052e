use Rattle.reader.proofs.Numbering.{Numbering}
use Rattle.reader.proofs.functions.number_lines.Given as goal

abbrev pub invariant-loop-line : goal.invariant-loop-line
invariant-loop-line l = Numbering l.lines l.owners l.function l.line
