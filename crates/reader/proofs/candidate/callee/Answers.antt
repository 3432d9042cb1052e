use mathlib.Core.Path.{ap, ◌∙◌}
use native.Mathlib.Omega.{arith}
use Rattle.reader.proofs.Numbering.{owner-inside, owner-beyond}
use Rattle.rules.specs.Line.{lines_in}
use Rattle.rules.specs.Function.{function_at}
use Rattle.reader.proofs.candidate.callee.Goals as goal

pub returns-then-go-count : goal.returns-then-go-count
returns-then-go-count c = owner-inside c.requires.1 (omega arith) ∙ ap (function_at (lines_in c.args.lines.now)) (c.from-go.ensures ∙ c.go_of.ensures)

pub returns : goal.returns
returns c = owner-beyond c.requires.1 (omega arith) ∙ ap (function_at (lines_in c.args.lines.now)) (c.from-go.ensures ∙ c.go_of.ensures)
