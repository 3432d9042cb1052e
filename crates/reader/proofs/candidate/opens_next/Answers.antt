use mathlib.Core.Path.{ap, ◌∙◌}
use Rattle.line.specs.Read.{ends_function_lem}
use Rattle.reader.proofs.LineRows.{begins_next}
use Rattle.reader.proofs.candidate.opens_next.Goals as goal

pub returns : goal.returns
returns c = begins_next c.requires (c.ends_function.ensures ∙ ap ends_function_lem c.kind_at.ensures)
