use mathlib.Core.Path.{ap, ◌∙◌}
use Rattle.line.proofs.Decode.{line-bytes}
use Rattle.places.specs.Places.{across_kind}
use Rattle.places.proofs.Beside.{across-is}
use Rattle.places.proofs.across.line_across.Goals as goal

pub kind_at-requires : goal.kind_at-requires
kind_at-requires c = line-bytes _ _ c.requires.0

pub returns : goal.returns
returns c = c.beside.ensures ∙ ap (λ x. across_kind x c.args.k) c.kind_at.ensures ∙ across-is _ _ c.requires.0
