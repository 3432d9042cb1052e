use mathlib.Core.Path.{◌∙◌}
use Rattle.emit.proofs.Emits.{one_out}
use Rattle.emit.proofs.one.Goals as goal

pub returns : goal.returns
returns c = one_out c.requires.makes.0 c.requires.makes.1 c.requires.l_value (c.from.ensures ∙ c.line_of.ensures) c.write.ensures
