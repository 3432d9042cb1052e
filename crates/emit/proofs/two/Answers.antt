use mathlib.Core.Path.{◌∙◌}
use Rattle.emit.proofs.Emits.{two_out}
use Rattle.emit.proofs.two.Goals as goal

pub returns : goal.returns
returns c = two_out c.requires.makes.0 c.requires.makes.1 c.requires.l_value.0 c.requires.l_value.1 (c.from.ensures ∙ c.line_of.ensures) c.write.ensures c.write-2.ensures
