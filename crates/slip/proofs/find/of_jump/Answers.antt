use mathlib.Core.Path.{sym, ◌∙◌}
use Rattle.slip.proofs.Says.{promised-of}
use Rattle.slip.proofs.find.of_jump.Goals as goal

pub returns-then-is_hardened : goal.returns-then-is_hardened
returns-then-is_hardened c = promised-of (sym c.is_hardened.ensures ∙ c.if-is_hardened.true) c.of_hardened.ensures
