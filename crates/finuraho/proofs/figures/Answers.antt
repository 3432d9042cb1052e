use native.Mathlib.Omega.{arith}
use Rattle.finuraho.proofs.Measures.{few, figures-are}
use Rattle.finuraho.proofs.figures.Goals as goal

pub overflow_cast-result : goal.overflow_cast-result
overflow_cast-result c = omega (arith, few _ c.requires c.count-s.ensures)

pub returns : goal.returns
returns c = figures-are _ c.requires c.count-s.ensures
