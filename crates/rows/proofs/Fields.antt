-- A row of no kind fits nothing. Assumes nothing.
use mathlib.Core.Path.{◌≡◌}
use mathlib.Core.Bool.{false}
use Rattle.rules.specs.declared.kind.Kind.{Kind}
use Rattle.rules.specs.declared.kind.Kind.TheVariants.{Unknown}
use Rattle.rules.specs.declared.operands.Operands.{Operands}
use Rattle.rules.specs.Row.{fields_fit_lem}

pub none-fits : {k : Kind} (o : Operands) → k ≡ Unknown → false ≡ fields_fit_lem k o
unfolding fields_fit_lem
none-fits o e = rw e
