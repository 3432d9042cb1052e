-- The worked overflows hold of the definitions, by computation. Assumes nothing.
use mathlib.Core.Path.{refl}
use Rattle.rules.specs.Cases.{rows, lines}
use Rattle.rules.specs.OverflowCases.{OverflowCases}
use Rattle.rules.proofs.Compute.{compute}

pub cases : OverflowCases
unfolding rows lines compute
cases =
    record {
      source_overflows = refl;
      hardened_overflows = refl;
      last_step = refl;
      budget_spent = refl;
      difference_0 = refl;
      sum_65535 = refl;
      sum_65536 = refl;
      struck = refl;
      struck_last = refl;
      struck_fits = refl;
    }
