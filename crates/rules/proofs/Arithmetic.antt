-- Each op of a do and of a test, by computation. Assumes nothing.
use mathlib.Core.Path.{refl}
use Rattle.rules.specs.Arithmetic.{Arithmetic}
use Rattle.rules.proofs.Compute.{compute}

pub arithmetic : Arithmetic
unfolding compute
arithmetic =
    record {
      number = refl;
      copy = refl;
      sum = refl;
      difference = refl;
      sum_fits = refl;
      sum_overflows = refl;
      difference_fits = refl;
      difference_overflows = refl;
      sum_changes_nothing = refl;
      difference_changes_nothing = refl;
      equals = refl;
      equals_not = refl;
      differs = refl;
      differs_not = refl;
      less = refl;
      less_not = refl;
    }
