-- The listing and the ten cases of 01 hold of the definitions, by computation. Assumes nothing.
use mathlib.Core.Path.{refl}
use Rattle.rules.specs.Cases.{rows, lines, Cases}
use Rattle.rules.proofs.Compute.{compute}

pub cases : Cases
unfolding rows lines compute
cases =
    record {
      listing = refl;
      read_back = refl;
      A = refl;
      B = refl;
      C = refl;
      D = refl;
      E = refl;
      F = refl;
      G = refl;
      H = refl;
      I = refl;
      J = refl;
    }
