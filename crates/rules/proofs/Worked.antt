-- The two worked programs hold of the definitions, by computation. Assumes nothing.
use mathlib.Core.Path.{refl}
use Rattle.rules.specs.Worked.{turn_rows, turn_lines, call_rows, call_lines, Worked}
use Rattle.rules.proofs.Compute.{compute}

pub worked : Worked
unfolding turn_rows turn_lines call_rows call_lines compute
worked =
    record {
      turns_harden = refl;
      turns_read = refl;
      turns_source = refl;
      turns_hardened = refl;
      calls_harden = refl;
      calls_read = refl;
      calls_source = refl;
      calls_hardened = refl;
      deep_source = refl;
      deep_hardened = refl;
    }
