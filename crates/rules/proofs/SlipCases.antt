-- The worked small jumps hold of the definitions, by computation. Assumes nothing.
use mathlib.Core.Path.{refl}
use Rattle.rules.specs.Run.{tally}
use Rattle.rules.specs.Match.{quiet_at_lem, quiet_done, matching_of}
use Rattle.rules.specs.Demands.{slip_of}
use Rattle.rules.specs.Cases.{rows, lines}
use Rattle.rules.specs.SlipCases.{SlipCases}
use Rattle.rules.proofs.Compute.{compute}

pub cases : SlipCases
unfolding rows lines compute tally quiet_at_lem quiet_done matching_of slip_of
cases =
    record {
      D = record { slips = refl; struck = refl; matches = refl; source = refl };
      first_twice = record { slips = refl; struck = refl; matches = refl; source = refl };
      loop_left_out = record { slips = refl; struck = refl; matches = refl; source = refl };
      loop_twice = record { slips = refl; struck = refl; matches = refl; source = refl };
      same_place = record { slips = refl; struck = refl; matches = refl; source = refl };
      twice_overflows = record { slips = refl; struck = refl; matches = refl; source = refl };
      left_out_fits = record { slips = refl; struck = refl; matches = refl; source = refl };
      tick_alone = record { slips = refl; struck = refl; matches = refl; source = refl };
      second_time = record { slips = refl; struck = refl; matches = refl; source = refl };
    }
