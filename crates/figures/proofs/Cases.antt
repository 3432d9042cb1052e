-- The worked figures hold of the definitions, by computation. Assumes nothing.
use mathlib.Core.Path.{refl}
use Rattle.rules.specs.Cases as listing
use Rattle.rules.specs.Report as report
use Rattle.rules.specs.Worked.{turn_rows, call_rows}
use Rattle.rules.specs.SwitchCases.{banded}
use Rattle.rules.specs.Figures.{highest_value, has_region, regions_in, most_in}
use Rattle.rules.specs.Measure.{measuring, measure_call}
use Rattle.rules.specs.FigureCases.{FigureCases}
use Rattle.rules.proofs.Compute.{compute}

pub figure-cases : FigureCases
unfolding listing.rows report.rows turn_rows call_rows banded highest_value has_region regions_in most_in measuring measure_call compute
figure-cases =
    record {
      of_listing = refl;
      of_report = refl;
      of_turns = refl;
      of_calls = refl;
      of_bands = refl;
      smallest = refl;
      one_if = refl;
      if_else = refl;
      first_most = refl;
      default_only = refl;
      no_parts = refl;
      case_default = refl;
      no_rows = refl;
      left_open = refl;
      twice = refl;
      steps_12 = refl;
      steps_most = refl;
    }
