-- The worked cases of switches hold of the definitions, by computation. Assumes nothing.
use mathlib.Core.Path.{refl}
use Rattle.rules.specs.Fault.{calls_beyond_lem, fault_row, stop_row, fault_call}
use Rattle.rules.specs.SwitchCases.{banded, banded_chain, banded_lines, BandedCases, SwitchRefusals}
use Rattle.rules.proofs.Compute.{compute}

pub banded-cases : BandedCases
unfolding banded banded_chain banded_lines compute
banded-cases =
    record {
      chain = refl;
      listing = refl;
      read_back = refl;
      at_10 = refl;
      at_50 = refl;
      at_200 = refl;
      hardened_10 = refl;
      hardened_50 = refl;
      hardened_200 = refl;
    }

pub switch-refusals : SwitchRefusals
unfolding calls_beyond_lem fault_row stop_row fault_call compute
switch-refusals =
    record {
      empty = refl;
      default_alone = refl;
      one_case = refl;
      three_parts = refl;
      p_15 = refl;
      p_16 = refl;
      switch_op = refl;
      switch_q = refl;
      switch_n = refl;
      case_op = refl;
      case_p = refl;
      case_q = refl;
      default_n = refl;
      kind_0d = refl;
      lone_case = refl;
      lone_default = refl;
      do_first = refl;
      do_only = refl;
      switch_first = refl;
      case_in_if = refl;
      break_first = refl;
      else_in_case = refl;
      else_in_default = refl;
      else_in_if_case = refl;
      else_of_if = refl;
      case_last = refl;
      two_defaults = refl;
      lone_break = refl;
      break_through = refl;
      open_case = refl;
      open_switch = refl;
      repeated = refl;
      default_between = refl;
      inside_own = refl;
      outside_again = refl;
      two_switches = refl;
      field_first = refl;
      cases_16 = refl;
      cases_17 = refl;
      repeated_17 = refl;
      loops_14 = refl;
      loops_14_more = refl;
      loops_16_default = refl;
      loops_16_empty = refl;
      loops_16_case = refl;
      regions_64 = refl;
      full_default = refl;
      full_case = refl;
      last_case = refl;
      last_default = refl;
      row_of_repeated = refl;
      row_after_switch = refl;
      row_of_call = refl;
      row_of_end = refl;
      row_of_17th = refl;
    }
