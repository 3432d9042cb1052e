-- Each cause and their order hold of the definitions, by computation. Assumes nothing.
use mathlib.Core.Path.{refl}
use Rattle.rules.specs.Cases.{rows, lines}
use Rattle.rules.specs.Refusals.{Refusals}
use Rattle.rules.proofs.Compute.{compute}

pub refusals : Refusals
unfolding rows lines compute
refusals =
    record {
      ragged = refl;
      ragged_first = refl;
      too_long = refl;
      kind_zero = refl;
      kind_thirteen = refl;
      do_op = refl;
      test_op = refl;
      p_over = refl;
      q_over = refl;
      q_unused = refl;
      n_unused = refl;
      end_field = refl;
      field_first = refl;
      row_first = refl;
      outside = refl;
      function_inside = refl;
      lone_else = refl;
      loop_else = refl;
      second_else = refl;
      lone_break = refl;
      left_open = refl;
      functions_33 = refl;
      functions_32 = refl;
      misplaced_first = refl;
      open_17 = refl;
      open_16 = refl;
      regions_65 = refl;
      regions_64 = refl;
      no_function = refl;
      end_first = refl;
      output_exact = refl;
      output_short = refl;
      number_first = refl;
      read_exact = refl;
      read_short = refl;
      slots_short = refl;
      words_short = refl;
      table_first = refl;
      changed = refl;
      read_empty = refl;
      read_ragged = refl;
    }
