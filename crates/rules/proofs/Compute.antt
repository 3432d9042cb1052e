-- To unfold `compute` is to unfold every definition of document 01, so that a closed case holds by `refl`.
use Rattle.rules.specs.Bytes.{same, first}
use Rattle.rules.specs.Row.{kind_of, kind_byte, row_in, rows_from, table_of, row_bytes, table_bytes, fields_fit_lem}
use Rattle.rules.specs.Scan.{regions, open_at, end_of, else_of, functions, function_row}
use Rattle.rules.specs.Check.{misplaced_in, one_too_many, row_verdict, rows_verdict, calls_verdict, table_verdict, verdict_of}
use Rattle.rules.specs.Switch.{given_as, given_from, given_of, things_at, chain_to, chain_bytes}
use Rattle.rules.specs.Given.{given_fits, strays, repeats, span_verdict, given_row_verdict, given_rows_verdict, given_table_verdict, given_verdict}
use Rattle.rules.specs.Value.{taken, base, value}
use Rattle.rules.specs.Line.{line_bytes, lines_bytes, line_in_lem, lines_from, lines_in}
use Rattle.rules.specs.Harden.{line_of, test_of, end_value, row_lines, harden_to, hardened_bytes}
use Rattle.rules.specs.Function.{function_at, start_of}
use Rattle.rules.specs.ReadBack.{row_for, unread_to, source_bytes, is_hardened_lem}
use Rattle.rules.specs.Variables.{computed, holds_on}
use Rattle.rules.specs.Run.{outcome_of_lem, run}
use Rattle.rules.specs.Source.{false_row, row_step, source_step}
use Rattle.rules.specs.Form.{turn_by, step_of}
use Rattle.rules.specs.Calls.{writing, harden_call, read_back_call, running, run_source_call, zeros, counters_after, hardened_verdict, run_hardened_call}
use Rattle.rules.specs.Listing.{digits, listed, words}

unfoldable pub compute : Unit {0}
unfolding given_as given_from given_of things_at chain_to chain_bytes given_fits strays repeats span_verdict given_row_verdict given_rows_verdict given_table_verdict given_verdict digits listed words same first kind_of kind_byte row_in rows_from table_of row_bytes table_bytes fields_fit_lem regions open_at end_of else_of functions function_row misplaced_in one_too_many row_verdict rows_verdict calls_verdict table_verdict verdict_of taken base value line_bytes lines_bytes line_in_lem lines_from lines_in line_of test_of end_value row_lines harden_to hardened_bytes function_at start_of row_for unread_to source_bytes is_hardened_lem computed holds_on outcome_of_lem run false_row row_step source_step turn_by step_of writing harden_call read_back_call running run_source_call zeros counters_after hardened_verdict run_hardened_call
compute = tt
