use native.Mathlib.Omega.{arith}
use Rattle.source.proofs.Runs.{starts, answers}
use Rattle.source.proofs.run_linked.Goals as goal

pub run_rows-requires : goal.run_rows-requires
run_rows-requires c = starts c.requires.rows_value c.requires.budget_in_bounds (omega arith) c.begun.ensures

pub returns : goal.returns
returns c = answers _ _ _ _ _ _ _ _ c.begun.ensures c.run_rows.ensures c.answer.ensures
