-- One pass over the lines: where functions begin and which function each line belongs to.
use Rattle.std.specs.Prelude.{ℕ, ◌+◌, cond, List, set}
use Rattle.line.specs.declared.kind.LineKind.{LineKind}
use Rattle.line.specs.Read.{ends_function_lem}

-- the function of the next line, and the first lines known then
pub record Passed : Type 0 where
  pub function : ℕ
  pub starts : List ℕ

abbrev pub passed : (function : ℕ) → (starts : List ℕ) → Passed
passed f ss = record { function = f; starts = ss }

-- line k, of function f, is passed
unfoldable pub passed_of : LineKind → (k f : ℕ) → (starts : List ℕ) → Passed
passed_of kd k f ss = cond (ends_function_lem kd) (passed (f + 1) (set ss (f + 1) (k + 1))) (passed f ss)
