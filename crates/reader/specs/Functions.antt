-- One pass over the lines: the function that each belongs to.
use Rattle.std.specs.Prelude.{ℕ, ◌+◌, ◌*◌, ◌≤◌, ◌≡◌, cond, List, length, get_or}
use Rattle.rules.specs.Bytes.{AreBytes}
use Rattle.rules.specs.Limits.{max_lines}
use Rattle.rules.specs.Line.{line_width, lines_in}
use Rattle.rules.specs.Function.{function_at}
use Rattle.line.specs.declared.kind.LineKind.{LineKind}
use Rattle.line.specs.Read.{ends_function_lem}

-- a line of function f is passed: the function of the next line
abbrev pub passed : LineKind → (f : ℕ) → ℕ
passed k f = cond (ends_function_lem k) (f + 1) f

-- bytes of as many lines as a hardened table may have
pub record Short (bs : List ℕ) : Type 0 where
  pub bytes : AreBytes bs
  pub short : length bs ≤ line_width * max_lines

-- word k is the function of line k, and of the end of the table
pub record Numbered (bs owners : List ℕ) : Type 0 where
  pub each : (k : ℕ) → k ≤ length (lines_in bs) → get_or owners k 0 ≡ function_at (lines_in bs) k
