-- Where a run stands and where a jump across one do takes it: two lines of the running function, both in the table.
use Rattle.std.specs.Prelude.{ℕ, ◌+◌, ◌*◌, ◌≤◌, ◌<◌, List, length}
use Rattle.rules.specs.Limits.{max_functions}
use Rattle.rules.specs.Line.{line_width}
use Rattle.state.specs.declared.machine.Registers.{Registers}
use Rattle.sweeper.specs.Steps.{first_of}

pub record Lands (lines starts : List ℕ) (h : Registers) (line : ℕ) : Type 0 where
  pub known : h.function < max_functions
  pub from_first : first_of starts h ≤ h.at
  pub to_first : first_of starts h ≤ line
  pub in_lines : line_width * h.at + line_width ≤ length lines
