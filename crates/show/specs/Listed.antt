-- What listing a step of a hardened run needs to know of the lines and the numbers.
use Rattle.std.specs.Prelude.{ℕ, ◌+◌, ◌≤◌, ◌<◌, List, ◌≢◌, get_or}
use Rattle.rules.specs.Limits.{max_functions}
use Rattle.state.specs.declared.machine.Registers.{Registers}
use Rattle.guard.specs.Fields.{Room}
use Rattle.machine.specs.Ready.{LineHere}

-- the running function is at one of its places, and where that is not its place m at a line
pub record Placed (bs starts : List ℕ) (h : Registers) (ws : List ℕ) : Type 0 where
  pub known : h.function < max_functions
  pub not_before : get_or starts h.function 0 ≤ h.at
  pub has_room : Room h.depth ws
  pub here : h.at ≢ get_or starts (h.function + 1) 0 → LineHere bs h.at
