-- The jump across the do next to where the run stands.
use Rattle.std.specs.Prelude.{ℕ, ◌≡◌, List}
use Rattle.rules.specs.Line.{Line}
use Rattle.rules.specs.Hardened.{Hardened}
use Rattle.rules.specs.Settled.{across}
use Rattle.state.specs.declared.machine.Machine.{Machine}
use Rattle.compare.specs.declared.narrow.Narrow.{Narrow}
use Rattle.compare.specs.Compared.{Stood, ends_at}

-- its line, and how the run ends that goes on there, whatever state the machine stands for
pub record NarrowIs (ls : List Line) (m : Machine) (words known : List ℕ) (left : ℕ) (r : Narrow) : Type 0 where
  pub line_is : r.line ≡ across ls m.registers.at
  pub ending_is : (s : Hardened) → Stood ls m words s → r.ending ≡ ends_at ls known left r.line s
