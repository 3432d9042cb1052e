-- What one step needs of the table, of the registers and of what it is lent.
use Rattle.std.specs.Prelude.{ℕ, ◌+◌, ◌*◌, ◌≤◌, ◌<◌, List, ◌≢◌, length, get_or}
use Rattle.rules.specs.Limits.{max_functions}
use Rattle.rules.specs.Line.{line_width}
use Rattle.state.specs.declared.machine.Registers.{Registers}
use Rattle.line.specs.Read.{struct_at, line_kind_at}
use Rattle.state.specs.Machine.{HasSlot}
use Rattle.guard.specs.Fields.{FieldsIn, Room}

-- line k is in the table, the number after it is in sixteen bits, and it holds what its kind may hold
pub record LineHere (bs : List ℕ) (k : ℕ) : Type 0 where
  pub line_in : line_width * k + line_width ≤ length bs
  pub next_in : k < 65535
  pub fields_in : FieldsIn (line_kind_at bs k) (struct_at bs k)

-- what one step needs: a line where the running function is not at its place m
pub record CanStep (bs starts : List ℕ) (h : Registers) (ws tr : List ℕ) : Type 0 where
  pub known : h.function < max_functions
  pub has_room : Room h.depth ws
  pub has_slot : HasSlot h tr
  pub here : h.at ≢ get_or starts (h.function + 1) 0 → LineHere bs h.at
