-- What the places of the running function are counted by.
use Rattle.std.specs.Prelude.{ℕ, ◌+◌, ◌*◌, ◌-◌, ◌≤◌, ◌<◌, List, length, get_or}
use Rattle.rules.specs.declared.ending.Ending.{Ending}
use Rattle.rules.specs.declared.ending.Counts.{Counts}
use Rattle.rules.specs.Limits.{max_functions}
use Rattle.rules.specs.Line.{line_width}
use Rattle.rules.specs.Sweep.{total}
use Rattle.state.specs.declared.machine.Machine.{Machine}
use Rattle.state.specs.declared.machine.Registers.{Registers}
use Rattle.places.specs.Places.{DosIn, Beside, ending_at, max_count, counted_to}

-- the first line of the running function, and its place m as a line number
abbrev pub first_of : (starts : List ℕ) → Registers → ℕ
first_of ss h = get_or ss h.function 0

abbrev pub last_of : (starts : List ℕ) → Registers → ℕ
last_of ss h = get_or ss (h.function + 1) 0

-- its lines are in the table, the run stands before one of them, and the counts have room for its places
pub record InTable (lines starts : List ℕ) (h : Registers) (across : ℕ) (c : Counts) : Type 0 where
  pub known : h.function < max_functions
  pub beside : Beside (first_of starts h) (last_of starts h) h.at across
  pub few : last_of starts h < 65535
  pub in_lines : line_width * last_of starts h ≤ length lines
  pub dos_in : DosIn lines
  pub room : total c + (last_of starts h - first_of starts h) + 1 ≤ max_count

-- the counts with those of its places
abbrev pub places_of : (lines starts : List ℕ) → Machine → (across : ℕ) → (narrow : Ending) → (left : ℕ) → Counts → Counts
places_of bs ss m across narrow left c =
    let h = m.registers in
    counted_to c (last_of ss h - first_of ss h + 1)
    (λ p. ending_at bs (last_of ss h) h.at across h.depth m.variables narrow left (first_of ss h + p))
