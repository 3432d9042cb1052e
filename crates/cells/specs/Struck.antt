-- One strike out of where a machine stands, told from the line that it goes to.
use Rattle.std.specs.Prelude.{ℕ, ◌+◌, ◌*◌, ◌≤◌, ◌<◌, ◌≡◌, cond, List, eqb, length, get_or}
use Rattle.rules.specs.declared.ending.Ending.{Ending}
use Rattle.rules.specs.Limits.{max_functions, max_lines}
use Rattle.rules.specs.Line.{Line, line_width, lines_in}
use Rattle.rules.specs.Function.{function_at, last_place}
use Rattle.rules.specs.Hardened.{Hardened, counter_form}
use Rattle.rules.specs.Settled.{across}
use Rattle.state.specs.declared.machine.Machine.{Machine}
use Rattle.places.specs.Places.{DosIn, ending_at}
use Rattle.compare.specs.Compared.{Stood, ends_at}
use Rattle.sweeper.specs.Steps.{first_of, last_of}
use Rattle.cells.specs.declared.rank.Rank.{Rank}
use Rattle.cells.specs.declared.rank.Rank.TheVariants.{Never}
use Rattle.cells.specs.Worst.{rank, strike_rank, worst_to}

-- a place of a function that there is
pub record PlaceOf (ls : List Line) (f p : ℕ) : Type 0 where
  pub known : f < function_at ls (length ls)
  pub place_in : p ≤ last_place ls f

-- the cells of the strikes to that place, after the steps 0 to k - 1
pub record Marked (ls : List Line) (vars : List ℕ) (budget k f p : ℕ) (column : List Rank) : Type 0 where
  pub place : PlaceOf ls f p
  pub long : length column ≡ max_lines
  pub each : (y : ℕ) → y < max_lines → get_or column y Never ≡ worst_to k (strike_rank (counter_form ls) ls vars budget f y p)

-- a line of function f, or its place m, in numbers of the code
pub record InLines (lines starts : List ℕ) (f line : ℕ) : Type 0 where
  pub known : f < max_functions
  pub line_in : line ≤ get_or starts (f + 1) 0
  pub few : get_or starts (f + 1) 0 < 65535
  pub in_lines : line_width * get_or starts (f + 1) 0 ≤ length lines
  pub dos_in : DosIn lines

-- how the run ends that is struck to this line, whatever state the machine stands for
abbrev pub ends_there_lem : (lines starts : List ℕ) → Machine → (known : List ℕ) → (left line : ℕ) → Hardened → Ending
ends_there_lem bs ss m known left y s =
    let h = m.registers in
    let x = across (lines_in bs) h.at in
    ending_at bs (last_of ss h) h.at x h.depth m.variables (ends_at (lines_in bs) known left x s) left y

pub record EndingIs (lines starts : List ℕ) (m : Machine) (words known : List ℕ) (left line : ℕ) (r : Ending) : Type 0 where
  pub is : (s : Hardened) → Stood (lines_in lines) m words s → r ≡ ends_there_lem lines starts m known left line s

-- how bad it is to be struck to place p of function f; never struck where another function runs
pub record StruckIs (lines starts : List ℕ) (m : Machine) (words known : List ℕ) (left f p : ℕ) (r : Rank) : Type 0 where
  pub is : (s : Hardened) → Stood (lines_in lines) m words s
      → r ≡ cond (eqb m.registers.function f) (rank (ends_there_lem lines starts m known left (first_of starts m.registers + p) s)) Never
