-- A run beside a trace that is known: which state a machine that has taken no step stands for, and how the run ends.
use Rattle.std.specs.Prelude.{ℕ, ◌+◌, ◌≡◌, Bool, true, false, cond, ◌&&◌, List, [], ◌∷◌, eqb, leb, length, drop}
use Rattle.rules.specs.declared.ending.Ending.{Ending}
use Rattle.rules.specs.declared.ending.Ending.TheVariants.{Alarmed, Same, Other, Unfinished}
use Rattle.rules.specs.Strike.{None}
use Rattle.rules.specs.Line.{Line}
use Rattle.rules.specs.State.{go_to, retraced}
use Rattle.rules.specs.Run.{run}
use Rattle.rules.specs.Hardened.{Hardened, striking_step}
use Rattle.rules.specs.Sweep.{ending_of}
use Rattle.state.specs.declared.machine.Machine.{Machine}
use Rattle.machine.specs.Run.{parts_in}
use Rattle.machine.specs.Stands.{Stands}

-- the machine, which has taken no step, stands for the state but for its trace, whatever slots it is lent
pub record Stood (ls : List Line) (m : Machine) (words : List ℕ) (s : Hardened) : Type 0 where
  pub stands : (slots : List ℕ) → Stands ls slots (parts_in m words slots) (retraced [] s)
  pub no_steps : m.registers.steps ≡ 0

pub record Standing (ls : List Line) (m : Machine) (words : List ℕ) : Type 0 where
  pub state : Hardened
  pub stood : Stood ls m words state

-- the second list begins with the first
unfoldable pub begins : List ℕ → List ℕ → Bool
begins [] ys = true
begins (x ∷ xs) [] = false
begins (x ∷ xs) (y ∷ ys) = eqb x y && begins xs ys

-- the known trace goes on with these rows, from its row `at`
abbrev pub goes_on_lem : (rows known : List ℕ) → (at : ℕ) → Bool
goes_on_lem xs known at = leb (at + length xs) (length known) && begins xs (drop at known)

-- by the outcome and, where it is 1, by whether the trace is the known one
unfoldable pub ended_by_lem : (outcome : ℕ) → (same : Bool) → Ending
ended_by_lem o same = cond (eqb o 2) Alarmed (cond (eqb o 1) (cond same Same Other) Unfinished)

-- the steps of a piece
abbrev pub piece_steps : ℕ
piece_steps = 1024

-- the run that goes on at line y, with so many steps left; where it stands there already, its trace is the known one
unfoldable pub ends_at : List Line → (known : List ℕ) → (left y : ℕ) → Hardened → Ending
ends_at ls known left y s =
    cond (eqb y s.running.at) Same
    (ending_of known (run (striking_step ls None) left 0 (retraced [] (go_to y s.running.own s))))
