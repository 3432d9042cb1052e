-- The walk over the steps of an unstruck run: where it stands before each.
use Rattle.std.specs.Prelude.{ℕ, ◌-◌, ◌≤◌, ◌<◌, ◌≡◌, List, length, drop}
use Rattle.rules.specs.Line.{lines_in}
use Rattle.rules.specs.Run.{Answer}
use Rattle.rules.specs.Form.{Form}
use Rattle.rules.specs.Hardened.{Counters, Hardened, counter_form}
use Rattle.rules.specs.RunPromise.{state_at}
use Rattle.rules.specs.Sweep.{unstruck_run}
use Rattle.state.specs.declared.machine.Machine.{Machine}
use Rattle.compare.specs.Compared.{Stood}

abbrev pub form : (bs : List ℕ) → Form Counters
form bs = counter_form (lines_in bs)

abbrev pub unstruck : (bs vs : List ℕ) → (b : ℕ) → Answer Counters
unstruck bs vs b = unstruck_run (form bs) (lines_in bs) vs b

abbrev pub state_of : (bs vs : List ℕ) → (k : ℕ) → Hardened
state_of bs vs k = state_at (form bs) (lines_in bs) vs k

-- the walk stands before step k, with `left` steps of the budget to come and `at` rows of the trace behind it
pub record Walking (bs vs : List ℕ) (b k left : ℕ) (m : Machine) (ws : List ℕ) (at : ℕ) : Type 0 where
  pub going : k < (unstruck bs vs b).steps
  pub left_is : left ≡ b - k
  pub stood : Stood (lines_in bs) m ws (state_of bs vs k)
  pub at_is : at ≡ length (state_of bs vs k).trace
  pub few_rows : at ≤ k

-- what is shown of it: the rest of the trace is known
pub record Before (bs vs : List ℕ) (b : ℕ) (trace : List ℕ) (k : ℕ) (m : Machine) (known words : List ℕ) : Type 0 where
  pub at : ℕ
  pub walking : Walking bs vs b k (b - k) m words at
  pub known_is : known ≡ drop at trace
