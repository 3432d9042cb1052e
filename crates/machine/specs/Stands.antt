-- When a machine with its counters and slots stands for a state of the hardened machine, and what it runs is a hardened table.
use Rattle.std.specs.Prelude.{ℕ, zero, suc, ◌+◌, ◌≤◌, ◌<◌, ◌≡◌, List, [], ◌∷◌, length, get_or}
use Rattle.rules.specs.Limits.{max_regions, max_open, counter_words}
use Rattle.rules.specs.Line.{Line, lines_in}
use Rattle.rules.specs.Function.{function_at, start_of, finish_of, ret_value}
use Rattle.rules.specs.State.{Frame}
use Rattle.rules.specs.Hardened.{Counters, Hardened}
use Rattle.rules.specs.Calls.{over}
use Rattle.rules.specs.Bounds.{Within}
use Rattle.guard.specs.Counters.{counter}
use Rattle.machine.specs.Step.{Map, Parts}

-- ---- the table
-- place k, as a line number, of function f
pub record Inside (ls : List Line) (f k : ℕ) : Type 0 where
  pub known : f < function_at ls (length ls)
  pub not_before : start_of ls f ≤ k
  pub not_after : k ≤ finish_of ls f

-- what is known of the lines of every hardened table
pub record Sound (ls : List Line) : Type 0 where
  pub within : Within ls
  pub first : Inside ls 0 0
  pub known : (k : ℕ) → k < length ls → function_at ls k < function_at ls (length ls)
  pub numbered : (f k : ℕ) → Inside ls f k → k < finish_of ls f → function_at ls k ≡ f
  pub ordered : (f : ℕ) → f < function_at ls (length ls) → start_of ls f ≤ finish_of ls f
  pub finish_in : (f : ℕ) → f < function_at ls (length ls) → finish_of ls f ≤ length ls

-- the first line of each function, and the function of each line
pub record Located (ls : List Line) (starts owners : List ℕ) : Type 0 where
  pub start_is : (n : ℕ) → n ≤ function_at ls (length ls) → get_or starts n 0 ≡ start_of ls n
  pub owner_is : (k : ℕ) → k < length ls → get_or owners k 0 ≡ function_at ls k

pub record Mapped (ls : List Line) (m : Map) : Type 0 where
  pub located : Located ls m.starts m.owners
  pub home_is : m.home ≡ ret_value ls 0

pub record Ready (bs : List ℕ) (m : Map) : Type 0 where
  pub sound : Sound (lines_in bs)
  pub mapped : Mapped (lines_in bs) m

-- ---- the state
-- the words of depth d hold these counters
abbrev pub Own : List ℕ → (d : ℕ) → Counters → Type 0
Own ws d own = (r : ℕ) → r < max_regions → counter ws d r ≡ own r

-- the function that waits at depth d
pub record WaitsAt (ls : List Line) (resumes functions words : List ℕ) (d : ℕ) (f : Frame Counters) : Type 0 where
  pub function_is : get_or functions d 0 ≡ f.function
  pub at_is : get_or resumes d 0 ≡ f.at
  pub inside : Inside ls f.function f.at
  pub own_is : Own words d f.own

-- the functions that wait below depth d
abbrev pub Waiting : List Line → (resumes functions words : List ℕ) → (d : ℕ) → List (Frame Counters) → Type 0
Waiting ls ps fs ws zero [] = Unit {0}
Waiting ls ps fs ws zero (g ∷ gs) = ⊥
Waiting ls ps fs ws (suc d) [] = ⊥
Waiting ls ps fs ws (suc d) (g ∷ gs) = WaitsAt ls ps fs ws d g × Waiting ls ps fs ws d gs

pub record Sizes (p : Parts) : Type 0 where
  pub deep : p.registers.depth < max_open
  pub resumes_are : length p.resumes ≡ max_open
  pub functions_are : length p.functions ≡ max_open
  pub words_are : length p.words ≡ counter_words

-- the slots, which held this when the run began, hold its trace
pub record Traced (p : Parts) (held trace : List ℕ) : Type 0 where
  pub slots_are : p.slots ≡ over trace held
  pub traced_is : p.registers.traced ≡ length trace

pub record Stands (ls : List Line) (held : List ℕ) (p : Parts) (s : Hardened) : Type 0 where
  pub sizes : Sizes p
  pub function_is : p.registers.function ≡ s.running.function
  pub at_is : p.registers.at ≡ s.running.at
  pub inside : Inside ls s.running.function s.running.at
  pub own_is : Own p.words p.registers.depth s.running.own
  pub waiting : Waiting ls p.resumes p.functions p.words p.registers.depth s.callers
  pub last_is : p.registers.last ≡ s.last 0
  pub vars_are : p.vars ≡ s.vars
  pub traces : Traced p held s.trace

-- the machine stands for some state, and at most `left` steps are to come
pub record Going (ls : List Line) (left : ℕ) (p : Parts) : Type 0 where
  pub state : Hardened
  pub held : List ℕ
  pub stands : Stands ls held p state
  pub few : p.registers.steps + left ≤ 65535
  pub slots : p.registers.steps + left ≤ length held
  pub traced : p.registers.traced ≤ p.registers.steps
