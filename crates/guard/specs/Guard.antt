-- What the lines that change nothing but counters do: the answer and the counters after it.
use Rattle.std.specs.Prelude.{ℕ, ◌+◌, ◌*◌, ◌-◌, Bool, cond, List, eqb}
use Rattle.rules.specs.declared.step.Step.{Step}
use Rattle.rules.specs.declared.step.Step.TheVariants.{Went, Alarm}
use Rattle.rules.specs.Limits.{max_regions}
use Rattle.line.specs.declared.Line.{Line}
use Rattle.guard.specs.Counters.{counter, with_counter, zeroed}

-- an answer, and the counters that it leaves
pub record Counted : Type 0 where
  pub step : Step
  pub words : List ℕ

abbrev pub counted : Step → List ℕ → Counted
counted s ws = record { step = s; words = ws }

-- counter r holds e, else alarm
abbrev pub checked : Line → (d : ℕ) → List ℕ → Counted → Counted
checked l d ws x = cond (eqb (counter ws d l.r) l.e) x (counted Alarm ws)

-- line k of the function at depth d, over the counters ws
unfoldable pub tick_of : Line → (k d : ℕ) → List ℕ → Counted
tick_of l k d ws = checked l d ws (counted (Went (k + 1)) (with_counter ws d l.r l.a))

-- the test came out as it says
unfoldable pub test_of : Line → (holds : Bool) → (k d : ℕ) → List ℕ → Counted
test_of l holds k d ws =
    let moved = with_counter ws d l.r l.a in
    checked l d ws
    (cond holds (counted (Went (k + 1)) (with_counter moved d l.s l.b))
    (counted (Went l.go) (with_counter moved d l.t l.c)))

unfoldable pub leave_of : Line → (d : ℕ) → List ℕ → Counted
leave_of l d ws =
    let left = with_counter ws d l.r 0 in
    checked l d ws
    (cond (eqb (counter left d l.s) l.b) (counted (Went l.go) (with_counter left d l.s l.a))
    (counted Alarm left))

unfoldable pub out_of : Line → (d : ℕ) → List ℕ → Counted
out_of l d ws =
    checked l d ws
    (counted (Went l.go) (with_counter (zeroed ws (max_regions * d + l.t) (l.r + 1 - l.t)) d l.s l.a))

-- the function that returned last ended at this value
unfoldable pub back_of : Line → (last k d : ℕ) → List ℕ → Counted
back_of l last k d ws =
    checked l d ws
    (cond (eqb last l.b) (counted (Went (k + 1)) (with_counter ws d l.r l.a)) (counted Alarm ws))
