-- What may still strike a run that is made step by step, as the rest of it sees it.
use Rattle.std.specs.Prelude.{ℕ, ◌-◌, Bool, false, cond, List, eqb}
use Rattle.rules.specs.Strike.{Strike, None, Jump}
use Rattle.machine.specs.Step.{Map, Parts, After}
use Rattle.machine.specs.Run.{run_of}
use Rattle.strike.specs.Struck.{land_of}

-- the jump comes before the next step
abbrev pub is_due_lem : Strike → Bool
is_due_lem None = false
is_due_lem (Jump k place) = eqb k 0

abbrev pub place_of : Strike → ℕ
place_of None = 0
place_of (Jump k place) = place

-- after the jump that was due, or after a step
abbrev pub later : Strike → Strike
later None = None
later (Jump k place) = cond (eqb k 0) None (Jump (k - 1) place)

-- the steps that are then left: a jump is none
abbrev pub left_after_lem : (left : ℕ) → Strike → ℕ
left_after_lem left j = cond (is_due_lem j) left (left - 1)

-- the jump that is due, with no step after it, or else one step
abbrev pub turn_of : (lines : List ℕ) → Map → Strike → Parts → After
turn_of bs m j p = cond (is_due_lem j) (land_of bs m 0 (place_of j) p) (run_of bs m 1 p)
