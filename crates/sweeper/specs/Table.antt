-- What the sweep of a hardened table answers and leaves in the slots and the words.
use Rattle.std.specs.Prelude.{ℕ, ◌≡◌, ◌≢◌, Bool, true, false, cond, List, eqb, length, Option, Some, None}
use Rattle.rules.specs.declared.ending.Ending.{Ending}
use Rattle.rules.specs.declared.ending.Ending.TheVariants.{Alarmed, Same, Other, Unfinished}
use Rattle.rules.specs.Limits.{counter_words}
use Rattle.rules.specs.Run.{outcome_of_lem}
use Rattle.rules.specs.Calls.{over, zeros}
use Rattle.rules.specs.Sweep.{any_other}
use Rattle.rules.specs.SweepCall.{unstruck_of, counts_of}
use Rattle.rules.specs.declared.ending.Counts.{Counts}

-- a run that ends so is finished
abbrev pub is_finish_lem : Ending → Bool
is_finish_lem Alarmed = false
is_finish_lem Same = true
is_finish_lem Other = true
is_finish_lem Unfinished = false

-- the outcome of the unstruck run
abbrev pub outcome_in : (lines vars : List ℕ) → (budget : ℕ) → ℕ
outcome_in bs vs b = outcome_of_lem (unstruck_of bs vs b).step

-- ---- its trace, recorded
pub record Traced : Type 0 where
  pub rows : ℕ
  pub slots : List ℕ

abbrev pub traced : (rows : ℕ) → (slots : List ℕ) → Traced
traced n slots = record { rows = n; slots = slots }

abbrev pub traced_of : (lines vars : List ℕ) → (budget : ℕ) → (slots : List ℕ) → Traced
traced_of bs vs b slots =
    traced (length (unstruck_of bs vs b).state.trace) (over (unstruck_of bs vs b).state.trace slots)

-- where it finishes it is recorded; else nothing is changed
abbrev pub PreparedBy : (lines vars : List ℕ) → (budget : ℕ) → (slots words slots' words' : List ℕ) → Option ℕ → Type 0
PreparedBy bs vs b slots words slots' words' None = (outcome_in bs vs b ≢ 1) × (slots' ≡ slots) × (words' ≡ words)
PreparedBy bs vs b slots words slots' words' (Some n) = (outcome_in bs vs b ≡ 1) × (traced n slots' ≡ traced_of bs vs b slots)

-- what is asked has been shown all steps, and the words are 0; else nothing is changed
abbrev pub AnsweredBy : {A : Type 0} → (struck : ℕ → A → Type 0) → (lines vars : List ℕ) → (budget : ℕ) → (slots words slots' words' : List ℕ) → Option A → Type 0
AnsweredBy S bs vs b slots words slots' words' None = (outcome_in bs vs b ≢ 1) × (slots' ≡ slots) × (words' ≡ words)
AnsweredBy S bs vs b slots words slots' words' (Some x) =
    (outcome_in bs vs b ≡ 1) × (slots' ≡ over (unstruck_of bs vs b).state.trace slots) × (words' ≡ zeros counter_words) × S (unstruck_of bs vs b).steps x

-- ---- the answers, with the slots and the words after them
pub record Sweeping : Type 0 where
  pub answer : Option Counts
  pub slots : List ℕ
  pub words : List ℕ

abbrev pub swept_with : Option Counts → (slots words : List ℕ) → Sweeping
swept_with r slots words = record { answer = r; slots = slots; words = words }

abbrev pub swept_of : (lines vars : List ℕ) → (budget : ℕ) → (slots words : List ℕ) → Sweeping
swept_of bs vs b slots words =
    cond (eqb (outcome_in bs vs b) 1)
    (swept_with (Some (counts_of bs vs b)) (over (unstruck_of bs vs b).state.trace slots) (zeros counter_words))
    (swept_with None slots words)

pub record Asking : Type 0 where
  pub answer : Option Bool
  pub slots : List ℕ
  pub words : List ℕ

abbrev pub asked_with : Option Bool → (slots words : List ℕ) → Asking
asked_with r slots words = record { answer = r; slots = slots; words = words }

abbrev pub asked_of : (lines vars : List ℕ) → (budget : ℕ) → (slots words : List ℕ) → Asking
asked_of bs vs b slots words =
    cond (eqb (outcome_in bs vs b) 1)
    (asked_with (Some (any_other (counts_of bs vs b))) (over (unstruck_of bs vs b).state.trace slots) (zeros counter_words))
    (asked_with None slots words)
