-- The two calls of the sweep (02, No. 4), each as one function from all that it is given to all that it gives back, and what a caller is
-- promised of it. proofs/SweepCall.antt proves the promises of the definitions.
use Rattle.std.specs.Prelude.{ℕ, ◌+◌, ◌≡◌, false, not, List, eqb, ltb}
use Rattle.rules.specs.declared.answer.Swept.{Swept}
use Rattle.rules.specs.declared.answer.AnyOther.{AnyOther}
use Rattle.rules.specs.declared.ending.Counts.{Counts}
use Rattle.rules.specs.declared.refusal.Refusal.TheVariants.{NotFinished}
use Rattle.rules.specs.Verdict.{Verdict, Accepted, Refused}
use Rattle.rules.specs.Refusal.{number_of, refuse_if_lem, and_then}
use Rattle.rules.specs.Line.{lines_in}
use Rattle.rules.specs.Run.{Answer, outcome_of_lem}
use Rattle.rules.specs.Hardened.{Counters, counter_form}
use Rattle.rules.specs.Chained.{TenExactly}
use Rattle.rules.specs.Calls.{over, counters_after, hardened_verdict}
use Rattle.rules.specs.Sweep.{sum_to, unstruck_run, places_at, sweep_of, any_other}

-- the unstruck run and the sweep of bytes that are a hardened table
abbrev pub unstruck_of : (lines vars : List ℕ) → (budget : ℕ) → Answer Counters
unstruck_of lines vs b = unstruck_run (counter_form (lines_in lines)) (lines_in lines) vs b

abbrev pub counts_of : (lines vars : List ℕ) → (budget : ℕ) → Counts
counts_of lines vs b = sweep_of (counter_form (lines_in lines)) (lines_in lines) vs b

-- "13 when the unstruck run doesn't finish in the budget, tested after 9"
abbrev pub not_finished : Answer Counters → Verdict
not_finished a = refuse_if_lem (not (eqb (outcome_of_lem a.step) 1)) NotFinished

unfoldable pub sweep_verdict : (lines vars : List ℕ) → (budget : ℕ) → (slots words : List ℕ) → Verdict
sweep_verdict lines vs b slots words = and_then (hardened_verdict lines b slots words) (not_finished (unstruck_of lines vs b))

-- "Both leave the slots as the unstruck run does."
unfoldable pub slots_after : Verdict → (trace slots : List ℕ) → List ℕ
slots_after Accepted trace slots = over trace slots
slots_after (Refused r) trace slots = slots

unfoldable pub counted : Verdict → Counts → Swept
counted Accepted c =
    record { number = 0; alarms = c.alarms; same = c.same; other = c.other; unfinished = c.unfinished }
counted (Refused r) c = record { number = number_of (Refused r); alarms = 0; same = 0; other = 0; unfinished = 0 }

unfoldable pub asked : Verdict → Counts → AnyOther
asked Accepted c = record { number = 0; other = any_other c }
asked (Refused r) c = record { number = number_of (Refused r); other = false }

-- what either call gives back
pub record Sweeping : Type 0 where
  pub swept : Swept
  pub trace : List ℕ
  pub words : List ℕ

pub record Asking : Type 0 where
  pub found : AnyOther
  pub trace : List ℕ
  pub words : List ℕ

unfoldable pub sweep_call : (lines vars : List ℕ) → (budget : ℕ) → (slots words : List ℕ) → Sweeping
sweep_call lines vs b slots words =
    let v = sweep_verdict lines vs b slots words in
    record {
      swept = counted v (counts_of lines vs b);
      trace = slots_after v (unstruck_of lines vs b).state.trace slots;
      words = counters_after v words;
    }

unfoldable pub sweep_other_call : (lines vars : List ℕ) → (budget : ℕ) → (slots words : List ℕ) → Asking
sweep_other_call lines vs b slots words =
    let v = sweep_verdict lines vs b slots words in
    record {
      found = asked v (counts_of lines vs b);
      trace = slots_after v (unstruck_of lines vs b).state.trace slots;
      words = counters_after v words;
    }

-- ---- what a caller is promised
-- the four counts of an answer
abbrev pub summed : Swept → ℕ
summed x = x.alarms + x.same + x.other + x.unfinished

-- "The four add up to the sum, over the steps, of the places then open to a jump."
pub record SweepPromise (lines vars : List ℕ) (budget : ℕ) (slots words : List ℕ) (got : Sweeping) : Type 0 where
  pub answers : got ≡ sweep_call lines vars budget slots words
  pub ten : TenExactly lines got.swept.number
  pub adds_up : got.swept.number ≡ 0
      → summed got.swept ≡ sum_to (unstruck_of lines vars budget).steps (places_at (counter_form (lines_in lines)) (lines_in lines) vars)

-- "A second call says only whether the third count is above zero": that of the first
pub record SweepOtherPromise (lines vars : List ℕ) (budget : ℕ) (slots words : List ℕ) (got : Asking) : Type 0 where
  pub answers : got ≡ sweep_other_call lines vars budget slots words
  pub ten : TenExactly lines got.found.number
  pub number_is : got.found.number ≡ (sweep_call lines vars budget slots words).swept.number
  pub other_is : got.found.other ≡ ltb 0 (sweep_call lines vars budget slots words).swept.other
