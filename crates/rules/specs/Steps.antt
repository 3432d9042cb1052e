-- The call `hardened_steps` (02, No. 2): "With the steps, dos and calls of a finished source run, each at most 65,535, give the hardened
-- steps. .. a sum past 65,535 is given whole and is no run's." proofs/Figures/Steps.antt proves the promise from the theorem.
use Rattle.std.specs.Prelude.{ℕ, ◌≤◌, ◌<◌, ◌≡◌, List, length}
use Rattle.rules.specs.Limits.{counter_words, no_step}
use Rattle.rules.specs.Bytes.{AreBytes}
use Rattle.rules.specs.Row.{table_of}
use Rattle.rules.specs.Switch.{chain_bytes}
use Rattle.rules.specs.Harden.{hardened_bytes}
use Rattle.rules.specs.Match.{calls_in, hardened_steps_lem}
use Rattle.rules.specs.Calls.{Running, run_source_call, run_hardened_call}

-- the source run of these rows, values, budget and slots finishes with so many steps, dos and calls; its dos are the rows of its trace
pub record FinishedWith (rows vars : List ℕ) (budget : ℕ) (slots : List ℕ) (steps dos calls : ℕ) : Type 0 where
  pub accepted : (run_source_call rows vars budget slots).ran.number ≡ 0
  pub finished : (run_source_call rows vars budget slots).ran.outcome ≡ 1
  pub in_steps : (run_source_call rows vars budget slots).ran.steps ≡ steps
  pub with_dos : (run_source_call rows vars budget slots).ran.traced ≡ dos
  pub with_calls : calls_in (table_of (chain_bytes rows)) budget vars ≡ calls

-- the hardened run of the same table and values, not struck
abbrev pub hardened_twin : (rows vars : List ℕ) → (budget : ℕ) → (slots words : List ℕ) → Running
hardened_twin rows vs b slots words = (run_hardened_call (hardened_bytes (chain_bytes rows)) vs b no_step 0 slots words).run

-- It finishes in exactly n steps with every budget that holds them, and with a smaller one its budget is spent. A budget is at most
-- 65,535: where n is more, none lets it finish.
pub record FinishesIn (rows vars : List ℕ) (n budget : ℕ) (slots words : List ℕ) : Type 0 where
  pub accepted : (hardened_twin rows vars budget slots words).ran.number ≡ 0
  pub finishes : n ≤ budget → (hardened_twin rows vars budget slots words).ran.outcome ≡ 1
  pub in_steps : n ≤ budget → (hardened_twin rows vars budget slots words).ran.steps ≡ n
  pub spent : budget < n → (hardened_twin rows vars budget slots words).ran.outcome ≡ 0

pub record StepsPromise (steps dos calls got : ℕ) : Type 0 where
  pub answers : got ≡ hardened_steps_lem steps dos calls
  pub taken : (rows vars : List ℕ) (budget : ℕ) (slots : List ℕ) → AreBytes rows → FinishedWith rows vars budget slots steps dos calls
      → (b : ℕ) (room words : List ℕ) → b ≤ length room → counter_words ≤ length words → FinishesIn rows vars got b room words
