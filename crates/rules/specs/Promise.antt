-- What a caller is promised of a run of the counter form: the definition of the call, when it is refused with 10, and demand 3 for exactly
-- the bytes, values, budget and jump of the call. proofs/Promise.antt proves it of the definition.
use Rattle.std.specs.Prelude.{ℕ, ◌≡◌, List}
use Rattle.rules.specs.Row.{table_of}
use Rattle.rules.specs.Line.{lines_in}
use Rattle.rules.specs.ReadBack.{source_bytes}
use Rattle.rules.specs.Chained.{TenExactly}
use Rattle.rules.specs.Hardened.{counter_form}
use Rattle.rules.specs.Calls.{HardenedRunning, run_hardened_call}
use Rattle.rules.specs.RunPromise.{RunPromise}

pub record HardenedPromise (lines vars : List ℕ) (budget k place : ℕ) (slots words : List ℕ) (got : HardenedRunning) : Type 0 where
  pub answers : got ≡ run_hardened_call lines vars budget k place slots words
  pub ten : TenExactly lines got.run.ran.number
  pub promised : RunPromise (counter_form (lines_in lines)) (lines_in lines) (table_of (source_bytes lines)) vars budget k place got.run
