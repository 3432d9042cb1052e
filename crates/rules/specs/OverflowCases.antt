-- Sums that overflow (02, No. 5) in worked cases, as calls, from bytes: 01's listing, which takes v1 away from v0 = 2 until it is 0, and a
-- program of one sum. proofs/OverflowCases.antt closes them by computation.
use Rattle.std.specs.Prelude.{ℕ, ◌≡◌, [], ◌∷◌}
use Rattle.rules.specs.Limits.{no_step}
use Rattle.rules.specs.Row.{row_width}
use Rattle.rules.specs.Calls.{Running, HardenedRunning, run_source_call, run_hardened_call}
use Rattle.rules.specs.Listing.{listed, variables, slots, words, ran, ran_hardened}
use Rattle.rules.specs.Cases.{rows, lines}

abbrev pub source : (v1 budget : ℕ) → Running
source v b = run_source_call rows (variables 0 v 0 0) b (slots 20)

abbrev pub hardened : (v1 budget k place : ℕ) → HardenedRunning
hardened v b k p = run_hardened_call lines (variables 0 v 0 0) b k p (slots 20) words

-- function, v0 = v0 + v1, end
abbrev pub adding : (v0 v1 : ℕ) → Running
adding x y =
    run_source_call (listed row_width (0x010000000000 ∷ 0x020200010000 ∷ 0x060000000000 ∷ [])) (variables x y 0 0) 20 (slots 20)

pub record OverflowCases : Type 0 where
  -- 2 - 3: do, test, do; hardened do, tick, test, do
  pub source_overflows : source 3 20 ≡ ran 20 5 3 (1 ∷ []) (variables 2 3 0 0)
  pub hardened_overflows : hardened 3 20 no_step 0 ≡ ran_hardened 20 5 4 (1 ∷ []) (variables 2 3 0 0)
  -- in the last budgeted step, and one step before
  pub last_step : hardened 3 4 no_step 0 ≡ ran_hardened 20 5 4 (1 ∷ []) (variables 2 3 0 0)
  pub budget_spent : hardened 3 3 no_step 0 ≡ ran_hardened 20 0 3 (1 ∷ []) (variables 2 3 0 0)
  -- a difference of 0 is none, and 65,535 is a sum
  pub difference_0 : source 2 20 ≡ ran 20 1 6 (1 ∷ 3 ∷ []) (variables 0 2 0 0)
  pub sum_65535 : adding 65534 1 ≡ ran 20 1 2 (1 ∷ []) (variables 65535 1 0 0)
  pub sum_65536 : adding 65535 1 ≡ ran 20 5 1 [] (variables 65535 1 0 0)
  -- struck at step 0 to place 3, before the do that subtracts, where v0 is still 0: 0 - 1; also with no budget for a step more
  pub struck : hardened 1 20 0 3 ≡ ran_hardened 20 5 1 [] (variables 0 1 0 0)
  pub struck_last : hardened 1 1 0 3 ≡ ran_hardened 20 5 1 [] (variables 0 1 0 0)
  -- 0 - 0 fits: the do is done, and the alarm comes one step later
  pub struck_fits : hardened 0 20 0 3 ≡ ran_hardened 20 2 2 (3 ∷ []) (variables 0 0 0 0)
