-- The sweep of 01's listing (02, No. 4) in worked cases, as calls, from bytes. crates/sweeper/proofs/Cases.antt closes them by computation.
use Rattle.std.specs.Prelude.{ℕ, ◌-◌, ◌≡◌, Bool, true, List, [], ◌∷◌, ◌++◌, length}
use Rattle.rules.specs.Limits.{counter_words}
use Rattle.rules.specs.Calls.{zeros}
use Rattle.rules.specs.Listing.{slots, words}
use Rattle.rules.specs.Cases.{lines, given}
use Rattle.rules.specs.SweepCall.{Sweeping, Asking, sweep_call, sweep_other_call}

-- accepted, with so many slots lent
abbrev pub swept : (count alarms same other unfinished : ℕ) → (trace : List ℕ) → Sweeping
swept n a s o u tr =
    record {
      swept = record { number = 0; alarms = a; same = s; other = o; unfinished = u };
      trace = tr ++ slots (n - length tr);
      words = zeros counter_words;
    }

abbrev pub refused : (count number : ℕ) → Sweeping
refused n r =
    record {
      swept = record { number = r; alarms = 0; same = 0; other = 0; unfinished = 0 };
      trace = slots n;
      words = words;
    }

abbrev pub found : (count : ℕ) → (other : Bool) → (trace : List ℕ) → Asking
found n o tr =
    record { found = record { number = 0; other = o }; trace = tr ++ slots (n - length tr); words = zeros counter_words }

abbrev pub swept_by : (budget count : ℕ) → Sweeping
swept_by b n = sweep_call lines given b (slots n) words

pub record SweepCases : Type 0 where
  -- 12 steps with 8 places each; where v0 is 0, a jump before the do that takes 1 away ends with 5
  pub budget_20 : swept_by 20 20 ≡ swept 20 74 15 2 5 (1 ∷ 3 ∷ 3 ∷ [])
  -- the run's last step is the budget's: a do done twice does not finish, nor do the late alarms before the two dos
  pub budget_12 : swept_by 12 12 ≡ swept 12 73 13 1 9 (1 ∷ 3 ∷ 3 ∷ [])
  -- 13, and nothing is changed
  pub budget_11 : swept_by 11 20 ≡ refused 20 13
  -- 9 before 13
  pub short : swept_by 11 10 ≡ refused 10 9
  pub any_20 : sweep_other_call lines given 20 (slots 20) words ≡ found 20 true (1 ∷ 3 ∷ 3 ∷ [])
