-- Small jumps (02, No. 6) in worked cases: 01's listing, whose rows 1 and 3 are dos at places 0 and 3, with the tick of each behind it.
-- proofs/SlipCases.antt closes them by computation.
use Rattle.std.specs.Prelude.{ℕ, ◌≡◌, List, [], ◌∷◌}
use Rattle.rules.specs.Row.{table_of}
use Rattle.rules.specs.Line.{lines_in}
use Rattle.rules.specs.Hardened.{counter_form}
use Rattle.rules.specs.Form.{strike_by_lem}
use Rattle.rules.specs.Match.{matching_of}
use Rattle.rules.specs.Slip.{Slip, left_out, done_twice, untouched, slipped_run}
use Rattle.rules.specs.Demands.{Struck, struck_shown, slip_of}
use Rattle.rules.specs.Listing.{variables, ran_hardened}
use Rattle.rules.specs.Cases.{rows, lines}
use Rattle.rules.specs.OverflowCases.{hardened}

abbrev pub shows : (outcome steps : ℕ) → (trace variables : List ℕ) → Struck
shows o n tr vs = record { outcome = o; steps = n; trace = tr; variables = vs }

-- The jump at step k to place p, with v1 and the budget b, is the slip x. The struck run takes n steps, of which m match; it ends as the
-- source's run with the slip ends in m.
pub record Amounts (v1 b k p : ℕ) (x : Slip) (outcome n m : ℕ) (trace vars : List ℕ) : Type 0 where
  pub slips : slip_of (counter_form (lines_in lines)) (lines_in lines) (variables 0 v1 0 0) k p ≡ x
  pub struck : hardened v1 b k p ≡ ran_hardened 20 outcome n trace vars
  pub matches : matching_of (counter_form (lines_in lines)) (lines_in lines) (strike_by_lem k p) b (variables 0 v1 0 0) ≡ m
  pub source : struck_shown (slipped_run (table_of rows) x m (variables 0 v1 0 0)) ≡ shows outcome m trace vars

pub record SlipCases : Type 0 where
  -- 01's (D): v0 = 2 is left out, and the loop is not entered. Tick, test, ret; of the source test, end
  pub D : Amounts 1 20 0 1 (left_out 0) 1 3 2 [] (variables 0 1 0 0)
  -- back from its tick: v0 = 2 once more
  pub first_twice : Amounts 1 20 1 0 (done_twice 0) 1 13 10 (1 ∷ 1 ∷ 3 ∷ 3 ∷ []) (variables 0 1 0 0)
  -- before the loop's do: a round in which nothing is taken away
  pub loop_left_out : Amounts 1 20 3 4 (left_out 2) 1 15 11 (1 ∷ 3 ∷ 3 ∷ []) (variables 0 1 0 0)
  -- before its tick: 1 is taken away twice in one round
  pub loop_twice : Amounts 1 20 4 3 (done_twice 2) 1 9 7 (1 ∷ 3 ∷ 3 ∷ []) (variables 0 1 0 0)
  -- to the place where the run is
  pub same_place : Amounts 1 20 3 3 untouched 1 12 9 (1 ∷ 3 ∷ 3 ∷ []) (variables 0 1 0 0)
  -- 2 - 2 fits, and 0 - 2 does not: the second time ends the run
  pub twice_overflows : Amounts 2 20 4 3 (done_twice 2) 5 5 4 (1 ∷ 3 ∷ []) (variables 0 2 0 0)
  -- 2 - 3 left out does not overflow; a round later it does
  pub left_out_fits : Amounts 3 20 3 4 (left_out 2) 5 7 5 (1 ∷ []) (variables 2 3 0 0)
  -- the budget ends with the tick landed at, of which the source has no step; and with the second time
  pub tick_alone : Amounts 1 1 0 1 (left_out 0) 0 1 0 [] (variables 0 1 0 0)
  pub second_time : Amounts 1 5 4 3 (done_twice 2) 0 5 4 (1 ∷ 3 ∷ 3 ∷ []) (variables 0 1 0 0)
