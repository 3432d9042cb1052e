-- The whole sweep (02, No. 4): "For one hardened table, one set of variables and one budget, strike each step of the unstruck run with each
-- place of the function running then, place m included. Count four ways to end". Nothing here knows which of these runs need not be made:
-- that is specs/Settled.
use Rattle.std.specs.Prelude.{ℕ, zero, suc, ◌+◌, Bool, cond, List, eqb, ltb}
use Rattle.rules.specs.declared.ending.Ending.{Ending}
use Rattle.rules.specs.declared.ending.Ending.TheVariants.{Alarmed, Same, Other, Unfinished}
use Rattle.rules.specs.declared.ending.Counts.{Counts}
use Rattle.rules.specs.Strike.{None}
use Rattle.rules.specs.Bytes.{same}
use Rattle.rules.specs.Line.{Line}
use Rattle.rules.specs.Run.{Answer, outcome_of_lem}
use Rattle.rules.specs.Form.{Form, strike_by_lem, run_of}
use Rattle.rules.specs.RunPromise.{last_at}

-- ---- "alarm; finished with the unstruck trace; finished with another trace; not finished": by the outcome and, where it is 1, by the trace
unfoldable pub ending_of : {H : Type 0} → (unstruck : List ℕ) → Answer H → Ending
ending_of trace a =
    cond (eqb (outcome_of_lem a.step) 2) Alarmed
    (cond (eqb (outcome_of_lem a.step) 1) (cond (same a.state.trace trace) Same Other) Unfinished)

-- ---- counts, and sums of them
abbrev pub counts : (alarms same other unfinished : ℕ) → Counts
counts a s o u = record { alarms = a; same = s; other = o; unfinished = u }

abbrev pub one : Ending → Counts
one Alarmed = counts 1 0 0 0
one Same = counts 0 1 0 0
one Other = counts 0 0 1 0
one Unfinished = counts 0 0 0 1

abbrev pub plus : Counts → Counts → Counts
plus x y = counts (x.alarms + y.alarms) (x.same + y.same) (x.other + y.other) (x.unfinished + y.unfinished)

abbrev pub total : Counts → ℕ
total x = x.alarms + x.same + x.other + x.unfinished

-- the terms 0 to n - 1
unfoldable pub sum_to : (n : ℕ) → (ℕ → ℕ) → ℕ
sum_to zero f = 0
sum_to (suc n) f = sum_to n f + f n

unfoldable pub sum_counts : (n : ℕ) → (ℕ → Counts) → Counts
sum_counts zero f = counts 0 0 0 0
sum_counts (suc n) f = plus (sum_counts n f) (f n)

-- ---- the sweep
abbrev pub unstruck_run : {H : Type 0} → Form H → List Line → (vars : List ℕ) → (budget : ℕ) → Answer H
unstruck_run F ls vs b = run_of F ls None b vs

-- the places open to a jump before step k: 0 to m
abbrev pub places_at : {H : Type 0} → Form H → List Line → (vars : List ℕ) → (k : ℕ) → ℕ
places_at F ls vs k = suc (last_at F ls vs k)

-- how the run ends that is struck before step k, to place p
abbrev pub struck_ending : {H : Type 0} → Form H → List Line → (vars : List ℕ) → (budget k p : ℕ) → Ending
struck_ending F ls vs b k p = ending_of (unstruck_run F ls vs b).state.trace (run_of F ls (strike_by_lem k p) b vs)

unfoldable pub sweep_step : {H : Type 0} → Form H → List Line → (vars : List ℕ) → (budget k : ℕ) → Counts
sweep_step F ls vs b k = sum_counts (places_at F ls vs k) (λ p. one (struck_ending F ls vs b k p))

unfoldable pub sweep_of : {H : Type 0} → Form H → List Line → (vars : List ℕ) → (budget : ℕ) → Counts
sweep_of F ls vs b = sum_counts (unstruck_run F ls vs b).steps (sweep_step F ls vs b)

-- "A second call says only whether the third count is above zero."
abbrev pub any_other : Counts → Bool
any_other x = ltb 0 x.other
