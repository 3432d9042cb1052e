-- The sweep by one test for each place, and at most one struck run for each step: how it is found, and that it is found so. Where the unstruck
-- run finishes, a jump to the place where the run stands changes nothing; the theorem settles every wide jump: alarm, or not finished where
-- the budget ends first or a do overflows. What is left is the jump across one do: past it from its place, or back to it from its tick's.
-- proofs/Form/Sweep.antt proves the statement of every form that meets demand 3.
use Rattle.std.specs.Prelude.{ℕ, suc, ◌-◌, ◌≤◌, ◌<◌, ◌≡◌, Bool, true, false, cond, List, eqb}
use Rattle.rules.specs.declared.ending.Ending.{Ending}
use Rattle.rules.specs.declared.ending.Ending.TheVariants.{Alarmed, Same, Other, Unfinished}
use Rattle.rules.specs.Strike.{None}
use Rattle.rules.specs.Limits.{no_step}
use Rattle.rules.specs.Line.{Line, do_line, tick_line, test_line, leave_line, out_line, call_line, back_line, ret_line, line_at, lines_in}
use Rattle.rules.specs.Function.{start_of, finish_of}
use Rattle.rules.specs.ReadBack.{is_hardened_lem}
use Rattle.rules.specs.State.{State, go_to}
use Rattle.rules.specs.Run.{Answer, run, outcome_of_lem}
use Rattle.rules.specs.Form.{Form, place_line, striking_step_of}
use Rattle.rules.specs.Hardened.{counter_form}
use Rattle.rules.specs.Demands.{caught_from}
use Rattle.rules.specs.RunPromise.{state_at}
use Rattle.rules.specs.Sweep.{ending_of, total, sum_to, unstruck_run, places_at, struck_ending, sweep_of}

-- the line number of the one place that a do, and no guard, parts from line k; k itself where there is none
abbrev pub across_by : Line → (k : ℕ) → ℕ
across_by (do_line o e) k = suc k
across_by (tick_line r e a) k = k - 1
across_by (test_line o r s t e a b c go) k = k
across_by (leave_line r s e a b go) k = k
across_by (out_line r s t e a go) k = k
across_by (call_line r e a b go) k = k
across_by (back_line r e a b) k = k
across_by (ret_line e a) k = k

unfoldable pub across : List Line → (k : ℕ) → ℕ
across ls k = across_by (line_at ls k) k

-- the run that stands before step k in state s, going on at line y
abbrev pub going_on_lem : {H : Type 0} → Form H → List Line → (budget k y : ℕ) → State H → Answer H
going_on_lem F ls b k y s = run (striking_step_of F ls None) (b - k) k (go_to y s.running.own s)

-- how the one narrow jump of the step ends, where there is one
unfoldable pub narrow_ending : {H : Type 0} → Form H → List Line → (unstruck : List ℕ) → (budget k : ℕ) → State H → Ending
narrow_ending F ls trace b k s =
    let y = across ls s.running.at in
    cond (eqb y s.running.at) Same (ending_of trace (going_on_lem F ls b k y s))

-- how a wide jump ends: it never finishes
unfoldable pub wide_ending : {H : Type 0} → List Line → (budget k p : ℕ) → State H → Ending
wide_ending ls b k p s = cond (eqb (caught_from ls b k p s).outcome 2) Alarmed Unfinished

-- a jump to place p out of state s, before step k
unfoldable pub settled_ending : {H : Type 0} → Form H → List Line → (unstruck : List ℕ) → (budget k : ℕ) → State H → (p : ℕ) → Ending
settled_ending F ls trace b k s p =
    let y = place_line ls p s in
    cond (eqb y s.running.at) Same
    (cond (eqb y (across ls s.running.at)) (narrow_ending F ls trace b k s) (wide_ending ls b k p s))

-- Where the run stands before step k: before a line of the function that runs; and so is the place across a do.
pub record StandsBefore (ls : List Line) (f k : ℕ) : Type 0 where
  pub not_before : start_of ls f ≤ k
  pub before_end : k < finish_of ls f
  pub across_from : start_of ls f ≤ across ls k
  pub across_before : across ls k < finish_of ls f

-- it finishes with another trace
abbrev pub is_other_lem : Ending → Bool
is_other_lem Alarmed = false
is_other_lem Same = false
is_other_lem Other = true
is_other_lem Unfinished = false

pub record SweepLaw {H : Type 0} (F : Form H) (ls : List Line) (vs : List ℕ) (b : ℕ) : Type 0 where
  -- "The four add up to the sum, over the steps, of the places then open to a jump."
  pub adds_up : total (sweep_of F ls vs b) ≡ sum_to (unstruck_run F ls vs b).steps (places_at F ls vs)
  pub stands : (k : ℕ) → k < (unstruck_run F ls vs b).steps
      → StandsBefore ls (state_at F ls vs k).running.function (state_at F ls vs k).running.at
  pub settled : outcome_of_lem (unstruck_run F ls vs b).step ≡ 1 → b ≤ no_step → (k : ℕ) → k < (unstruck_run F ls vs b).steps → (p : ℕ) → p < places_at F ls vs k
      → struck_ending F ls vs b k p ≡ settled_ending F ls (unstruck_run F ls vs b).state.trace b k (state_at F ls vs k) p

-- of every hardened table
abbrev pub Sweeps : Type 0
Sweeps =
    (lines vars : List ℕ) (budget : ℕ) → is_hardened_lem lines ≡ true → SweepLaw (counter_form (lines_in lines)) (lines_in lines) vars budget
