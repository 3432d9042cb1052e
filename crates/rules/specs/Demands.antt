-- The customer's demand 3, in words and then as a type. proofs/ proves it.
--
-- Take any bytes that are a hardened table, any first values of the variables, any budget and any jump. Then, of the whole run
-- from line 0 of function 0 to wherever it stops:
--
-- Unstruck. Without the jump the run stops with the outcome, trace, variables and open functions of its source's run whose
-- budget is the matching step; that source run takes exactly the matching step; the outcome is never an alarm. So where a do of the
-- source overflows, both end with 5 at the matching step.
--
-- Finishing. Where the source's run finishes in n steps with t dos and c calls, the hardened run finishes in n + t + c steps,
-- if the budget holds them.
--
-- Not struck. A jump that comes at or past the run's end, or at a step that the budget does not hold, changes nothing.
--
-- Beyond. A jump that strikes and goes beyond place m ends the run with outcome 4 after k steps, with nothing more done.
--
-- Caught. A jump that strikes and is wide, to a place before a do that overflows on the variables which the first k steps left, ends the
-- run with 5 in step k, with the trace and variables that those steps left. To every other place the alarm comes in step k if the place
-- is before a guard, or is m with one function open, and else in step k + 1; a budget that ends before that step gives outcome 0. Trace
-- and variables are what the first k steps left, with the do at that place, if one stands there, done on them once.
--
-- Small. A jump that strikes, within the function, with no guard between its two places: these are equal, or a do's own and its tick's.
-- The run stops with the outcome, trace, variables and open functions of the source's run in which nothing is changed (equal places), or
-- that one do, at that one time, is left out and takes no step (forward), or is done twice and takes two (back). The budget of that
-- source run is the matching step of the struck run; it takes exactly that many steps; the outcome is never an alarm. A do left out
-- overflows no more; one done twice may end the run with 5 the second time.
--
-- Told. Every jump that strikes is beyond m, wide or small, and its run is what is said there.
--
-- The "source's run" is that of the table which the bytes are read back to.
--
-- Each part is said of any form of hardened lines; `Demand3` and `Theorem` are about the counter form, whose bytes are 01's. A form is given
-- with the lines, before values, budget and jump: so one whose guards all pass does not meet `caught`, and one whose guards all refuse
-- does not meet `no_alarm`.
use Rattle.std.specs.Prelude.{ℕ, suc, ◌+◌, ◌≤◌, ◌<◌, ◌≢◌, ◌≡◌, Bool, true, false, cond, not, ◌&&◌, List, eqb, ltb}
use Rattle.rules.specs.Strike.{None}
use Rattle.rules.specs.declared.step.Step.TheVariants.{Beyond}
use Rattle.rules.specs.Limits.{no_step}
use Rattle.rules.specs.declared.kind.Kind.TheVariants.{Do}
use Rattle.rules.specs.Row.{Table, table_of, kind_at, operands_at}
use Rattle.rules.specs.Line.{Line, do_line, tick_line, test_line, leave_line, out_line, call_line, back_line, ret_line, line_at, is_guard, lines_in}
use Rattle.rules.specs.Function.{last_place}
use Rattle.rules.specs.ReadBack.{source_bytes, is_hardened_lem}
use Rattle.rules.specs.Variables.{overflows}
use Rattle.rules.specs.State.{State, did, depth}
use Rattle.rules.specs.Run.{Answer, outcome_of_lem}
use Rattle.rules.specs.Source.{source_run}
use Rattle.rules.specs.Form.{Form, strike_by_lem, place_line, run_of}
use Rattle.rules.specs.Hardened.{counter_form}
use Rattle.rules.specs.Match.{shown, quiet_done, matching_of, matching, dos_in_lem, calls_in, hardened_steps_lem, guard_between}
use Rattle.rules.specs.Slip.{Slip, untouched, left_out, done_twice, slipped_run, slip_between}

-- ---- unstruck
pub record Unstruck {H : Type 0} (F : Form H) (ls : List Line) (t : Table) (vs : List ℕ) (b : ℕ) : Type 0 where
  pub as_source : shown (run_of F ls None b vs) ≡ shown (source_run t (matching F ls b vs) vs)
  pub at_matching : (source_run t (matching F ls b vs) vs).steps ≡ matching F ls b vs
  pub no_alarm : outcome_of_lem (run_of F ls None b vs).step ≢ 2

-- the source's run of budget b finishes, and the hardened run has the budget c for it
pub record Finishing {H : Type 0} (F : Form H) (ls : List Line) (t : Table) (vs : List ℕ) (b c : ℕ) : Type 0 where
  pub finishes : outcome_of_lem (source_run t b vs).step ≡ 1 → hardened_steps_lem (source_run t b vs).steps (dos_in_lem t b vs) (calls_in t b vs) ≤ c
      → outcome_of_lem (run_of F ls None c vs).step ≡ 1
  pub in_steps : outcome_of_lem (source_run t b vs).step ≡ 1 → hardened_steps_lem (source_run t b vs).steps (dos_in_lem t b vs) (calls_in t b vs) ≤ c
      → (run_of F ls None c vs).steps ≡ hardened_steps_lem (source_run t b vs).steps (dos_in_lem t b vs) (calls_in t b vs)

-- ---- a jump before step k
-- what the first k steps of the unstruck run come to
abbrev pub before : {H : Type 0} → Form H → List Line → (vs : List ℕ) → (k : ℕ) → Answer H
before F ls vs k = run_of F ls None k vs

-- "a run that ends before k, or whose budget is k, is not struck"; "k = 65,535 is no jump"
abbrev pub strikes : {H : Type 0} → Form H → List Line → (vs : List ℕ) → (b k : ℕ) → Bool
strikes F ls vs b k = not (eqb k no_step) && ltb k b && eqb (outcome_of_lem (before F ls vs k).step) 0

-- "in step k if the place is before a guard, or is m with one function open; in step k + 1 if it is before a do .. or is m with
-- more open"
unfoldable pub alarm_step : {H : Type 0} → List Line → (place k : ℕ) → State H → ℕ
alarm_step ls p k s =
    cond (eqb p (last_place ls s.running.function)) (cond (eqb (depth s) 1) k (suc k))
    (cond (is_guard (line_at ls (place_line ls p s))) k (suc k))

-- "with the do at that place, if one stands there, done on them once"
abbrev pub done_by : {H : Type 0} → Line → State H → State H
done_by (do_line o e) s = did o e s
done_by (tick_line r e a) s = s
done_by (test_line o r s t e a b c go) now = now
done_by (leave_line r s e a b go) now = now
done_by (out_line r s t e a go) now = now
done_by (call_line r e a b go) s = s
done_by (back_line r e a b) s = s
done_by (ret_line e a) s = s

unfoldable pub done_at : {H : Type 0} → List Line → (place : ℕ) → State H → State H
done_at ls p s =
    cond (eqb p (last_place ls s.running.function)) s (done_by (line_at ls (place_line ls p s)) s)

-- what 01 says of a struck run
pub record Struck : Type 0 where
  pub outcome : ℕ
  pub steps : ℕ
  pub trace : List ℕ
  pub variables : List ℕ

abbrev pub struck_shown : {H : Type 0} → Answer H → Struck
struck_shown a =
    record { outcome = outcome_of_lem a.step; steps = a.steps; trace = a.state.trace; variables = a.state.vars }

-- the alarm in step x where the budget b holds that step, else the budget spent; s has what is left
abbrev pub alarm_in : {H : Type 0} → (x b : ℕ) → State H → Struck
alarm_in x b s =
    record {
      outcome = cond (ltb x b) 2 0;
      steps = cond (ltb x b) (suc x) b;
      trace = s.trace;
      variables = s.vars;
    }

-- "lands before such a do": one that overflows on the variables of s
abbrev pub overflows_by : {H : Type 0} → Line → State H → Bool
overflows_by (do_line o e) s = overflows o s.vars
overflows_by (tick_line r e a) s = false
overflows_by (test_line o r s t e a b c go) now = false
overflows_by (leave_line r s e a b go) now = false
overflows_by (out_line r s t e a go) now = false
overflows_by (call_line r e a b go) s = false
overflows_by (back_line r e a b) s = false
overflows_by (ret_line e a) s = false

unfoldable pub overflows_at : {H : Type 0} → List Line → (place : ℕ) → State H → Bool
overflows_at ls p s =
    cond (eqb p (last_place ls s.running.function)) false (overflows_by (line_at ls (place_line ls p s)) s)

-- outcome 5 in step k, nothing changed
abbrev pub overflow_in : {H : Type 0} → (k : ℕ) → State H → Struck
overflow_in k s = record { outcome = 5; steps = suc k; trace = s.trace; variables = s.vars }

-- "After a wide jump out of an unstruck run". 02, No. 5: "A run struck across a guard therefore ends with 5, in the step struck, exactly if
-- it lands before such a do, where it met the alarm or spent its budget before; otherwise demand 3 stays."
unfoldable pub caught_from : {H : Type 0} → List Line → (b k place : ℕ) → State H → Struck
caught_from ls b k p s = cond (overflows_at ls p s) (overflow_in k s) (alarm_in (alarm_step ls p k s) b (done_at ls p s))

-- a jump beyond place m: outcome 4 after k steps, with nothing more done
abbrev pub past_m : {H : Type 0} → Form H → List Line → (vs : List ℕ) → (k : ℕ) → Answer H
past_m F ls vs k =
    let s = (before F ls vs k).state in
    record { step = Beyond (last_place ls s.running.function); steps = k; state = s }

pub record Jumped {H : Type 0} (F : Form H) (ls : List Line) (vs : List ℕ) (b k p : ℕ) : Type 0 where
  pub not_struck : strikes F ls vs b k ≡ false → run_of F ls (strike_by_lem k p) b vs ≡ run_of F ls None b vs
  pub beyond : strikes F ls vs b k ≡ true → last_place ls (before F ls vs k).state.running.function < p
      → run_of F ls (strike_by_lem k p) b vs ≡ past_m F ls vs k
  pub caught : strikes F ls vs b k ≡ true → p ≤ last_place ls (before F ls vs k).state.running.function
      → guard_between ls (before F ls vs k).state.running.at (place_line ls p (before F ls vs k).state) ≡ true
      → struck_shown (run_of F ls (strike_by_lem k p) b vs) ≡ caught_from ls b k p (before F ls vs k).state

-- ---- a small jump
-- the do, or nothing, that slips: the source has taken as many steps as the matching step of the first k
unfoldable pub slip_of : {H : Type 0} → Form H → List Line → (vs : List ℕ) → (k place : ℕ) → Slip
slip_of F ls vs k p =
    let s = (before F ls vs k).state in
    slip_between s.running.at (place_line ls p s) (matching F ls k vs)

-- line x is the do that the source's run comes to in its step j
pub record DoneIn (ls : List Line) (t : Table) (vs : List ℕ) (x j : ℕ) : Type 0 where
  pub goes_on : outcome_of_lem (source_run t j vs).step ≡ 0
  pub row : ℕ
  pub reached : (source_run t j vs).state.running.at ≡ row
  pub is_do : kind_at t row ≡ Do
  pub line_is : line_at ls x ≡ do_line (operands_at t row) row

-- the do between lines x and y, where this slips
abbrev pub ThatDo : List Line → Table → (vs : List ℕ) → (x y : ℕ) → Slip → Type 0
ThatDo ls t vs x y untouched = y ≡ x
ThatDo ls t vs x y (left_out j) = (y ≡ suc x) × DoneIn ls t vs x j
ThatDo ls t vs x y (done_twice j) = (x ≡ suc y) × DoneIn ls t vs y j

-- the source's run with the slip, at the matching step of the struck run
abbrev pub slipped_at : {H : Type 0} → Form H → List Line → Table → (vs : List ℕ) → (b k place : ℕ) → Answer (Unit {0})
slipped_at F ls t vs b k p = slipped_run t (slip_of F ls vs k p) (matching_of F ls (strike_by_lem k p) b vs) vs

-- 02, No. 6: "outcome, variables, trace and open functions agree at the matching step"
pub record Slipped {H : Type 0} (F : Form H) (ls : List Line) (t : Table) (vs : List ℕ) (b k p : ℕ) : Type 0 where
  pub as_slipped : shown (run_of F ls (strike_by_lem k p) b vs) ≡ shown (slipped_at F ls t vs b k p)
  pub at_matching : (slipped_at F ls t vs b k p).steps ≡ matching_of F ls (strike_by_lem k p) b vs
  pub in_steps : (run_of F ls (strike_by_lem k p) b vs).steps ≡ (slipped_at F ls t vs b k p).steps + quiet_done F ls (strike_by_lem k p) b vs
  pub no_alarm : outcome_of_lem (run_of F ls (strike_by_lem k p) b vs).step ≢ 2
  pub that_do : ThatDo ls t vs (before F ls vs k).state.running.at (place_line ls p (before F ls vs k).state) (slip_of F ls vs k p)

-- ---- every jump that strikes
pub data Told {H : Type 0} (F : Form H) (ls : List Line) (t : Table) (vs : List ℕ) (b k p : ℕ) : Type 0 where
  beyond_m : last_place ls (before F ls vs k).state.running.function < p → run_of F ls (strike_by_lem k p) b vs ≡ past_m F ls vs k → Told F ls t vs b k p
  wide : p ≤ last_place ls (before F ls vs k).state.running.function
      → guard_between ls (before F ls vs k).state.running.at (place_line ls p (before F ls vs k).state) ≡ true
      → struck_shown (run_of F ls (strike_by_lem k p) b vs) ≡ caught_from ls b k p (before F ls vs k).state → Told F ls t vs b k p
  small : p ≤ last_place ls (before F ls vs k).state.running.function
      → guard_between ls (before F ls vs k).state.running.at (place_line ls p (before F ls vs k).state) ≡ false → Slipped F ls t vs b k p → Told F ls t vs b k p

-- ---- demand 3, of a form's lines, the source table, one set of first values, one budget and one jump
pub record Demand {H : Type 0} (F : Form H) (ls : List Line) (t : Table) (vars : List ℕ) (budget k place : ℕ) : Type 0 where
  pub unstruck : Unstruck F ls t vars budget
  pub finishing : (c : ℕ) → Finishing F ls t vars budget c
  pub jumped : Jumped F ls vars budget k place
  pub told : strikes F ls vars budget k ≡ true → Told F ls t vars budget k place

-- ---- of a hardened table of the counter form
abbrev pub Demand3 : (lines vars : List ℕ) (budget k place : ℕ) → Type 0
Demand3 lines vars budget k place =
    Demand (counter_form (lines_in lines)) (lines_in lines) (table_of (source_bytes lines)) vars budget k place

-- of all of them
abbrev pub Theorem : Type 0
Theorem =
    (lines vars : List ℕ) (budget k place : ℕ) → is_hardened_lem lines ≡ true → Demand3 lines vars budget k place
