-- The counter form of hardened lines: what an open function keeps are the counters of its regions (01, "The hardened lines"). A run of
-- it is a run of the machine of specs/Form.
use Rattle.std.specs.Prelude.{ℕ, Bool, true, cond, ◌&&◌, List, [], eqb, leb}
use Rattle.rules.specs.Strike.{Strike}
use Rattle.rules.specs.State.{Frame, State}
use Rattle.rules.specs.Run.{Turn, Answer}
use Rattle.rules.specs.Line.{Line, do_line, tick_line, test_line, leave_line, out_line, call_line, back_line, ret_line}
use Rattle.rules.specs.Function.{ret_value}
use Rattle.rules.specs.Form.{Guard, Form, leaves_of, line_step_of, step_of, striking_step_of, start_by, run_of}
pub use Rattle.rules.specs.Form.{moved, must, strike_by_lem, place_line}

-- "Each has a 16-bit counter, one for each open call of the function": what the counter of each region holds
abbrev pub Counters : Type 0
Counters = ℕ → ℕ

abbrev pub Hardened : Type 0
Hardened = State Counters

-- all counters 0; counter r gets v; counters low to high get 0; counter r holds e
abbrev pub clear : Counters
clear r = 0

abbrev pub put : (r v : ℕ) → Counters → Counters
put r v c x = cond (eqb x r) v (c x)

abbrev pub clear_from : (low high : ℕ) → Counters → Counters
clear_from low high c x = cond (leb low x && leb x high) 0 (c x)

abbrev pub holds : (r e : ℕ) → Counters → Bool
holds r e x = eqb (x r) e

-- a line that passes by the running function's counters alone, has one way, and opens nothing
abbrev pub simply : (Counters → Bool) → (Counters → Counters) → Guard Counters
simply check change = record { passes = λ x last. check x; moves = λ way x. change x; opens = clear }

-- The column "Step" of 01's table of lines, as far as it speaks of counters. `"Check" means: counter r holds e, else alarm.`
abbrev pub counter_guard : (k : ℕ) → Line → Guard Counters
-- 21 do is no guard
counter_guard k (do_line o e) = simply (λ x. true) (λ x. x)
-- 22 tick: "check; r gets a = e+1"
counter_guard k (tick_line r e a) = simply (holds r e) (put r a)
-- 23 test: "check, .. True: r gets a = e+1, s (region opened) gets its base b, .. False: r gets a, then t gets c, .."
counter_guard k (test_line o r s t e a b c go) =
    record {
      passes = λ x last. holds r e x;
      moves = λ way x. cond way (put s b (put r a x)) (put t c (put r a x));
      opens = clear;
    }
-- 24 leave: "check; r gets 0; s (region around) must hold b, else alarm; s gets a; .."
counter_guard k (leave_line r s e a b go) = simply (λ x. holds r e x && holds s b (put r 0 x)) (λ x. put s a (put r 0 x))
-- 25 out: "check; counters t (loop body) to r get 0; s (around the loop) gets a; .."
counter_guard k (out_line r s t e a go) = simply (holds r e) (λ x. put s a (clear_from t r x))
-- 26 call: "check; .. r gets a = e+1; callee opens, counters 0, its region 0 gets its base b; .."
counter_guard k (call_line r e a b go) =
    record { passes = λ x last. holds r e x; moves = λ way x. put r a x; opens = put 0 b clear }
-- 27 back: "check; the region 0 counter of the function that returned last in the run .. must have ended at b, else alarm; r gets a = e+1"
counter_guard k (back_line r e a b) =
    record { passes = λ x last. holds r e x && holds 0 b last; moves = λ way x. put r a x; opens = clear }
-- 28 ret: "check; r gets a = e+1; .."
counter_guard k (ret_line e a) = simply (holds 0 e) (put 0 a)

-- ended: "the host compares its region 0 counter with the a of its ret: equal is finished, else alarm"
-- first: "counters 0 but region 0's at its base", which is 1: no region opened before it
-- nothing: "0 if none has" returned
abbrev pub counter_form : List Line → Form Counters
counter_form ls =
    record { guard = counter_guard; ended = holds 0 (ret_value ls 0); first = put 0 1 clear; nothing = clear }

-- ---- the machine, of this form
abbrev pub check : (r e : ℕ) → Hardened → Turn Counters → Turn Counters
check r e s t = must (holds r e s.running.own) s t

abbrev pub leaves : List Line → Hardened → List (Frame Counters) → Turn Counters
leaves ls s fs = leaves_of (counter_form ls) s fs

abbrev pub line_step_lem : List Line → (k : ℕ) → Line → Hardened → Turn Counters
line_step_lem ls k l now = line_step_of (counter_form ls) ls k l now

abbrev pub hardened_step : List Line → Hardened → Turn Counters
hardened_step ls s = step_of (counter_form ls) ls s

abbrev pub striking_step : List Line → Strike → (k : ℕ) → Hardened → Turn Counters
striking_step ls j k s = striking_step_of (counter_form ls) ls j k s

-- what function 0 opens with does not go by the lines
abbrev pub hardened_start : (vars : List ℕ) → Hardened
hardened_start vs = start_by (counter_form []) vs

abbrev pub hardened_run : List Line → Strike → (budget : ℕ) → (vars : List ℕ) → Answer Counters
hardened_run ls j b vs = run_of (counter_form ls) ls j b vs
