-- Each check of each guard by itself, as worked cases about single lines (01, "The hardened lines"): with the counters as the line
-- wants them there is no alarm, and with one of them other there is. proofs/Checks.antt closes them by computation.
use Rattle.std.specs.Prelude.{ℕ, ◌≡◌, Bool, true, false, [], ◌∷◌, replicate}
use Rattle.rules.specs.declared.step.Step.{Step}
use Rattle.rules.specs.declared.step.Step.TheVariants.{Went, Finished, Alarm, TooManyOpen, Beyond, Overflow}
use Rattle.rules.specs.State.{frame}
use Rattle.rules.specs.Run.{Turn, on, ends, untaken}
use Rattle.rules.specs.Line.{Line, tick_line, test_line, leave_line, out_line, call_line, back_line, ret_line, no_operands}
use Rattle.rules.specs.Hardened.{Counters, clear, put, line_step_lem}
use Rattle.rules.specs.Listing.{variables}

abbrev pub is_alarm : Step → Bool
is_alarm (Went k) = false
is_alarm Finished = false
is_alarm Alarm = true
is_alarm (TooManyOpen n) = false
is_alarm (Beyond m) = false
is_alarm (Overflow i v) = false

abbrev pub alarms : Turn Counters → Bool
alarms (on s) = false
alarms (ends o s) = is_alarm o
alarms (untaken o s) = is_alarm o

-- line 0 of a table of one ret with a = 5, where counters 0 and 1 hold x and y, the function that returned last ended at z, and
-- so many others are open
abbrev pub doing : Line → (x y z others : ℕ) → Bool
doing l x y z n =
    alarms
    (line_step_lem (ret_line 4 5 ∷ []) 0 l
    (record {
      running = frame 0 0 (put 1 y (put 0 x clear));
      callers = replicate n (frame 0 1 clear);
      last = put 0 z clear;
      vars = variables 0 0 0 0;
      trace = [];
    }))

pub record Checks : Type 0 where
  pub tick : doing (tick_line 1 7 8) 3 7 0 0 ≡ false
  pub tick_other : doing (tick_line 1 7 8) 3 6 0 0 ≡ true
  pub test : doing (test_line no_operands 0 1 0 3 4 7 5 9) 3 0 0 0 ≡ false
  pub test_other : doing (test_line no_operands 0 1 0 3 4 7 5 9) 4 0 0 0 ≡ true
  pub leave : doing (leave_line 1 0 7 5 4 9) 4 7 0 0 ≡ false
  pub leave_child : doing (leave_line 1 0 7 5 4 9) 4 6 0 0 ≡ true
  pub leave_around : doing (leave_line 1 0 7 5 4 9) 3 7 0 0 ≡ true
  pub out : doing (out_line 1 0 1 7 5 9) 4 7 0 0 ≡ false
  pub out_other : doing (out_line 1 0 1 7 5 9) 4 8 0 0 ≡ true
  pub call : doing (call_line 0 3 4 1 0) 3 0 0 0 ≡ false
  pub call_other : doing (call_line 0 3 4 1 0) 2 0 0 0 ≡ true
  -- with 16 open: too many, but the check goes first
  pub call_deep : doing (call_line 0 3 4 1 0) 3 0 0 15 ≡ false
  pub call_deep_other : doing (call_line 0 3 4 1 0) 2 0 0 15 ≡ true
  pub back : doing (back_line 0 4 5 9) 4 0 9 0 ≡ false
  pub back_other : doing (back_line 0 4 5 9) 3 0 9 0 ≡ true
  pub back_callee : doing (back_line 0 4 5 9) 4 0 8 0 ≡ true
  pub ret : doing (ret_line 4 5) 4 0 0 1 ≡ false
  pub ret_other : doing (ret_line 4 5) 3 0 0 1 ≡ true
  -- the host compares with the a of the table's ret
  pub host : doing (ret_line 4 5) 4 0 0 0 ≡ false
  pub host_other : doing (ret_line 4 6) 4 0 0 0 ≡ true
