-- Each public call, as one function from all that it is given to all that it gives back: number, lengths, outcome, steps,
-- variables, and what every lent buffer holds afterwards (01, "What turns a call away" and "Running").
use Rattle.std.specs.Prelude.{ℕ, Bool, ◌||◌, not, List, ◌++◌, ltb, length, drop, replicate}
use Rattle.rules.specs.declared.answer.Wrote.{Wrote}
use Rattle.rules.specs.declared.answer.Ran.{Ran}
use Rattle.rules.specs.declared.refusal.Refusal.TheVariants.{ShortOutput, ShortRoom, NotHardened}
use Rattle.rules.specs.Verdict.{Verdict, Accepted, Refused}
use Rattle.rules.specs.Limits.{counter_words}
use Rattle.rules.specs.Row.{table_of}
use Rattle.rules.specs.Refusal.{number_of, refuse_if_lem, and_then}
use Rattle.rules.specs.Switch.{chain_bytes}
use Rattle.rules.specs.Given.{given_verdict}
use Rattle.rules.specs.Harden.{hardened_bytes}
use Rattle.rules.specs.Line.{lines_in}
use Rattle.rules.specs.ReadBack.{source_bytes, is_hardened_lem}
use Rattle.rules.specs.Run.{Answer, outcome_of_lem}
use Rattle.rules.specs.Source.{source_run}
use Rattle.rules.specs.Hardened.{strike_by_lem, hardened_run}

-- "bytes and slots beyond the answer unchanged": a buffer that held this, with the answer at its front
abbrev pub over : (answer held : List ℕ) → List ℕ
over answer held = answer ++ drop (length answer) held

-- check: the number that a source table gets
abbrev pub check_call : (rows : List ℕ) → ℕ
check_call rows = number_of (given_verdict rows)

-- what a call that writes a table gives back
pub record Writing : Type 0 where
  pub wrote : Wrote
  pub out : List ℕ

-- "Returned: number, length 0. Unchanged: all."
unfoldable pub writing : Verdict → (answer out : List ℕ) → Writing
writing Accepted answer out = record { wrote = record { number = 0; length = length answer }; out = over answer out }
writing (Refused r) answer out = record { wrote = record { number = number_of (Refused r); length = 0 }; out = out }

-- 8, "output shorter than the answer"
abbrev pub short_output : (answer out : List ℕ) → Verdict
short_output answer out = refuse_if_lem (ltb (length out) (length answer)) ShortOutput

-- harden: 1 to 7 and 11, then 8. "A switch is hardened as the chain of ifs in elses that it stands for" (02, No. 1)
unfoldable pub harden_call : (rows out : List ℕ) → Writing
harden_call rows out =
    let answer = hardened_bytes (chain_bytes rows) in
    writing (and_then (given_verdict rows) (short_output answer out)) answer out

-- 10, "hardened bytes that no source table gives"
abbrev pub not_hardened : (lines : List ℕ) → Verdict
not_hardened lines = refuse_if_lem (not (is_hardened_lem lines)) NotHardened

-- check a hardened table: the number that the bytes get, 0 or 10
abbrev pub check_hardened_call : (lines : List ℕ) → ℕ
check_hardened_call lines = number_of (not_hardened lines)

-- read back: "Hardened bytes meet 10 in place of 1 to 7, before 8"
unfoldable pub read_back_call : (lines out : List ℕ) → Writing
read_back_call lines out =
    let answer = source_bytes lines in
    writing (and_then (not_hardened lines) (short_output answer out)) answer out

-- what a run gives back
pub record Running : Type 0 where
  pub ran : Ran
  pub trace : List ℕ

-- "Returned: number, zeros, variables as given. Unchanged: all."
unfoldable pub running : {C : Type 0} → Verdict → Answer C → (vars slots : List ℕ) → Running
running Accepted a vs slots =
    record {
      ran =
          record {
            number = 0;
            outcome = outcome_of_lem a.step;
            steps = a.steps;
            traced = length a.state.trace;
            variables = a.state.vars;
          };
      trace = over a.state.trace slots;
    }
running (Refused r) a vs slots =
    record {
      ran = record { number = number_of (Refused r); outcome = 0; steps = 0; traced = 0; variables = vs };
      trace = slots;
    }

-- 9, "trace slots fewer than the budget"
abbrev pub short_trace : (budget : ℕ) → (slots : List ℕ) → Bool
short_trace b slots = ltb (length slots) b

-- run a source table: "A run refused with 1 to 7 returns as with 9"; "Row numbers, steps, trace and limits are those of the chain" (02,
-- No. 1)
unfoldable pub run_source_call : (rows vars : List ℕ) → (budget : ℕ) → (slots : List ℕ) → Running
run_source_call rows vs b slots =
    running (and_then (given_verdict rows) (refuse_if_lem (short_trace b slots) ShortRoom)) (source_run (table_of (chain_bytes rows)) b vs) vs slots

-- 9, "or in a hardened run fewer than 1,024 counter words"
abbrev pub short_counters : (words : List ℕ) → Bool
short_counters words = ltb (length words) counter_words

-- "a hardened run's first 1,024 counter words are all 0 afterwards"
unfoldable pub zeros : ℕ → List ℕ
zeros n = replicate n 0

unfoldable pub counters_after : Verdict → (words : List ℕ) → List ℕ
counters_after Accepted words = over (zeros counter_words) words
counters_after (Refused r) words = words

pub record HardenedRunning : Type 0 where
  pub run : Running
  pub words : List ℕ

-- run a hardened table, with a jump before step k to the place: 10, then 9
unfoldable pub hardened_verdict : (lines : List ℕ) → (budget : ℕ) → (slots words : List ℕ) → Verdict
hardened_verdict lines b slots words =
    and_then (not_hardened lines) (refuse_if_lem (short_trace b slots || short_counters words) ShortRoom)

unfoldable pub run_hardened_call : (lines vars : List ℕ) → (budget k place : ℕ) → (slots words : List ℕ) → HardenedRunning
run_hardened_call lines vs b k place slots words =
    let v = hardened_verdict lines b slots words in
    record {
      run = running v (hardened_run (lines_in lines) (strike_by_lem k place) b vs) vs slots;
      words = counters_after v words;
    }
