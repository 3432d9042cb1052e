-- What demand 3 compares: what a run shows, the matching step, and what lies between two places (01, "Running" and "The hardened
-- lines").
use Rattle.std.specs.Prelude.{ℕ, zero, suc, ◌+◌, ◌-◌, Bool, true, false, not, ◌&&◌, ◌||◌, List, eqb}
use Rattle.rules.specs.Strike.{Strike, None}
use Rattle.rules.specs.declared.kind.Kind.{Kind}
use Rattle.rules.specs.declared.kind.Kind.TheVariants.{Function, Do, If, Else, Loop, End, Break, Continue, Call, Unknown}
use Rattle.rules.specs.Row.{Table, kind_at}
use Rattle.rules.specs.Check.{is_call}
use Rattle.rules.specs.Line.{Line, do_line, tick_line, test_line, leave_line, out_line, call_line, back_line, ret_line, line_at, is_guard}
use Rattle.rules.specs.Function.{finish_of}
use Rattle.rules.specs.State.{State, open_functions}
use Rattle.rules.specs.Run.{Turn, on, ends, untaken, Answer, outcome_of_lem, tally}
use Rattle.rules.specs.Source.{source_step, source_start}
use Rattle.rules.specs.Form.{Form, struck, striking_step_of, start_by, run_of}

-- what demand 3 compares of a hardened and a source run
pub record Shown : Type 0 where
  pub outcome : ℕ
  pub trace : List ℕ
  pub variables : List ℕ
  pub functions : List ℕ

abbrev pub shown : {C : Type 0} → Answer C → Shown
shown a =
    record {
      outcome = outcome_of_lem a.step;
      trace = a.state.trace;
      variables = a.state.vars;
      functions = open_functions a.state;
    }

-- the step that this state takes is a tick or a back
abbrev pub is_quiet : Line → Bool
is_quiet (do_line o e) = false
is_quiet (tick_line r e a) = true
is_quiet (test_line o r s t e a b c go) = false
is_quiet (leave_line r s e a b go) = false
is_quiet (out_line r s t e a go) = false
is_quiet (call_line r e a b go) = false
is_quiet (back_line r e a b) = true
is_quiet (ret_line e a) = false

unfoldable pub quiet_at_lem : {H : Type 0} → List Line → State H → Bool
quiet_at_lem ls s =
    not (eqb s.running.at (finish_of ls s.running.function)) && is_quiet (line_at ls s.running.at)

-- what a strike comes to is such a state
abbrev pub quiet_on : {H : Type 0} → List Line → Turn H → Bool
quiet_on ls (on s) = quiet_at_lem ls s
quiet_on ls (ends o s) = false
quiet_on ls (untaken o s) = false

-- step k is a tick or a back, where this strikes the run: the step struck is that of the place which it lands at
abbrev pub quiet_step : {H : Type 0} → List Line → Strike → (k : ℕ) → State H → Bool
quiet_step ls x k s = quiet_on ls (struck ls x k s)

-- the ticks and backs done
unfoldable pub quiet_done : {H : Type 0} → Form H → List Line → Strike → (budget : ℕ) → (vars : List ℕ) → ℕ
quiet_done F ls x b vs = tally (quiet_step ls x) (striking_step_of F ls x) b 0 (start_by F vs)

-- "Matching step: hardened steps less the ticks and backs done."
unfoldable pub matching_of : {H : Type 0} → Form H → List Line → Strike → (budget : ℕ) → (vars : List ℕ) → ℕ
matching_of F ls x b vs = (run_of F ls x b vs).steps - quiet_done F ls x b vs

abbrev pub matching : {H : Type 0} → Form H → List Line → (budget : ℕ) → (vars : List ℕ) → ℕ
matching F ls b vs = matching_of F ls None b vs

-- "a source run that finishes in n steps with t dos and c calls": those among its first b steps
abbrev pub is_do_lem : Kind → Bool
is_do_lem Function = false
is_do_lem Do = true
is_do_lem If = false
is_do_lem Else = false
is_do_lem Loop = false
is_do_lem End = false
is_do_lem Break = false
is_do_lem Continue = false
is_do_lem Call = false
is_do_lem Unknown = false

unfoldable pub dos_in_lem : Table → (b : ℕ) → (vars : List ℕ) → ℕ
dos_in_lem t b vs = tally (λ k s. is_do_lem (kind_at t s.running.at)) (λ k s. source_step t s) b 0 (source_start vs)

unfoldable pub calls_in : Table → (b : ℕ) → (vars : List ℕ) → ℕ
calls_in t b vs = tally (λ k s. is_call (kind_at t s.running.at)) (λ k s. source_step t s) b 0 (source_start vs)

-- the steps of the hardened run that finishes as that source run does
abbrev pub hardened_steps_lem : (steps dos calls : ℕ) → ℕ
hardened_steps_lem n t c = n + t + c

-- one of the d lines from line k on is a guard
unfoldable pub guard_from_lem : List Line → (k d : ℕ) → Bool
guard_from_lem ls k zero = false
guard_from_lem ls k (suc d) = is_guard (line_at ls k) || guard_from_lem ls (suc k) d

-- "A guard is between two places if one of the lines from the lower place to just below the higher is a guard; a jump between
-- such places is wide." The places are given as line numbers of the table; one of the two differences is 0.
abbrev pub guard_between : List Line → (x y : ℕ) → Bool
guard_between ls x y = guard_from_lem ls x (y - x) || guard_from_lem ls y (x - y)
