-- The machine that every form of hardened lines runs on, line by line, over its lines alone (01, "The hardened lines" and "Running"). The
-- forms differ only in what an open function keeps for the checks, and in what a guard compares and changes: `Form`.
use Rattle.std.specs.Prelude.{ℕ, suc, ◌+◌, Bool, true, false, cond, List, [], ◌∷◌, eqb, ltb, leb}
use Rattle.rules.specs.declared.step.Step.TheVariants.{Finished, Alarm, TooManyOpen, Beyond}
use Rattle.rules.specs.Strike.{Strike, None, Jump}
use Rattle.rules.specs.Limits.{max_open, no_step}
use Rattle.rules.specs.Variables.{holds_on}
use Rattle.rules.specs.State.{Frame, State, begin, go_to, opening, returning, depth}
use Rattle.rules.specs.Run.{Turn, on, ends, untaken, next, doing, Answer, run}
use Rattle.rules.specs.Line.{Line, do_line, tick_line, test_line, leave_line, out_line, call_line, back_line, ret_line, line_at}
use Rattle.rules.specs.Function.{function_at, start_of, finish_of, last_place}

-- What a line does with what functions keep, H.
pub record Guard (H : Type 0) : Type 0 where
  -- whether it passes, by what the running function keeps and what the function that returned last had kept; else alarm
  pub passes : (own last : H) → Bool
  -- what the running function keeps then: on the only way, or a test's true way (true), or its false way (false)
  pub moves : (way : Bool) → H → H
  -- what a callee opens with
  pub opens : H

pub record Form (H : Type 0) : Type 0 where
  -- what line k does; the machine does not ask it of a do
  pub guard : (k : ℕ) → Line → Guard H
  -- whether the host finds that function 0 has ended; else alarm
  pub ended : H → Bool
  -- what function 0 opens with
  pub first : H
  -- what the function that returned last is taken to have kept where none has returned
  pub nothing : H

-- the same function goes on at line k, what it keeps changed
abbrev pub moved : {H : Type 0} → (k : ℕ) → (H → H) → State H → Turn H
moved k change s = on (go_to k (change s.running.own) s)

-- "else alarm"
abbrev pub must : {H : Type 0} → Bool → State H → Turn H → Turn H
must true s t = t
must false s t = ends Alarm s

abbrev pub guarded : {H : Type 0} → Guard H → State H → Turn H → Turn H
guarded g s t = must (g.passes s.running.own s.last) s t

-- A return, from a ret or from place m. "When function 0 returns as the only open one, the host compares .. else alarm."
abbrev pub leaves_of : {H : Type 0} → Form H → State H → List (Frame H) → Turn H
leaves_of F s [] = must (F.ended s.running.own) s (ends Finished s)
leaves_of F s (f ∷ fs) = on (returning f fs s)

-- The column "Step" of 01's table of lines: what line k does, where g is what it compares and changes.
unfoldable pub turn_by : {H : Type 0} → Form H → List Line → (k : ℕ) → Line → Guard H → State H → Turn H
-- 21 do: "does it, next line"
turn_by F ls k (do_line o e) g now = next (doing o e now) (λ s. moved (suc k) (λ x. x) s)
-- 22 tick: the next line
turn_by F ls k (tick_line r e a) g now = guarded g now (moved (suc k) (g.moves true) now)
-- 23 test: "check, then the test. True: .. next line. False: .. go"
turn_by F ls k (test_line o r s t e a b c go) g now =
    guarded g now (cond (holds_on o now.vars) (moved (suc k) (g.moves true) now) (moved go (g.moves false) now))
-- 24 leave: ".. go"
turn_by F ls k (leave_line r s e a b go) g now = guarded g now (moved go (g.moves true) now)
-- 25 out: ".. go"
turn_by F ls k (out_line r s t e a go) g now = guarded g now (moved go (g.moves true) now)
-- 26 call: "check; then outcome 3 if 16 functions are open; .. callee opens .. go to its first line". The call that is one too many is
-- not made.
turn_by F ls k (call_line r e a b go) g now =
    guarded g now
    (cond (ltb (depth now) max_open)
    (on (opening (function_at ls go) go g.opens (go_to (suc k) (g.moves true now.running.own) now)))
    (ends (TooManyOpen max_open) now))
-- 27 back: the next line
turn_by F ls k (back_line r e a b) g now = guarded g now (moved (suc k) (g.moves true) now)
-- 28 ret: ".. return"
turn_by F ls k (ret_line e a) g now = guarded g now (leaves_of F (go_to k (g.moves true now.running.own) now) now.callers)

abbrev pub line_step_of : {H : Type 0} → Form H → List Line → (k : ℕ) → Line → State H → Turn H
line_step_of F ls k l now = turn_by F ls k l (F.guard k l) now

-- "A hardened run does one line, or one return from place m, per step."
unfoldable pub step_of : {H : Type 0} → Form H → List Line → State H → Turn H
step_of F ls s =
    let k = s.running.at in
    cond (eqb k (finish_of ls s.running.function)) (leaves_of F s s.callers) (line_step_of F ls k (line_at ls k) s)

-- What may strike a run. "A jump .. is a step number k and a place: before step k (from 0) the running function goes to that
-- place. k = 65,535 is no jump"
abbrev pub strike_by_lem : (k place : ℕ) → Strike
strike_by_lem k p = cond (eqb k no_step) None (Jump k p)

-- "place i is before line i": the line of the running function's place, as a line number of the table
abbrev pub place_line : {H : Type 0} → List Line → (place : ℕ) → State H → ℕ
place_line ls p s = start_of ls s.running.function + p

abbrev pub land : {H : Type 0} → List Line → (place : ℕ) → State H → Turn H
land ls p s =
    let m = last_place ls s.running.function in
    cond (leb p m) (on (go_to (place_line ls p s) s.running.own s)) (untaken (Beyond m) s)

abbrev pub struck : {H : Type 0} → List Line → Strike → (k : ℕ) → State H → Turn H
struck ls None k s = on s
struck ls (Jump j p) k s = cond (eqb j k) (land ls p s) (on s)

-- step k of a run that this strikes
abbrev pub striking_step_of : {H : Type 0} → Form H → List Line → Strike → (k : ℕ) → State H → Turn H
striking_step_of F ls j k s = next (struck ls j k s) (step_of F ls)

-- "A hardened run opens function 0 at line 0"
abbrev pub start_by : {H : Type 0} → Form H → (vars : List ℕ) → State H
start_by F vs = begin 0 F.first F.nothing vs

abbrev pub run_of : {H : Type 0} → Form H → List Line → Strike → (budget : ℕ) → (vars : List ℕ) → Answer H
run_of F ls j b vs = run (striking_step_of F ls j) b 0 (start_by F vs)
