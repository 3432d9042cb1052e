-- The source machine: a run of a source table, row by row (01, "Running").
use Rattle.std.specs.Prelude.{ℕ, suc, cond, List, [], ◌∷◌, ltb}
use Rattle.rules.specs.declared.kind.Kind.{Kind}
use Rattle.rules.specs.declared.kind.Kind.TheVariants.{Function, Do, If, Else, Loop, End, Break, Continue, Call, Unknown}
use Rattle.rules.specs.declared.step.Step.TheVariants.{Finished, TooManyOpen}
use Rattle.rules.specs.Limits.{max_open}
use Rattle.rules.specs.Row.{Table, kind_at, operands_at}
use Rattle.rules.specs.Scan.{Part, body, then_part, else_part, loop_body, Open, open_at, part_of, opener_of, from_loop, end_of, else_of, has_else, function_row}
use Rattle.rules.specs.Variables.{holds_on}
use Rattle.rules.specs.State.{Frame, State, begin, go_to, opening, returning, depth}
use Rattle.rules.specs.Run.{Turn, on, ends, next, doing, Answer, run}

-- a source run's functions have nothing of their own
abbrev pub Source : Type 0
Source = State (Unit {0})

abbrev pub to_row : (i : ℕ) → Source → Source
to_row i s = go_to i tt s

-- "A false test goes to the first row of the else part, or past the end where there is none"
unfoldable pub false_row : Table → (i : ℕ) → ℕ
false_row t i = cond (has_else t i) (suc (else_of t i)) (suc (end_of t i))

-- "that end to the row after the call, or finishes when one function is open"; the row kept for a caller is the one after its call
abbrev pub return_row : Source → List (Frame (Unit {0})) → Turn (Unit {0})
return_row s [] = ends Finished s
return_row s (f ∷ fs) = on (returning f fs s)

-- "continue and the loop's end go to its test"
abbrev pub end_row_lem : (i : ℕ) → List Open → Part → Source → Turn (Unit {0})
end_row_lem i fs body s = return_row s s.callers
end_row_lem i fs then_part s = on (to_row (suc i) s)
end_row_lem i fs else_part s = on (to_row (suc i) s)
end_row_lem i fs loop_body s = on (to_row (opener_of fs) s)

-- "a call goes to the row after its function's 01"; the call that is one too many is not made
abbrev pub call_row : Table → (i n : ℕ) → Source → Turn (Unit {0})
call_row t i n s =
    cond (ltb (depth s) max_open) (on (opening n (suc (function_row t n)) tt (to_row (suc i) s)))
    (ends (TooManyOpen max_open) s)

-- Row i, where the parts fs are open. "break goes past the loop's end"; "an else row reached from the then part goes past its
-- end". A function row, or a row of no kind, is never reached.
unfoldable pub row_step : Table → (i : ℕ) → List Open → Kind → Source → Turn (Unit {0})
row_step t i fs Function s = on (to_row (suc i) s)
row_step t i fs Do s = next (doing (operands_at t i) i s) (λ s'. on (to_row (suc i) s'))
row_step t i fs If s = on (to_row (cond (holds_on (operands_at t i) s.vars) (suc i) (false_row t i)) s)
row_step t i fs Else s = on (to_row (suc (end_of t (opener_of fs))) s)
row_step t i fs Loop s = on (to_row (cond (holds_on (operands_at t i) s.vars) (suc i) (suc (end_of t i))) s)
row_step t i fs End s = end_row_lem i fs (part_of fs) s
row_step t i fs Break s = on (to_row (suc (end_of t (opener_of (from_loop fs)))) s)
row_step t i fs Continue s = on (to_row (opener_of (from_loop fs)) s)
row_step t i fs Call s = call_row t i (operands_at t i).n s
row_step t i fs Unknown s = on (to_row (suc i) s)

-- "Each row reached is one step, as is the end row of a function"
unfoldable pub source_step : Table → Source → Turn (Unit {0})
source_step t s = row_step t s.running.at (open_at t s.running.at) (kind_at t s.running.at) s

-- "A source run starts at the row after row 0."
abbrev pub source_start : (vars : List ℕ) → Source
source_start vs = begin 1 tt tt vs

abbrev pub source_run : Table → (budget : ℕ) → (vars : List ℕ) → Answer (Unit {0})
source_run t b vs = run (λ k s. source_step t s) b 0 (source_start vs)
