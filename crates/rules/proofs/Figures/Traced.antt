-- A source run's dos are the rows of its trace. Assumes nothing.
use mathlib.Core.Path.{◌≡◌, refl, ◌∙◌}
use mathlib.Core.Bool.{Bool, true, false, cond}
use mathlib.Core.List.{List, [], ◌∷◌}
use Prim.Native.Nat.{ℕ, zero, suc, ◌+◌}
use native.Mathlib.Omega.{arith}
use lib.Dec.{ltb}
use lib.ListN.{length, length-append}
use Rattle.rules.specs.declared.kind.Kind.{Kind}
use Rattle.rules.specs.declared.kind.Kind.TheVariants.{Function, Do, If, Else, Loop, End, Break, Continue, Call, Unknown}
use Rattle.rules.specs.declared.step.Step.TheVariants.{TooManyOpen, Overflow}
use Rattle.rules.specs.Limits.{max_open}
use Rattle.rules.specs.Row.{Table, kind_at, operands_at}
use Rattle.rules.specs.Scan.{Part, body, then_part, else_part, loop_body, Open, open_at, part_of, function_row}
use Rattle.rules.specs.Variables.{variable, overflows}
use Rattle.rules.specs.State.{Frame, did, opening, depth}
use Rattle.rules.specs.Run.{Turn, on, ends, untaken, next, after, run, if_done, tally}
use Rattle.rules.specs.Source.{Source, to_row, return_row, end_row_lem, call_row, row_step, source_step, source_start, source_run}
use Rattle.rules.specs.Match.{is_do_lem, dos_in_lem}
use Rattle.rules.proofs.Logic.{cond_either}

-- ---- "The trace is the do row numbers in order": a step adds a row to it where it is a do
abbrev Traced : (n more : ℕ) → Turn (Unit {0}) → Type 0
Traced n d (on s) = length s.trace ≡ n + d
Traced n d (ends o s) = length s.trace ≡ n
Traced n d (untaken o s) = length s.trace ≡ n

return-traced : (s : Source) (fs : List (Frame (Unit {0}))) → Traced (length s.trace) 0 (return_row s fs)
return-traced s [] = refl
return-traced s (f ∷ fs) = omega arith

end-traced : (i : ℕ) (fs : List Open) (p : Part) (s : Source) → Traced (length s.trace) 0 (end_row_lem i fs p s)
end-traced i fs body s = return-traced s s.callers
end-traced i fs then_part s = omega arith
end-traced i fs else_part s = omega arith
end-traced i fs loop_body s = omega arith

call-traced : (t : Table) (i n : ℕ) (s : Source) → Traced (length s.trace) 0 (call_row t i n s)
call-traced t i n s =
    cond_either (Traced (length s.trace) 0) (ltb (depth s) max_open) (on (opening n (suc (function_row t n)) tt (to_row (suc i) s)))
    (ends (TooManyOpen max_open) s) (omega arith) refl

do-traced : (i v : ℕ) (y : Bool) (s d : Source) → length d.trace ≡ length s.trace + 1
    → Traced (length s.trace) 1 (next (cond y (ends (Overflow i v) s) (on d)) (λ x. on (to_row (suc i) x)))
do-traced i v true s d q = refl
do-traced i v false s d q = q

row-traced : (t : Table) (i : ℕ) (fs : List Open) (k : Kind) (s : Source) → Traced (length s.trace) (cond (is_do_lem k) 1 0) (row_step t i fs k s)
unfolding row_step
row-traced t i fs Function s = omega arith
row-traced t i fs Do s = do-traced i (variable s.vars (operands_at t i).p) (overflows (operands_at t i) s.vars) s (did (operands_at t i) i s) (length-append s.trace (i ∷ []))
row-traced t i fs If s = omega arith
row-traced t i fs Else s = omega arith
row-traced t i fs Loop s = omega arith
row-traced t i fs End s = end-traced i fs (part_of fs) s
row-traced t i fs Break s = omega arith
row-traced t i fs Continue s = omega arith
row-traced t i fs Call s = call-traced t i (operands_at t i).n s
row-traced t i fs Unknown s = omega arith

-- the dos of the first b steps, and what they add to the trace
is_do_at : Table → (k : ℕ) → Source → Bool
is_do_at t k s = is_do_lem (kind_at t s.running.at)

traced-by : (t : Table) (b k n d : ℕ) (u : Turn (Unit {0})) → Traced n d u
    → ((s : Source) → length (run (λ k s. source_step t s) b (suc k) s).state.trace ≡ length s.trace + tally (is_do_at t) (λ k s. source_step t s) b (suc k) s)
    → length (after k u (λ s. run (λ k s. source_step t s) b (suc k) s)).state.trace
    ≡ n + if_done u (λ s. d + tally (is_do_at t) (λ k s. source_step t s) b (suc k) s)
traced-by t b k n d (on s) p ih = omega (arith, p, ih s)
traced-by t b k n d (ends o s) p ih = omega (arith, p)
traced-by t b k n d (untaken o s) p ih = omega (arith, p)

traced : (t : Table) (b k : ℕ) (s : Source)
    → length (run (λ k s. source_step t s) b k s).state.trace ≡ length s.trace + tally (is_do_at t) (λ k s. source_step t s) b k s
unfolding run tally source_step is_do_at
traced t zero k s = omega arith
traced t (suc b) k s =
    let i = s.running.at in
    traced-by t b k (length s.trace) (cond (is_do_lem (kind_at t i)) 1 0) (source_step t s) (row-traced t i (open_at t i) (kind_at t i) s)
    (λ s'. traced t b (suc k) s')

pub dos-traced : (t : Table) (b : ℕ) (vs : List ℕ) → length (source_run t b vs).state.trace ≡ dos_in_lem t b vs
unfolding dos_in_lem is_do_at
dos-traced t b vs = traced t b 0 (source_start vs) ∙ omega arith
