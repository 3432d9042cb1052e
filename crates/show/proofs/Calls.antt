-- The calls of a source run, by its first step. Assumes nothing.
use mathlib.Core.Path.{◌≡◌, refl, sym, ap, ◌∙◌}
use mathlib.Core.Bool.{Bool, true, false, cond}
use mathlib.Core.List.{List, [], ◌∷◌}
use Prim.Native.Nat.{ℕ, zero, suc, ◌+◌, ◌-◌, ◌≤◌, ◌<◌}
use native.Mathlib.Omega.{arith}
use lib.Dec.{ltb}
use Rattle.rules.specs.declared.kind.Kind.{Kind}
use Rattle.rules.specs.declared.kind.Kind.TheVariants.{Function, Do, If, Else, Loop, End, Break, Continue, Call, Unknown}
use Rattle.rules.specs.declared.step.Step.TheVariants.{Went, TooManyOpen, Overflow}
use Rattle.rules.specs.Limits.{max_open}
use Rattle.rules.specs.Row.{Table, table_of, kind_at, operands_at}
use Rattle.rules.specs.Scan.{Part, body, then_part, else_part, loop_body, Open, open_at, part_of, function_row}
use Rattle.rules.specs.Check.{is_call}
use Rattle.rules.specs.Variables.{variable, overflows}
use Rattle.rules.specs.State.{Frame, did, opening, depth}
use Rattle.rules.specs.Run.{Turn, on, ends, untaken, next, after, run, if_done, tally}
use Rattle.rules.specs.Source.{Source, to_row, return_row, end_row_lem, call_row, row_step, source_step}
use Rattle.rules.specs.Match.{calls_in}
use Rattle.rules.proofs.Logic.{cond_either}
use Rattle.state.specs.declared.machine.Machine.{Machine}
use Rattle.state.specs.Machine.{first_registers, begun_at}
use Rattle.state.proofs.Begun.{begins}
use Rattle.state.proofs.Ends.{IsEnd, finished-ends, too-many-ends, overflow-ends}
use Rattle.source.specs.Step.{Parts, After, parts_of}
use Rattle.source.specs.Run.{parts_in, state_of, answer_of, run_from}
use Rattle.show.specs.Calls.{call_at, calls_from}

-- ---- a row that ends a run does not say that it went on
abbrev Settled : Turn (Unit {0}) → Type 0
Settled (on s) = Unit {0}
Settled (ends o s) = IsEnd o
Settled (untaken o s) = IsEnd o

return-settled : (s : Source) (fs : List (Frame (Unit {0}))) → Settled (return_row s fs)
return-settled s [] = finished-ends
return-settled s (f ∷ fs) = tt

end-settled : (i : ℕ) (fs : List Open) (p : Part) (s : Source) → Settled (end_row_lem i fs p s)
end-settled i fs body s = return-settled s s.callers
end-settled i fs then_part s = tt
end-settled i fs else_part s = tt
end-settled i fs loop_body s = tt

call_settled : (t : Table) (i n : ℕ) (s : Source) → Settled (call_row t i n s)
call_settled t i n s =
    cond_either Settled (ltb (depth s) max_open) (on (opening n (suc (function_row t n)) tt (to_row (suc i) s))) (ends (TooManyOpen max_open) s) tt
    (too-many-ends max_open)

do-settled : (i v : ℕ) (x : Bool) (s d : Source) → Settled (next (cond x (ends (Overflow i v) s) (on d)) (λ y. on (to_row (suc i) y)))
do-settled i v true s d = overflow-ends i v
do-settled i v false s d = tt

row_settled : (t : Table) (i : ℕ) (fs : List Open) (k : Kind) (s : Source) → Settled (row_step t i fs k s)
unfolding row_step
row_settled t i fs Function s = tt
row_settled t i fs Do s = do-settled i (variable s.vars (operands_at t i).p) (overflows (operands_at t i) s.vars) s (did (operands_at t i) i s)
row_settled t i fs If s = tt
row_settled t i fs Else s = tt
row_settled t i fs Loop s = tt
row_settled t i fs End s = end-settled i fs (part_of fs) s
row_settled t i fs Break s = tt
row_settled t i fs Continue s = tt
row_settled t i fs Call s = call_settled t i (operands_at t i).n s
row_settled t i fs Unknown s = tt

step-settled : (t : Table) (s : Source) → Settled (source_step t s)
unfolding source_step
step-settled t s = row_settled t s.running.at (open_at t s.running.at) (kind_at t s.running.at) s

-- ---- by what a run of one step came to
module _ (k : ℕ) (a : After) where
  went-by : (u : Turn (Unit {0})) → Settled u → after k u (λ s. record { step = Went s.running.at; steps = suc k; state = s }) ≡ answer_of a → (i : ℕ) → a.step ≡ Went i
      → (f : ℕ → Source → ℕ) → if_done u (f (suc k)) ≡ f a.parts.registers.steps (state_of a.parts)
  went-by (on s) z e i q f = ap (λ x. f x.steps x.state) e
  went-by (ends o s) z e i q f = absurd (z i (ap (λ x. x.step) e ∙ q))
  went-by (untaken o s) z e i q f = absurd (z i (ap (λ x. x.step) e ∙ q))

  end_by : (u : Turn (Unit {0})) → after k u (λ s. record { step = Went s.running.at; steps = suc k; state = s }) ≡ answer_of a → IsEnd a.step
      → (f : Source → ℕ) → if_done u f ≡ 0
  end_by (on s) e n f = absurd (n s.running.at (sym (ap (λ x. x.step) e)))
  end_by (ends o s) e n f = refl
  end_by (untaken o s) e n f = refl

module _ (t : Table) (p : Parts) (a : After) (e : run_from t 1 p ≡ answer_of a) where
  pub calls-went : (i : ℕ) → a.step ≡ Went i → (left : ℕ) → 0 < left → calls_from t left p ≡ call_at t p.registers.at + calls_from t (left - 1) a.parts
  unfolding run tally
  calls-went i q zero h = absurd (let z : ⊥ = omega arith in z)
  calls-went i q (suc b) h =
      let less : suc b - 1 ≡ b = omega arith in
      went-by p.registers.steps a (source_step t (state_of p)) (step-settled t (state_of p)) e i q
      (λ k s. call_at t p.registers.at + tally (λ k s. is_call (kind_at t s.running.at)) (λ k s. source_step t s) b k s)
      ∙ ap (λ n. call_at t p.registers.at + calls_from t n a.parts) (sym less)

  pub calls-end : IsEnd a.step → (left : ℕ) → calls_from t left p ≡ 0
  unfolding run tally
  calls-end n zero = refl
  calls-end n (suc b) =
      end_by p.registers.steps a (source_step t (state_of p)) e n
      (λ s. call_at t p.registers.at + tally (λ k s. is_call (kind_at t s.running.at)) (λ k s. source_step t s) b (suc p.registers.steps) s)

pub calls-none : (t : Table) (left : ℕ) (p : Parts) → left ≤ 0 → calls_from t left p ≡ 0
unfolding tally
calls-none t zero p h = refl
calls-none t (suc b) p h = absurd (let z : ⊥ = omega arith in z)

pub few-calls : (t : Table) (i : ℕ) → call_at t i ≤ 1
few-calls t i = by (is_call (kind_at t i))
  where
    by : (b : Bool) → cond b 1 0 ≤ 1
    by true = omega arith
    by false = omega arith

-- ---- a row as the code reads it
module _ (t : Table) {i at : ℕ} {k : Kind} {b : Bool} (at_is : i ≡ at) (kind_is : k ≡ kind_at t i) (test-is : b ≡ is_call k) where
  read_as : (x : Bool) → b ≡ x → cond x 1 0 ≡ call_at t at
  read_as x e = ap (λ y. cond y 1 0) (sym e ∙ test-is ∙ ap is_call (kind_is ∙ ap (kind_at t) at_is))

  pub read-call : b ≡ true → 1 ≡ call_at t at
  read-call e = read_as true e

  pub read-other : b ≡ false → 0 ≡ call_at t at
  read-other e = read_as false e

-- ---- those of the whole run
pub calls-first : (bs vs held : List ℕ) (budget : ℕ) (m : Machine) → m ≡ begun_at 1 vs → calls_from (table_of bs) budget (parts_in m held) ≡ calls_in (table_of bs) budget vs
unfolding calls_in
calls-first bs vs held budget m b =
    ap (λ x. calls_from (table_of bs) budget (parts_of x m.resumes m.functions m.variables held)) (begins b).registers_are
    ∙ ap (λ x. calls_from (table_of bs) budget (parts_of (first_registers 1) m.resumes m.functions x held)) (begins b).vars_are
