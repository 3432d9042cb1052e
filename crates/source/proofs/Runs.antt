-- Runs of the code: what its loop keeps, and what it gives back. Assumes that the table is accepted, where it says so.
use mathlib.Core.Path.{◌≡◌, refl, sym, ap, ◌∙◌, subst}
use mathlib.Core.List.{List, ◌++◌}
use Prim.Native.Nat.{ℕ, zero, suc, ◌+◌, ◌-◌, ◌≤◌, ◌<◌}
use native.Mathlib.Numerals.{add-one}
use native.Mathlib.Omega.{arith}
use lib.ListN.{length, take, drop, take-append-drop}
use lib.Seq.{length-take-le}
use Rattle.rules.specs.declared.answer.Ran.{Ran}
use Rattle.rules.specs.Verdict.{Accepted}
use Rattle.rules.specs.declared.step.Step.TheVariants.{Went}
use Rattle.rules.specs.Row.{Table, table_of}
use Rattle.rules.specs.Check.{verdict_of}
use Rattle.rules.specs.Run.{on, ends, outcome_of_lem, run}
use Rattle.rules.specs.Run as Runs
use Rattle.rules.specs.Source.{source_step, source_run}
use Rattle.rules.specs.Calls.{over, running}
use Rattle.state.specs.declared.machine.Registers.{Registers}
use Rattle.state.specs.declared.machine.Machine.{Machine}
use Rattle.state.specs.declared.machine.Stopped.{Stopped}
use Rattle.state.specs.Machine.{stopped_at, registers_at, onward, first_registers, begun_at, ran_of}
use Rattle.state.proofs.Begun.{begins}
use Rattle.state.proofs.Ends.{IsEnd, onward-end}
use Rattle.source.specs.Goes.{Known}
use Rattle.source.specs.Step.{CanStep, Parts, After, step_of, parts_of}
use Rattle.source.specs.Run.{parts_in, stopped_with, parts_at, state_of, turn_of, answer_of, run_from, Going, Kept, Ended, ran_with}
use Rattle.source.proofs.Rows.{first-inside}
use Rattle.source.proofs.Steps.{Steps, steps}

-- ---- a run by what its first step answers
run_none : (t : Table) (b : ℕ) (p : Parts) → b ≤ 0 → run_from t b p ≡ answer_of (record { step = Went p.registers.at; parts = p })
unfolding run
run_none t zero p h = refl
run_none t (suc b) p h = absurd (let z : ⊥ = omega arith in z)

run-went : (t : Table) (p : Parts) (left : ℕ) → 0 < left → (a : After) → turn_of a ≡ source_step t (state_of p) → (i : ℕ) → a.step ≡ Went i
    → run_from t left p ≡ run_from t (left - 1) (parts_at a.parts i (p.registers.steps + 1))
unfolding run
run-went t p zero h a e i z = absurd (let q : ⊥ = omega arith in q)
run-went t p (suc b) h a e i z =
    let q : suc b - 1 ≡ b = omega arith in
    ap (λ u. Runs.after p.registers.steps u (λ s. run (λ k s. source_step t s) b (suc p.registers.steps) s)) (sym e)
    ∙ ap (λ o. Runs.after p.registers.steps (onward o (λ j. on (state_of (parts_at a.parts j 0))) (ends a.step (state_of a.parts))) (λ s. run (λ k s. source_step t s) b (suc p.registers.steps) s)) z
    ∙ ap (λ c. run (λ k s. source_step t s) c (suc p.registers.steps) (state_of (parts_at a.parts i 0))) (sym q)
    ∙ ap (λ c. run (λ k s. source_step t s) (suc b - 1) c (state_of (parts_at a.parts i 0))) (sym (add-one p.registers.steps))

-- a step that ends a run is counted too
abbrev counted_registers : Parts → After → Registers
counted_registers p a = registers_at a.parts.registers a.parts.registers.at (p.registers.steps + 1)

abbrev counted : Parts → After → After
counted p a = record { step = a.step; parts = parts_at a.parts a.parts.registers.at (p.registers.steps + 1) }

run-stops : (t : Table) (p : Parts) (left : ℕ) → 0 < left → (a : After) → turn_of a ≡ source_step t (state_of p) → IsEnd a.step
    → run_from t left p ≡ answer_of (counted p a)
unfolding run
run-stops t p zero h a e n = absurd (let q : ⊥ = omega arith in q)
run-stops t p (suc b) h a e n =
    ap (λ u. Runs.after p.registers.steps u (λ s. run (λ k s. source_step t s) b (suc p.registers.steps) s)) (sym e)
    ∙ ap (λ u. Runs.after p.registers.steps u (λ s. run (λ k s. source_step t s) b (suc p.registers.steps) s))
    (onward-end a.step n (λ j. on (state_of (parts_at a.parts j 0))) (ends a.step (state_of a.parts)))
    ∙ ap (λ c. record { step = a.step; steps = c; state = state_of a.parts }) (sym (add-one p.registers.steps))

-- ---- what the loop keeps
pub record Running (bs : List ℕ) (budget : ℕ) (start : Parts) (left : ℕ) (p : Parts) : Type 0 where
  pub going : Going bs left p
  pub same : run_from (table_of bs) budget start ≡ run_from (table_of bs) left p
  pub kept : Kept p.registers.traced start.slots p.slots
  pub longer : (more : ℕ) → run_from (table_of bs) (budget + more) start ≡ run_from (table_of bs) (left + more) p
  pub further : (more : ℕ) → Going bs (budget + more) start → Going bs (left + more) p

pub run-starts : {bs : List ℕ} {budget : ℕ} {start : Parts} → Going bs budget start → Running bs budget start budget start
run-starts g = record { going = g; same = refl; kept = record { in_slots = omega (arith, g.room); same_length = refl; same_rest = refl }; longer = λ more. refl; further = λ more x. x }

module _ {bs goes : List ℕ} (k : Known bs goes) {budget left : ℕ} {start p : Parts} (r : Running bs budget start left p) where
  pub can_step : 0 < left → CanStep bs p.registers p.slots
  can_step h =
      record {
        standing = record { accepted = k.accepted; here = r.going.fits.here };
        has_slot = record { slot = omega (arith, r.going.room); count = omega (arith, r.going.few, r.going.traced) };
        deep = r.going.fits.deep;
      }

  module _ (h : 0 < left) (a : After) (e : a ≡ step_of (table_of bs) p) where
    step_is : Steps bs p a (source_step (table_of bs) (state_of p))
    step_is = subst (λ x. Steps bs p x (source_step (table_of bs) (state_of p))) (sym e) (steps bs k.accepted p r.going.fits (omega (arith, r.going.room)))

    kept_on : Kept a.parts.registers.traced start.slots a.parts.slots
    kept_on = step_is.keeps start.slots r.kept

    going_on : (n i : ℕ) → 0 < n → Going bs n p → a.step ≡ Went i → Going bs (n - 1) (parts_at a.parts i (p.registers.steps + 1))
    going_on n i l g z =
        let s = step_is in
        record {
          fits = s.next i z;
          few = omega (arith, g.few);
          room = omega (arith, g.room, s.traced_more, kept_on.same_length, r.kept.same_length);
          traced = omega (arith, g.traced, s.traced_more);
        }

    pub run_again : (i : ℕ) → a.step ≡ Went i → Running bs budget start (left - 1) (parts_at a.parts i (p.registers.steps + 1))
    run_again i z =
        let s = step_is in
        record {
          going = going_on left i h r.going z;
          same = r.same ∙ run-went (table_of bs) p left h a s.turn i z;
          kept = record { in_slots = kept_on.in_slots; same_length = kept_on.same_length; same_rest = kept_on.same_rest };
          longer =
              λ more.
              r.longer more ∙ run-went (table_of bs) p (left + more) (omega arith) a s.turn i z
              ∙ ap (λ n. run_from (table_of bs) n (parts_at a.parts i (p.registers.steps + 1))) (let q : left + more - 1 ≡ left - 1 + more = omega arith in q);
          further =
              λ more g.
              subst (λ n. Going bs n (parts_at a.parts i (p.registers.steps + 1))) (let q : left + more - 1 ≡ left - 1 + more = omega arith in q)
              (going_on (left + more) i (omega arith) (r.further more g) z);
        }

    -- the same with the numbers made anew
    pub run_on : (i : ℕ) → a.step ≡ Went i → (n : Registers) → n ≡ counted_registers p a
        → Running bs budget start (left - 1) (parts_of n a.parts.resumes a.parts.functions a.parts.vars a.parts.slots)
    run_on i z n q =
        subst (λ y. Running bs budget start (left - 1) (parts_of y a.parts.resumes a.parts.functions a.parts.vars a.parts.slots))
        (sym (q ∙ ap (λ k. registers_at a.parts.registers k (p.registers.steps + 1)) (step_is.stands i z))) (run_again i z)

    pub run_ends : IsEnd a.step → (x : Stopped) → x ≡ stopped_at a.step a.parts.resumes a.parts.functions a.parts.vars (counted_registers p a)
        → Ended bs budget start (stopped_with x a.parts.slots)
    run_ends n x q =
        subst (λ y. Ended bs budget start (stopped_with y a.parts.slots)) (sym q)
        (record {
          answer_is = r.same ∙ run-stops (table_of bs) p left h a step_is.turn n;
          kept = record { in_slots = kept_on.in_slots; same_length = kept_on.same_length; same_rest = kept_on.same_rest };
          with_more =
              λ more.
              r.longer more ∙ run-stops (table_of bs) p (left + more) (omega arith) a step_is.turn n
              ∙ sym (onward-end a.step n (λ k. run_from (table_of bs) more (counted p a).parts) (answer_of (counted p a)));
          goes_on = λ more k g z. absurd (n k z);
        })

    pub run_ends_with : IsEnd a.step → (n : Registers) → n ≡ counted_registers p a → (x : Stopped)
        → x ≡ stopped_at a.step a.parts.resumes a.parts.functions a.parts.vars n
        → Ended bs budget start (stopped_with x a.parts.slots)
    run_ends_with e n m x q = run_ends e x (q ∙ ap (stopped_at a.step a.parts.resumes a.parts.functions a.parts.vars) m)

  pub run_spent : left ≤ 0 → (x : Stopped) → x ≡ stopped_at (Went p.registers.at) p.resumes p.functions p.vars p.registers
      → Ended bs budget start (stopped_with x p.slots)
  run_spent h x q =
      subst (λ y. Ended bs budget start (stopped_with y p.slots)) (sym q)
      (record {
        answer_is = r.same ∙ run_none (table_of bs) left p h;
        kept = record { in_slots = r.kept.in_slots; same_length = r.kept.same_length; same_rest = r.kept.same_rest };
        with_more = λ more. r.longer more ∙ ap (λ n. run_from (table_of bs) n p) (let q : left + more ≡ more = omega arith in q);
        goes_on = λ more k g z. subst (λ n. Going bs n p) (let q : left + more ≡ more = omega arith in q) (r.further more g);
      })

-- ---- the whole run
pub starts : {bs slots vs : List ℕ} {budget : ℕ} {m : Machine} → verdict_of bs ≡ Accepted → budget ≤ length slots → budget < 65536 → m ≡ begun_at 1 vs
    → Going bs budget (parts_in m slots)
starts {bs} {slots} {vs} {budget} {m} a h l b =
    subst (λ x. Going bs budget (parts_of x m.resumes m.functions m.variables slots)) (sym (begins b).registers_are)
    (record {
      fits = record {
        deep = omega arith;
        resumes_are = (begins b).resumes_are;
        functions_are = (begins b).functions_are;
        here = first-inside bs a;
        waiting = λ d x. absurd (let z : ⊥ = omega arith in z);
      };
      few = omega arith;
      room = omega arith;
      traced = omega arith;
    })

-- the run from there is the source's
first_run : (bs vs held : List ℕ) (budget : ℕ) (m : Machine) → m ≡ begun_at 1 vs → run_from (table_of bs) budget (parts_in m held) ≡ source_run (table_of bs) budget vs
first_run bs vs held budget m b =
    ap (λ x. run_from (table_of bs) budget (parts_of x m.resumes m.functions m.variables held)) (begins b).registers_are
    ∙ ap (λ x. run_from (table_of bs) budget (parts_of (first_registers 1) m.resumes m.functions x held)) (begins b).vars_are

pub answers : (bs slots vs held : List ℕ) (budget : ℕ) (m : Machine) (x : Stopped) (r : Ran) → m ≡ begun_at 1 vs → Ended bs budget (parts_in m held) (stopped_with x slots) → r ≡ ran_of x
    → ran_with r slots ≡ running Accepted (source_run (table_of bs) budget vs) vs held
unfolding running
answers bs slots vs held budget m x r b e q =
    let n = x.machine.registers.traced in
    let l : length (take n slots) ≡ n = length-take-le n slots e.kept.in_slots in
    let w : slots ≡ over (take n slots) held
    = sym (take-append-drop n slots) ∙ ap (λ y. take n slots ++ y) e.kept.same_rest ∙ ap (λ y. take n slots ++ drop y held) (sym l) in
    ap (λ y. ran_with y slots) q
    ∙ ap (λ y. ran_with (record { number = 0; outcome = outcome_of_lem x.step; steps = x.machine.registers.steps; traced = y; variables = x.machine.variables }) slots) (sym l)
    ∙ ap (λ y. ran_with (record { number = 0; outcome = outcome_of_lem x.step; steps = x.machine.registers.steps; traced = length (take n slots); variables = x.machine.variables }) y) w
    ∙ sym (ap (λ y. running Accepted y vs held) (sym (first_run bs vs held budget m b) ∙ e.answer_is))
