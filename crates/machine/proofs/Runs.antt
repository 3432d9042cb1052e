-- Runs of the code: what its loop keeps, and that a run of the code agrees with a run of the hardened machine. Assumes a hardened table.
use mathlib.Core.Path.{◌≡◌, refl, sym, ap, ◌∙◌, subst}
use mathlib.Core.List.{List}
use Prim.Native.Nat.{ℕ, zero, suc, ◌+◌, ◌-◌, ◌≤◌, ◌<◌}
use native.Mathlib.Omega.{arith}
use lib.ListN.{length}
use Rattle.rules.specs.Strike.{None}
use Rattle.rules.specs.declared.step.Step.TheVariants.{Went}
use Rattle.rules.specs.Line.{Line, lines_in}
use Rattle.rules.specs.Run.{Turn, on, ends, untaken, Answer, after, run}
use Rattle.rules.specs.Hardened.{Counters, Hardened, hardened_step, striking_step}
use Rattle.state.specs.declared.machine.Registers.{Registers}
use Rattle.machine.specs.Ready.{CanStep}
use Rattle.machine.specs.Step.{Map, Parts, parts_of, After, step_of}
use Rattle.state.specs.Machine.{registers_at, onward}
use Rattle.machine.specs.Run.{parts_at, stops_after, run_of}
use Rattle.machine.specs.Stands.{Ready, Traced, Stands, Going}
use Rattle.machine.proofs.Agree.{GoesOn, Agrees}
use Rattle.state.proofs.Ends.{IsEnd, went-same, onward-end}
use Rattle.machine.proofs.Steps.{can_step, step_agrees}

-- ---- a run by what its first step answers
pub run_none : (bs : List ℕ) (m : Map) (b : ℕ) (p : Parts) → b ≤ 0 → record { step = Went p.registers.at; parts = p } ≡ run_of bs m b p
unfolding run_of
run_none bs m zero p h = refl
run_none bs m (suc b) p h = absurd (let z : ⊥ = omega arith in z)

pub run-went : (bs : List ℕ) (m : Map) (p : Parts) (left : ℕ) → 0 < left → (a : After) → a ≡ step_of bs m p → (k : ℕ) → a.step ≡ Went k
    → run_of bs m left p ≡ run_of bs m (left - 1) (parts_at a.parts k (p.registers.steps + 1))
unfolding run_of
run-went bs m p zero h a e k z = absurd (let q : ⊥ = omega arith in q)
run-went bs m p (suc b) h a e k z =
    let q : suc b - 1 ≡ b = omega arith in
    ap (λ x. onward x.step (λ j. run_of bs m b (parts_at x.parts j (p.registers.steps + 1))) (stops_after (p.registers.steps + 1) x)) (sym e)
    ∙ ap (λ o. onward o (λ j. run_of bs m b (parts_at a.parts j (p.registers.steps + 1))) (stops_after (p.registers.steps + 1) a)) z
    ∙ ap (λ c. run_of bs m c (parts_at a.parts k (p.registers.steps + 1))) (sym q)

pub run-stops : (bs : List ℕ) (m : Map) (p : Parts) (left : ℕ) → 0 < left → (a : After) → a ≡ step_of bs m p → IsEnd a.step
    → stops_after (p.registers.steps + 1) a ≡ run_of bs m left p
unfolding run_of
run-stops bs m p zero h a e n = absurd (let q : ⊥ = omega arith in q)
run-stops bs m p (suc b) h a e n =
    sym (onward-end a.step n (λ j. run_of bs m b (parts_at a.parts j (p.registers.steps + 1))) (stops_after (p.registers.steps + 1) a))
    ∙ ap (λ x. onward x.step (λ j. run_of bs m b (parts_at x.parts j (p.registers.steps + 1))) (stops_after (p.registers.steps + 1) x)) e

-- ---- what the loop keeps
pub record Running (bs : List ℕ) (m : Map) (budget : ℕ) (start : Parts) (left : ℕ) (p : Parts) : Type 0 where
  pub going : Going (lines_in bs) left p
  pub same : run_of bs m budget start ≡ run_of bs m left p
  pub words_long : length p.words ≡ length start.words
  pub slots_long : length p.slots ≡ length start.slots

pub going_steps : (bs : List ℕ) (m : Map) → Ready bs m → (left : ℕ) (p : Parts) → Going (lines_in bs) left p → 0 < left → CanStep bs m.starts p.registers p.words p.slots
going_steps bs m rd left p g h =
    can_step bs m rd g.held p g.state g.stands (omega (arith, g.slots, g.traced)) (omega (arith, g.few, g.traced))

going-by : (ls : List Line) (left : ℕ) (p : Parts) → (g : Going ls left p) → 0 < left → (a : After) (k : ℕ) → a.step ≡ Went k
    → (t : Turn Counters) → Agrees ls g.held p.registers.traced a t → Going ls (left - 1) (parts_at a.parts k (p.registers.steps + 1))
going-by ls left p g h a k z (on s) r =
    let q : r.line ≡ k = went-same (sym r.went ∙ z) in
    record {
      state = s;
      held = g.held;
      stands = subst (λ j. Stands ls g.held (parts_at a.parts j (p.registers.steps + 1)) s) q (r.stands (p.registers.steps + 1));
      few = omega (arith, g.few);
      slots = omega (arith, g.slots);
      traced = omega (arith, g.traced, r.traced_more);
    }
going-by ls left p g h a k z (ends o s) r = absurd (r.is_end k (sym r.is ∙ z))
going-by ls left p g h a k z (untaken o s) r = absurd r

pub going_on : (bs : List ℕ) (m : Map) → Ready bs m → (left : ℕ) (p : Parts) → Going (lines_in bs) left p → 0 < left
    → (a : After) → a ≡ step_of bs m p → (k : ℕ) → a.step ≡ Went k → Going (lines_in bs) (left - 1) (parts_at a.parts k (p.registers.steps + 1))
going_on bs m rd left p g h a e k z =
    going-by (lines_in bs) left p g h a k z (hardened_step (lines_in bs) g.state)
    (subst (λ x. Agrees (lines_in bs) g.held p.registers.traced x (hardened_step (lines_in bs) g.state)) (sym e)
    (step_agrees bs m rd g.held p g.state g.stands (omega (arith, g.slots, g.traced))))

-- after a step that went on, by what the loop knew before it
pub runs_on : (bs : List ℕ) (m : Map) → Ready bs m → (budget : ℕ) (start : Parts) (left : ℕ) (p : Parts) → Running bs m budget start left p → 0 < left
    → (a : After) → a ≡ step_of bs m p → (k : ℕ) → a.step ≡ Went k → length a.parts.words ≡ length p.words → length a.parts.slots ≡ length p.slots
    → (h : Registers) → h ≡ registers_at a.parts.registers k (p.registers.steps + 1)
    → Running bs m budget start (left - 1) (parts_of h a.parts.resumes a.parts.functions a.parts.vars a.parts.words a.parts.slots)
runs_on bs m rd budget start left p r l a e k z w t h q =
    subst (λ x. Running bs m budget start (left - 1) (parts_of x a.parts.resumes a.parts.functions a.parts.vars a.parts.words a.parts.slots)) (sym q)
    (record {
      going = going_on bs m rd left p r.going l a e k z;
      same = r.same ∙ run-went bs m p left l a e k z;
      words_long = w ∙ r.words_long;
      slots_long = t ∙ r.slots_long;
    })

-- ---- a run agrees
pub record Ended (ls : List Line) (held : List ℕ) (a : After) (x : Answer Counters) : Type 0 where
  pub step_is : a.step ≡ x.step
  pub steps_are : a.parts.registers.steps ≡ x.steps
  pub vars_are : a.parts.vars ≡ x.state.vars
  pub traces : Traced a.parts held x.state.trace
  pub still_stands : (k : ℕ) → x.step ≡ Went k → Stands ls held a.parts x.state
  pub traced_few : (k : ℕ) → x.step ≡ Went k → a.parts.registers.traced ≤ a.parts.registers.steps

pub ended_by : (ls : List Line) (held : List ℕ) (p : Parts) (k : ℕ) → p.registers.steps ≡ k → (a : After) (f : ℕ → After) (g : Hardened → Answer Counters)
    → (t : Turn Counters) → Agrees ls held p.registers.traced a t
    → ((j : ℕ) (s : Hardened) → a.step ≡ Went j → GoesOn ls held p.registers.traced a s → Ended ls held (f j) (g s))
    → Ended ls held (onward a.step f (stops_after (p.registers.steps + 1) a)) (after k t g)
ended_by ls held p k n a f g (on s) r ih =
    subst (λ o. Ended ls held (onward o f (stops_after (p.registers.steps + 1) a)) (g s)) (sym r.went) (ih r.line s r.went r)
ended_by ls held p k n a f g (ends o s) r ih =
    subst (λ x. Ended ls held x (record { step = o; steps = suc k; state = s }))
    (sym (onward-end a.step (λ j z. r.is_end j (sym r.is ∙ z)) f (stops_after (p.registers.steps + 1) a)))
    (record {
      step_is = r.is;
      steps_are = omega arith;
      vars_are = r.vars_are;
      traces = record { slots_are = r.traces.slots_are; traced_is = r.traces.traced_is };
      still_stands = λ j z. absurd (r.is_end j z);
      traced_few = λ j z. absurd (r.is_end j z);
    })
ended_by ls held p k n a f g (untaken o s) r ih = absurd r

pub run-agrees : (bs : List ℕ) (m : Map) → Ready bs m → (held : List ℕ) (b k : ℕ) (p : Parts) (s : Hardened) → Stands (lines_in bs) held p s → p.registers.steps ≡ k
    → p.registers.traced ≤ k → k + b ≤ length held → Ended (lines_in bs) held (run_of bs m b p) (run (striking_step (lines_in bs) None) b k s)
unfolding run_of run
run-agrees bs m rd held zero k p s st n d h =
    record {
      step_is = ap Went st.at_is;
      steps_are = n;
      vars_are = st.vars_are;
      traces = st.traces;
      still_stands = λ j z. st;
      traced_few = λ j z. omega arith;
    }
run-agrees bs m rd held (suc b) k p s st n d h =
    ended_by (lines_in bs) held p k n (step_of bs m p) _ _ (hardened_step (lines_in bs) s) (step_agrees bs m rd held p s st (omega arith))
    (λ j s' z r. next j s' r (went-same (sym r.went ∙ z)) (λ p' s'' st' n' d'. run-agrees bs m rd held b (suc k) p' s'' st' n' d' (omega arith)))
  where
    next : (j : ℕ) (s' : Hardened) (r : GoesOn (lines_in bs) held p.registers.traced (step_of bs m p) s') → r.line ≡ j
        → ((p' : Parts) (s'' : Hardened) → Stands (lines_in bs) held p' s'' → p'.registers.steps ≡ suc k → p'.registers.traced ≤ suc k → Ended (lines_in bs) held (run_of bs m b p') (run (striking_step (lines_in bs) None) b (suc k) s''))
        → Ended (lines_in bs) held (run_of bs m b (parts_at (step_of bs m p).parts j (p.registers.steps + 1))) (run (striking_step (lines_in bs) None) b (suc k) s')
    next j s' r e ih =
        ih (parts_at (step_of bs m p).parts j (p.registers.steps + 1)) s'
        (subst (λ i. Stands (lines_in bs) held (parts_at (step_of bs m p).parts i (p.registers.steps + 1)) s') e (r.stands (p.registers.steps + 1))) (omega arith) (omega (arith, r.traced_more))
