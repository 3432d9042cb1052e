-- A run of the code with a jump agrees with the hardened machine's. Assumes a hardened table.
use mathlib.Core.Path.{◌≡◌, refl, sym, ap, ◌∙◌, subst}
use mathlib.Core.Bool.{Bool, true, false, cond}
use mathlib.Core.List.{List}
use Prim.Native.Nat.{ℕ, zero, suc, ◌+◌, ◌-◌, ◌≤◌, ◌<◌}
use native.Mathlib.Nat.{add-zero, zero-add, suc-add}
use native.Mathlib.Omega.{arith}
use lib.Dec.{leb}
use lib.ListN.{length, get_or}
use borrow.Author.Tests.{eq-eqb, leb-true, leb-false, le-leb, lt-leb}
use Rattle.rules.specs.Strike.{Strike, None, Jump}
use Rattle.rules.specs.declared.step.Step.{Step}
use Rattle.rules.specs.declared.step.Step.TheVariants.{Went, Finished, Alarm, TooManyOpen, Beyond, Overflow}
use Rattle.rules.specs.Line.{Line, lines_in}
use Rattle.rules.specs.Function.{start_of, finish_of, last_place}
use Rattle.rules.specs.State.{go_to}
use Rattle.rules.specs.Run.{Turn, on, untaken, next, after, run}
use Rattle.rules.specs.Form.{Form}
use Rattle.rules.specs.Hardened.{Counters, Hardened, counter_form, hardened_step, place_line, striking_step, hardened_start, hardened_run}
use Rattle.rules.proofs.Form.Struck.{after_same, not-now, not-reached, over-same}
use Rattle.machine.specs.Step.{Map, Parts, After, last_line_lem, step_of}
use Rattle.machine.specs.Run.{parts_at, stops_after, run_of}
use Rattle.state.specs.Machine.{onward}
use Rattle.machine.specs.Stands.{Ready, Stands, Going}
use Rattle.strike.specs.Struck.{first_line, places_in, land_of, lands_after, jump_of, struck_of}
use Rattle.machine.proofs.Agree.{GoesOn}
use Rattle.state.proofs.Ends.{IsEnd, went-same, onward-end}
use Rattle.machine.proofs.Steps.{last_line, step_agrees}
use Rattle.machine.proofs.Runs.{Ended, going_on, ended_by, run-agrees}

-- ---- a run that went on to the end of its budget
pub going-run : (bs : List ℕ) (m : Map) → Ready bs m → (b c : ℕ) (p : Parts) → Going (lines_in bs) (b + c) p → (j : ℕ) → (run_of bs m b p).step ≡ Went j
    → Going (lines_in bs) c (run_of bs m b p).parts
unfolding run_of
going-run bs m rd zero c p g j e = subst (λ n. Going (lines_in bs) n p) (zero-add c) g
going-run bs m rd (suc b) c p g j e =
    by (step_of bs m p).step refl e
    (λ k q e'. going-run bs m rd b c (parts_at (step_of bs m p).parts k (p.registers.steps + 1))
    (subst (λ n. Going (lines_in bs) n (parts_at (step_of bs m p).parts k (p.registers.steps + 1))) (let z : suc b + c - 1 ≡ b + c = omega arith in z)
    (going_on bs m rd (suc b + c) p g (omega arith) (step_of bs m p) refl k q)) j e')
  where
    by : (o : Step) → (step_of bs m p).step ≡ o → (onward o (λ k. run_of bs m b (parts_at (step_of bs m p).parts k (p.registers.steps + 1))) (stops_after (p.registers.steps + 1) (step_of bs m p))).step ≡ Went j
        → ((k : ℕ) → (step_of bs m p).step ≡ Went k → (run_of bs m b (parts_at (step_of bs m p).parts k (p.registers.steps + 1))).step ≡ Went j → Going (lines_in bs) c (run_of bs m b (parts_at (step_of bs m p).parts k (p.registers.steps + 1))).parts)
        → Going (lines_in bs) c (onward o (λ k. run_of bs m b (parts_at (step_of bs m p).parts k (p.registers.steps + 1))) (stops_after (p.registers.steps + 1) (step_of bs m p))).parts
    by (Went k) q e ih = ih k q e
    by Finished q e ih = absurd (let z : ◌≡◌ {A = ℕ} 0 1 = cc in omega arith)
    by Alarm q e ih = absurd (let z : ◌≡◌ {A = ℕ} 0 1 = cc in omega arith)
    by (TooManyOpen n) q e ih = absurd (let z : ◌≡◌ {A = ℕ} 0 1 = cc in omega arith)
    by (Beyond n) q e ih = absurd (let z : ◌≡◌ {A = ℕ} 0 1 = cc in omega arith)
    by (Overflow n v) q e ih = absurd (let z : ◌≡◌ {A = ℕ} 0 1 = cc in omega arith)

pub going-fewer : (ls : List Line) (b k : ℕ) (p : Parts) → Going ls b p → k ≤ b → Going ls k p
going-fewer ls b k p g h =
    record {
      state = g.state;
      held = g.held;
      stands = g.stands;
      few = omega (arith, g.few);
      slots = omega (arith, g.slots);
      traced = g.traced;
    }

-- what is left of the budget after a run that went on
pub going-left : (bs : List ℕ) (m : Map) → Ready bs m → (b k : ℕ) (p : Parts) → Going (lines_in bs) b p → k < b → (a : After) → a ≡ run_of bs m k p → (j : ℕ) → a.step ≡ Went j
    → Going (lines_in bs) (b - k) a.parts
going-left bs m rd b k p g h a e j w =
    subst (λ x. Going (lines_in bs) (b - k) x.parts) (sym e)
    (going-run bs m rd k (b - k) p (subst (λ n. Going (lines_in bs) n p) (let z : b ≡ k + (b - k) = omega arith in z) g) j (ap (λ x. x.step) (sym e) ∙ w))

-- ---- the place of the jump
module _ (bs : List ℕ) (m : Map) (rd : Ready bs m) (held : List ℕ) (p : Parts) (s : Hardened) (st : Stands (lines_in bs) held p s) where
  abbrev ls : List Line
  ls = lines_in bs

  abbrev f : ℕ
  f = s.running.function

  pub first-line : first_line m p.registers ≡ start_of ls f
  first-line = ap (λ n. get_or m.starts n 0) st.function_is ∙ rd.mapped.located.start_is f (omega (arith, st.inside.known))

  pub places-are : places_in m p.registers ≡ last_place ls f
  places-are = ap (λ x. x - first_line m p.registers) (last_line bs m rd held p s st) ∙ ap (λ x. finish_of ls f - x) first-line

  -- what the code needs to tell the place
  pub function-in : p.registers.function < 32
  function-in = omega (arith, st.function_is, st.inside.known, rd.sound.within.few_functions)

  pub first-before-last : first_line m p.registers ≤ last_line_lem m p.registers
  first-before-last = omega (arith, first-line, last_line bs m rd held p s st, rd.sound.ordered f st.inside.known)

  pub last_few : last_line_lem m p.registers ≤ 2048
  last_few = omega (arith, last_line bs m rd held p s st, rd.sound.finish_in f st.inside.known, rd.sound.within.few_lines)

  pub stands-there : (place n : ℕ) → place ≤ places_in m p.registers → Stands ls held (parts_at p (first_line m p.registers + place) n) (go_to (place_line ls place s) s.running.own s)
  stands-there place n h =
      record {
        sizes = record { deep = st.sizes.deep; resumes_are = st.sizes.resumes_are; functions_are = st.sizes.functions_are; words_are = st.sizes.words_are };
        function_is = st.function_is;
        at_is = ap (λ x. x + place) first-line;
        inside =
            record {
              known = st.inside.known;
              not_before = omega arith;
              not_after = omega (arith, places-are, rd.sound.ordered f st.inside.known);
            };
        own_is = st.own_is;
        waiting = st.waiting;
        last_is = st.last_is;
        vars_are = st.vars_are;
        traces = record { slots_are = st.traces.slots_are; traced_is = st.traces.traced_is };
      }

pub going-there : (bs : List ℕ) (m : Map) → Ready bs m → (left : ℕ) (p : Parts) → Going (lines_in bs) left p → (place : ℕ) → place ≤ places_in m p.registers
    → Going (lines_in bs) left (parts_at p (first_line m p.registers + place) p.registers.steps)
going-there bs m rd left p g place h =
    record {
      state = go_to (place_line (lines_in bs) place g.state) g.state.running.own g.state;
      held = g.held;
      stands = stands-there bs m rd g.held p g.state g.stands place p.registers.steps h;
      few = g.few;
      slots = g.slots;
      traced = g.traced;
    }

-- ---- the struck step, and all after it
module _ (bs : List ℕ) (m : Map) (rd : Ready bs m) (held : List ℕ) (b k place : ℕ) (p : Parts) (s : Hardened) (st : Stands (lines_in bs) held p s) (n : p.registers.steps ≡ k) (d : p.registers.traced ≤ k) (h : k + suc b ≤ length held) where
  abbrev form : Form Counters
  form = counter_form (lines_in bs)

  there : Hardened
  there = go_to (place_line (lines_in bs) place s) s.running.own s

  runs_on : place ≤ places_in m p.registers → Ended (lines_in bs) held (run_of bs m (suc b) (parts_at p (first_line m p.registers + place) p.registers.steps))
      (after k (hardened_step (lines_in bs) there) (λ s'. run (striking_step (lines_in bs) (Jump k place)) b (suc k) s'))
  unfolding run there
  runs_on l =
      subst (Ended (lines_in bs) held (run_of bs m (suc b) (parts_at p (first_line m p.registers + place) p.registers.steps)))
      (sym (after_same k (hardened_step (lines_in bs) there) _ _ (λ s'. over-same form (lines_in bs) (Jump k place) k (not-now form (lines_in bs) k place) b (suc k) s' (omega arith))))
      (run-agrees bs m rd held (suc b) k (parts_at p (first_line m p.registers + place) p.registers.steps) there (stands-there bs m rd held p s st place p.registers.steps l) n d h)

  by_place : (c : Bool) → leb place (places_in m p.registers) ≡ c
      → Ended (lines_in bs) held (cond c (run_of bs m (suc b) (parts_at p (first_line m p.registers + place) p.registers.steps)) (record { step = Beyond (places_in m p.registers); parts = p }))
      (after k (next (cond c (on there) (untaken (Beyond (last_place (lines_in bs) s.running.function)) s)) (hardened_step (lines_in bs)))
      (λ s'. run (striking_step (lines_in bs) (Jump k place)) b (suc k) s'))
  by_place true e = runs_on (leb-true place (places_in m p.registers) e)
  by_place false e =
      record {
        step_is = ap Beyond (places-are bs m rd held p s st);
        steps_are = n;
        vars_are = st.vars_are;
        traces = st.traces;
        still_stands = λ j z. absurd (let q : ◌≡◌ {A = ℕ} 0 1 = cc in omega arith);
        traced_few = λ j z. absurd (let q : ◌≡◌ {A = ℕ} 0 1 = cc in omega arith);
      }

  land_agrees : Ended (lines_in bs) held (land_of bs m (suc b) place p) (run (striking_step (lines_in bs) (Jump k place)) (suc b) k s)
  unfolding run land_of there
  land_agrees =
      rw (eq-eqb k k refl)
      (subst (λ x. Ended (lines_in bs) held (land_of bs m (suc b) place p)
      (after k (next (cond (leb place x) (on there) (untaken (Beyond (last_place (lines_in bs) s.running.function)) s)) (hardened_step (lines_in bs)))
      (λ s'. run (striking_step (lines_in bs) (Jump k place)) b (suc k) s')))
      (places-are bs m rd held p s st) (by_place (leb place (places_in m p.registers)) refl))

-- ---- the steps before it
pub lands-inside : (bs : List ℕ) (m : Map) (left place : ℕ) (o : Step) (f : ℕ → After) (z : After) → z.step ≡ o
    → lands_after bs m left place (onward o f z) ≡ onward o (λ j. lands_after bs m left place (f j)) z
unfolding lands_after
lands-inside bs m left place (Went k) f z e = refl
lands-inside bs m left place Finished f z e = rw e
lands-inside bs m left place Alarm f z e = rw e
lands-inside bs m left place (TooManyOpen n) f z e = rw e
lands-inside bs m left place (Beyond n) f z e = rw e
lands-inside bs m left place (Overflow n v) f z e = rw e

module _ (bs : List ℕ) (m : Map) (rd : Ready bs m) (held : List ℕ) (b place : ℕ) where
  abbrev machine : (j : ℕ) → ℕ → Hardened → Turn Counters
  machine j = striking_step (lines_in bs) (Jump j place)

  struck-agrees : (d k : ℕ) (p : Parts) (s : Hardened) → Stands (lines_in bs) held p s → p.registers.steps ≡ k → p.registers.traced ≤ k → k + (d + suc b) ≤ length held
      → Ended (lines_in bs) held (lands_after bs m (suc b) place (run_of bs m d p)) (run (machine (k + d)) (d + suc b) k s)
  unfolding run_of run lands_after
  struck-agrees zero k p s st n t h =
      subst (λ j. Ended (lines_in bs) held (land_of bs m (suc b) place p) (run (machine j) (0 + suc b) k s)) (sym (add-zero k))
      (subst (λ c. Ended (lines_in bs) held (land_of bs m (suc b) place p) (run (machine k) c k s)) (sym (zero-add (suc b)))
      (land_agrees bs m rd held b k place p s st n t (omega arith)))
  struck-agrees (suc d) k p s st n t h =
      subst (λ c. Ended (lines_in bs) held (lands_after bs m (suc b) place (run_of bs m (suc d) p)) (run (machine (k + suc d)) c k s)) (sym (suc-add d (suc b)))
      (subst (λ r. Ended (lines_in bs) held (lands_after bs m (suc b) place (run_of bs m (suc d) p)) (after k r (λ s'. run (machine (k + suc d)) (d + suc b) (suc k) s')))
      (sym (not-now (counter_form (lines_in bs)) (lines_in bs) (k + suc d) place k s (omega arith)))
      (subst (λ x. Ended (lines_in bs) held x (after k (hardened_step (lines_in bs) s) (λ s'. run (machine (k + suc d)) (d + suc b) (suc k) s')))
      (sym (lands-inside bs m (suc b) place (step_of bs m p).step (λ j. run_of bs m d (parts_at (step_of bs m p).parts j (p.registers.steps + 1))) (stops_after (p.registers.steps + 1) (step_of bs m p)) refl))
      (ended_by (lines_in bs) held p k n (step_of bs m p) _ _ (hardened_step (lines_in bs) s) (step_agrees bs m rd held p s st (omega arith))
      (λ j s' z r. again j s' r (went-same (sym r.went ∙ z)) (λ p' s'' st' n' t'. struck-agrees d (suc k) p' s'' st' n' t' (omega arith))))))
    where
      again : (j : ℕ) (s' : Hardened) (r : GoesOn (lines_in bs) held p.registers.traced (step_of bs m p) s') → r.line ≡ j
          → ((p' : Parts) (s'' : Hardened) → Stands (lines_in bs) held p' s'' → p'.registers.steps ≡ suc k → p'.registers.traced ≤ suc k → Ended (lines_in bs) held (lands_after bs m (suc b) place (run_of bs m d p')) (run (machine (suc k + d)) (d + suc b) (suc k) s''))
          → Ended (lines_in bs) held (lands_after bs m (suc b) place (run_of bs m d (parts_at (step_of bs m p).parts j (p.registers.steps + 1)))) (run (machine (k + suc d)) (d + suc b) (suc k) s')
      again j s' r e ih =
          subst (λ i. Ended (lines_in bs) held (lands_after bs m (suc b) place (run_of bs m d (parts_at (step_of bs m p).parts j (p.registers.steps + 1)))) (run (machine i) (d + suc b) (suc k) s'))
          (let q : suc k + d ≡ k + suc d = omega arith in q)
          (ih (parts_at (step_of bs m p).parts j (p.registers.steps + 1)) s'
          (subst (λ i. Stands (lines_in bs) held (parts_at (step_of bs m p).parts i (p.registers.steps + 1)) s') e (r.stands (p.registers.steps + 1))) (omega arith) (omega (arith, r.traced_more)))

-- ---- the whole run
module _ (bs : List ℕ) (m : Map) (rd : Ready bs m) (held vs : List ℕ) (b : ℕ) (p : Parts) (st : Stands (lines_in bs) held p (hardened_start vs)) (n : p.registers.steps ≡ 0) (t : p.registers.traced ≡ 0) (h : b ≤ length held) where
  unstruck-agrees : Ended (lines_in bs) held (run_of bs m b p) (hardened_run (lines_in bs) None b vs)
  unstruck-agrees = run-agrees bs m rd held b 0 p (hardened_start vs) st n (omega arith) (omega arith)

  jump-by : (k place : ℕ) (c : Bool) → leb b k ≡ c
      → Ended (lines_in bs) held (cond c (run_of bs m b p) (lands_after bs m (b - k) place (run_of bs m k p))) (hardened_run (lines_in bs) (Jump k place) b vs)
  jump-by k place true e =
      subst (Ended (lines_in bs) held (run_of bs m b p))
      (sym (not-reached (counter_form (lines_in bs)) (lines_in bs) (Jump k place) k (not-now (counter_form (lines_in bs)) (lines_in bs) k place) b 0 (hardened_start vs) (omega (arith, leb-true b k e)))) unstruck-agrees
  jump-by k place false e =
      let l = leb-false b k e in
      let left : suc (b - suc k) ≡ b - k = omega arith in
      let all : k + suc (b - suc k) ≡ b = omega arith in
      subst (λ x. Ended (lines_in bs) held (lands_after bs m x place (run_of bs m k p)) (hardened_run (lines_in bs) (Jump k place) b vs)) left
      (subst (λ x. Ended (lines_in bs) held (lands_after bs m (suc (b - suc k)) place (run_of bs m k p)) (run (striking_step (lines_in bs) (Jump k place)) x 0 (hardened_start vs))) all
      (subst (λ j. Ended (lines_in bs) held (lands_after bs m (suc (b - suc k)) place (run_of bs m k p)) (run (striking_step (lines_in bs) (Jump j place)) (k + suc (b - suc k)) 0 (hardened_start vs))) (zero-add k)
      (struck-agrees bs m rd held (b - suc k) place k 0 p (hardened_start vs) st n (omega arith) (omega arith))))

  pub whole-agrees : (j : Strike) → Ended (lines_in bs) held (struck_of bs m b j p) (hardened_run (lines_in bs) j b vs)
  unfolding struck_of jump_of
  whole-agrees None = unstruck-agrees
  whole-agrees (Jump k place) = jump-by k place (leb b k) refl

-- ---- what the code's branches come to
pub lands-beyond : (bs : List ℕ) (m : Map) (left place : ℕ) (p : Parts) → places_in m p.registers < place
    → record { step = Beyond (places_in m p.registers); parts = p } ≡ land_of bs m left place p
unfolding land_of
lands-beyond bs m left place p h = rw (lt-leb place (places_in m p.registers) h)

pub lands-on : (bs : List ℕ) (m : Map) (left place : ℕ) (p : Parts) → place ≤ places_in m p.registers
    → run_of bs m left (parts_at p (first_line m p.registers + place) p.registers.steps) ≡ land_of bs m left place p
unfolding land_of
lands-on bs m left place p h = rw (le-leb place (places_in m p.registers) h)

pub jump-none : (bs : List ℕ) (m : Map) (b k place : ℕ) (p : Parts) → b ≤ k → run_of bs m b p ≡ jump_of bs m b k place p
unfolding jump_of
jump-none bs m b k place p h = rw (le-leb b k h)

module _ (bs : List ℕ) (m : Map) (b k place : ℕ) (p : Parts) (h : k < b) (a : After) (e : a ≡ run_of bs m k p) where
  pub jump-stopped : IsEnd a.step → a ≡ jump_of bs m b k place p
  unfolding jump_of lands_after
  jump-stopped n =
      rw (lt-leb b k h, ← e) (sym (onward-end a.step n (λ j. land_of bs m (b - k) place a.parts) a))

  pub jump-there : (j : ℕ) → a.step ≡ Went j → land_of bs m (b - k) place a.parts ≡ jump_of bs m b k place p
  unfolding jump_of lands_after
  jump-there j w = rw (lt-leb b k h, ← e, w)
