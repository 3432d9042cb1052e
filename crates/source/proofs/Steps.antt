-- A step of the code is a step of the source machine, whatever its row, and leaves a machine that can go on.
-- Assumes that the table is accepted.
use mathlib.Core.Logic.{◌⊎◌, inl, inr}
use mathlib.Core.Path.{◌≡◌, refl, sym, ap, ◌∙◌, subst}
use mathlib.Core.Bool.{Bool, true, false, cond}
use mathlib.Core.List.{List, [], ◌∷◌, ◌++◌}
use Prim.Native.Nat.{ℕ, zero, suc, ◌+◌, ◌-◌, ◌≤◌, ◌<◌}
use native.Mathlib.Numerals.{add-one}
use native.Mathlib.Nat.{eq-or-lt_of_le}
use native.Mathlib.Omega.{arith}
use lib.Dec.{eqb, ltb}
use lib.ListN.{length, get_or, take, drop, set, length-set}
use lib.Seq.{get_or-set_same, get_or-set_other, take-suc-set, drop-set-lt, drop-drop}
use borrow.Author.Tests.{ltb-true, lt-ltb, le-ltb, ne_eqb}
use Rattle.rules.specs.Computed.{Computed, Fits, Overflows}
use Rattle.rules.specs.declared.kind.Kind.{Kind}
use Rattle.rules.specs.declared.kind.Kind.TheVariants.{Function, Do, If, Else, Loop, End, Break, Continue, Call, Unknown}
use Rattle.rules.specs.Verdict.{Accepted}
use Rattle.rules.specs.declared.step.Step.{Step}
use Rattle.rules.specs.declared.step.Step.TheVariants.{Went, Finished, TooManyOpen, Overflow}
use Rattle.rules.specs.Row.{Table, table_of, kind_at, operands_at}
use Rattle.rules.specs.Scan.{Part, body, then_part, else_part, loop_body, open_at, part_of, opener_of, from_loop, end_of, function_row}
use Rattle.rules.specs.Check.{verdict_of}
use Rattle.rules.specs.Variables.{variable, computed, holds_on}
use Rattle.rules.specs.State.{frame, opening, depth}
use Rattle.rules.specs.Run.{Turn, on, ends}
use Rattle.rules.specs.Links.{is_opening}
use Rattle.rules.specs.Source.{false_row, to_row, return_row, end_row_lem, call_row, row_step, source_step}
use Rattle.rules.proofs.Value.{Silent, a_function}
use Rattle.rules.proofs.Accepted.{proper, table-length}
use Rattle.rules.proofs.Function.{is_body_lem, not-silent, not-unknown}
use Rattle.layout.specs.Spot.{Inside}
use Rattle.layout.proofs.Survey.{some-open}
use Rattle.state.specs.Machine.{moved, did_by, did_of}
use Rattle.state.specs.Open.{Opened, opened, opened_of, closed_of}
use Rattle.state.proofs.Ends.{IsEnd, finished-ends, too-many-ends, overflow-ends}
use Rattle.source.specs.Goes.{end_goes_lem, goes_by_lem, go_of_lem}
use Rattle.source.specs.Step.{goes_to_lem, after_test, after_jump, after_return, after_end, after_call, after_do_lem, Parts, After, after, moving, row_of, step_of}
use Rattle.source.specs.Run.{frames_of, state_of, turn_of, Kept}
use Rattle.source.specs.Run as own
use Rattle.source.proofs.Rows.{not_first, stays-inside, pushes-inside, passes-inside, past-inside, false-inside, repeats-inside, continue-inside, callee-inside, else_inside, break_inside}

-- ---- a step of both
pub record Steps (bs : List ℕ) (p : Parts) (a : After) (u : Turn (Unit {0})) : Type 0 where
  pub turn : turn_of a ≡ u
  pub next : (i : ℕ) → a.step ≡ Went i → own.Fits bs a.parts.registers.depth i a.parts.resumes a.parts.functions
  pub stands : (i : ℕ) → a.step ≡ Went i → a.parts.registers.at ≡ i
  pub traced_more : a.parts.registers.traced ≤ p.registers.traced + 1
  pub keeps : (held : List ℕ) → Kept p.registers.traced held p.slots → Kept a.parts.registers.traced held a.parts.slots

-- ---- the functions that wait
frames-length : (ps fs : List ℕ) (d : ℕ) → length (frames_of ps fs d) ≡ d
frames-length ps fs zero = refl
frames-length ps fs (suc d) = ap suc (frames-length ps fs d)

-- one is saved above them
frames-set : (ps fs : List ℕ) (i k f d : ℕ) → d ≤ i → frames_of (set ps i k) (set fs i f) d ≡ frames_of ps fs d
frames-set ps fs i k f zero h = refl
frames-set ps fs i k f (suc d) h =
    rw (get_or-set_other fs i d f 0 (λ e. omega arith), get_or-set_other ps i d k 0 (λ e. omega arith), frames-set ps fs i k f d (omega arith))

frames-more : (ps fs : List ℕ) (k f d : ℕ) → d < length ps → d < length fs → frames_of (set ps d k) (set fs d f) (d + 1) ≡ frame f k tt ∷ frames_of ps fs d
frames-more ps fs k f d a b =
    ap (frames_of (set ps d k) (set fs d f)) (add-one d)
    ∙ rw (get_or-set_same fs d f 0 b, get_or-set_same ps d k 0 a) (ap (λ x. frame f k tt ∷ x) (frames-set ps fs d k f d (omega arith)))

went-same : {x y : ℕ} → Went x ≡ Went y → x ≡ y
went-same e = cc

module _ (bs : List ℕ) (a : verdict_of bs ≡ Accepted) (p : Parts) (v : own.Fits bs p.registers.depth p.registers.at p.resumes p.functions) where
  abbrev t : Table
  t = table_of bs

  abbrev i : ℕ
  i = p.registers.at

  -- ---- a row that changes nothing but where the run goes on
  goes : (j : ℕ) → Inside bs j → Steps bs p (moving p (goes_to_lem p.registers j)) (on (to_row j (state_of p)))
  goes j n =
      record {
        turn = refl;
        next = λ k e. record {
          deep = v.deep;
          resumes_are = v.resumes_are;
          functions_are = v.functions_are;
          here = subst (Inside bs) (went-same e) n;
          waiting = v.waiting;
        };
        stands = λ k. went-same;
        traced_more = omega arith;
        keeps = λ held k. k;
      }

  -- ---- the run ends
  stops : (o : Step) → IsEnd o → turn_of (moving p (moved o p.registers)) ≡ ends o (state_of p) → Steps bs p (moving p (moved o p.registers)) (ends o (state_of p))
  stops o n e = record { turn = e; next = λ k z. absurd (n k z); stands = λ k z. absurd (n k z); traced_more = omega arith; keeps = λ held k. k }

  -- ---- where the row goes
  goes_by : (k : Kind) → kind_at t i ≡ k → go_of_lem t i ≡ goes_by_lem t i k
  unfolding go_of_lem
  goes_by k e = ap (goes_by_lem t i) e

  by_test : (b : Bool) (x y : ℕ) → Inside bs x → Inside bs y → Inside bs (cond b x y)
  by_test true x y m n = m
  by_test false x y m n = n

  tests : (j : ℕ) → go_of_lem t i ≡ j → Inside bs (suc i) → Inside bs j
      → Steps bs p (moving p (after_test t p.registers p.vars)) (on (to_row (cond (holds_on (operands_at t i) p.vars) (suc i) j) (state_of p)))
  unfolding after_test
  tests j e m n =
      subst
      (λ g. Steps bs p (moving p (goes_to_lem p.registers (cond (holds_on (operands_at t i) p.vars) (suc i) g)))
      (on (to_row (cond (holds_on (operands_at t i) p.vars) (suc i) j) (state_of p)))) (sym e)
      (goes (cond (holds_on (operands_at t i) p.vars) (suc i) j) (by_test (holds_on (operands_at t i) p.vars) (suc i) j m n))

  jumps : (j : ℕ) → go_of_lem t i ≡ j → Inside bs j → Steps bs p (moving p (after_jump t p.registers)) (on (to_row j (state_of p)))
  unfolding after_jump
  jumps j e n = subst (λ g. Steps bs p (moving p (goes_to_lem p.registers g)) (on (to_row j (state_of p)))) (sym e) (goes j n)

  -- ---- a do
  do_keeps : p.registers.traced < length p.slots → (held : List ℕ) → Kept p.registers.traced held p.slots
      → Kept (p.registers.traced + 1) held (set p.slots p.registers.traced i)
  do_keeps h held k =
      record {
        in_slots = omega (arith, length-set p.slots p.registers.traced i);
        same_length = length-set p.slots p.registers.traced i ∙ k.same_length;
        same_rest =
            drop-set-lt (p.registers.traced + 1) p.slots p.registers.traced i (omega arith) ∙ sym (drop-drop 1 p.registers.traced p.slots)
            ∙ ap (drop 1) k.same_rest ∙ drop-drop 1 p.registers.traced held;
      }

  -- what the code and the machine come to, where this is computed
  abbrev coded : Computed → After
  coded c =
      let x = did_by c (operands_at t i).p i p.registers p.vars p.slots in
      after x.to p.resumes p.functions x.vars x.slots

  abbrev held : ℕ
  held = variable p.vars (operands_at t i).p

  abbrev done : (to x row : ℕ) → (trace : List ℕ) → Turn (Unit {0})
  done to x j tr =
      on (record {
        running = frame p.registers.function j tt;
        callers = frames_of p.resumes p.functions p.registers.depth;
        last = tt;
        vars = set p.vars to x;
        trace = tr;
      })

  abbrev turned : Computed → Turn (Unit {0})
  turned (Fits to x) = done to x (suc i) (take p.registers.traced p.slots ++ (i ∷ []))
  turned Overflows = ends (Overflow i held) (state_of p)

  turned_is : (c : Computed) → computed (operands_at t i) p.vars ≡ c → row_step t i (open_at t i) Do (state_of p) ≡ turned c
  unfolding row_step
  turned_is (Fits to x) e = rw e
  turned_is Overflows e = rw e

  does_by : p.registers.traced < length p.slots → kind_at t i ≡ Do → (c : Computed) → Steps bs p (coded c) (turned c)
  does_by h e Overflows = stops (Overflow i held) (overflow-ends i held) refl
  does_by h e (Fits to x) =
      record {
        turn = ap (λ j. done to x j (take (p.registers.traced + 1) (set p.slots p.registers.traced i))) (add-one i)
            ∙ ap (done to x (suc i))
            (ap (λ n. take n (set p.slots p.registers.traced i)) (add-one p.registers.traced) ∙ take-suc-set p.slots p.registers.traced i h);
        next = λ k z. record {
          deep = v.deep;
          resumes_are = v.resumes_are;
          functions_are = v.functions_are;
          here = subst (Inside bs) (sym (add-one i) ∙ went-same z) (stays-inside bs a v.here Do e refl);
          waiting = v.waiting;
        };
        stands = λ k. went-same;
        traced_more = omega arith;
        keeps = do_keeps h;
      }

  does : p.registers.traced < length p.slots → kind_at t i ≡ Do → Steps bs p (row_of t Do p) (row_step t i (open_at t i) Do (state_of p))
  unfolding row_of after_do_lem did_of
  does h e =
      let c = computed (operands_at t i) p.vars in
      subst (Steps bs p (coded c)) (sym (turned_is c refl)) (does_by h e c)

  -- ---- a return
  closes : (d : ℕ) → p.registers.depth ≡ suc d
      → Steps bs p (moving p (closed_of p.registers 0 p.resumes p.functions))
      (return_row (state_of p) (frames_of p.resumes p.functions (suc d)))
  closes d e =
      let q : p.registers.depth - 1 ≡ d = omega arith in
      record {
        turn = ap
            (λ n. on (record {
              running = frame (get_or p.functions n 0) (get_or p.resumes n 0) tt;
              callers = frames_of p.resumes p.functions n;
              last = tt;
              vars = p.vars;
              trace = take p.registers.traced p.slots;
            })) q;
        next = λ k z. record {
          deep = omega (arith, v.deep);
          resumes_are = v.resumes_are;
          functions_are = v.functions_are;
          here = subst (Inside bs) (went-same z) (v.waiting (p.registers.depth - 1) (omega arith));
          waiting = λ n l. v.waiting n (omega arith);
        };
        stands = λ k. went-same;
        traced_more = omega arith;
        keeps = λ held k. k;
      }

  by_depth : (d : ℕ) → p.registers.depth ≡ d → Steps bs p (moving p (after_return p.registers p.resumes p.functions)) (return_row (state_of p) (frames_of p.resumes p.functions d))
  unfolding after_return
  by_depth zero e = rw (le-ltb 0 p.registers.depth (omega arith)) (stops Finished finished-ends refl)
  by_depth (suc d) e = rw (lt-ltb 0 p.registers.depth (omega arith)) (closes d e)

  -- ---- an end
  abbrev ending : (g : ℕ) → After
  ending g = moving p (cond (eqb g 0) (after_return p.registers p.resumes p.functions) (goes_to_lem p.registers g))

  passes : (j : ℕ) → Inside bs j → Steps bs p (ending j) (on (to_row j (state_of p)))
  passes j n = rw (ne_eqb j 0 (not_first bs a n)) (goes j n)

  by_part : kind_at t i ≡ End → (q : Part) → part_of (open_at t i) ≡ q → Steps bs p (ending (end_goes_lem t i q)) (end_row_lem i (open_at t i) q (state_of p))
  by_part e body q = by_depth p.registers.depth refl
  by_part e then_part q = passes (suc i) (passes-inside bs a v.here e (ap is_body_lem q))
  by_part e else_part q = passes (suc i) (passes-inside bs a v.here e (ap is_body_lem q))
  by_part e loop_body q = passes (opener_of (open_at t i)) (repeats-inside bs a v.here (ap is_body_lem q))

  closing : kind_at t i ≡ End → Steps bs p (moving p (after_end t p.registers p.resumes p.functions)) (end_row_lem i (open_at t i) (part_of (open_at t i)) (state_of p))
  unfolding after_end
  closing e =
      subst (λ g. Steps bs p (ending g) (end_row_lem i (open_at t i) (part_of (open_at t i)) (state_of p))) (sym (goes_by End e))
      (by_part e (part_of (open_at t i)) refl)

  -- ---- a call
  abbrev n : ℕ
  n = (operands_at t i).n

  abbrev calling : Opened → After
  calling x = after x.to x.resumes x.functions p.vars p.slots

  abbrev opened_at : (g : ℕ) → Opened
  opened_at g = opened_of p.registers n g p.resumes p.functions

  abbrev calling_at : (room : Bool) (g : ℕ) → After
  calling_at b g = calling (cond b (opened_at g) (opened (moved (TooManyOpen 16) p.registers) p.resumes p.functions))

  saved : kind_at t i ≡ Call → (d : ℕ) → d < p.registers.depth + 1 → Inside bs (get_or (set p.resumes p.registers.depth (i + 1)) d 0)
  saved e d l = by (eq-or-lt_of_le (subst (λ x. d < x) (add-one p.registers.depth) l))
    where
      by : (suc d ≡ suc p.registers.depth) ⊎ (suc d < suc p.registers.depth) → Inside bs (get_or (set p.resumes p.registers.depth (i + 1)) d 0)
      by (inl x) =
          let q : d ≡ p.registers.depth = omega arith in
          subst (Inside bs)
          (sym (ap (λ y. get_or (set p.resumes p.registers.depth (i + 1)) y 0) q ∙ get_or-set_same p.resumes p.registers.depth (i + 1) 0 (omega (arith, v.deep, v.resumes_are)) ∙ add-one i))
          (stays-inside bs a v.here Call e refl)
      by (inr x) = subst (Inside bs) (sym (get_or-set_other p.resumes p.registers.depth d (i + 1) 0 (λ y. omega arith))) (v.waiting d (omega arith))

  opens : kind_at t i ≡ Call → p.registers.depth + 1 < 16 → Steps bs p (calling (opened_at (suc (function_row t n)))) (on (opening n (suc (function_row t n)) tt (to_row (suc i) (state_of p))))
  opens e l =
      record {
        turn = ap
            (λ fs. on (record { running = frame n (suc (function_row t n)) tt; callers = fs; last = tt; vars = p.vars; trace = take p.registers.traced p.slots }))
            (frames-more p.resumes p.functions (i + 1) p.registers.function p.registers.depth (omega (arith, v.deep, v.resumes_are)) (omega (arith, v.deep, v.functions_are))
            ∙ ap (λ k. frame p.registers.function k tt ∷ frames_of p.resumes p.functions p.registers.depth) (add-one i));
        next = λ k z. record {
          deep = l;
          resumes_are = length-set p.resumes p.registers.depth (i + 1) ∙ v.resumes_are;
          functions_are = length-set p.functions p.registers.depth p.registers.function ∙ v.functions_are;
          here = subst (Inside bs) (went-same z) (callee-inside bs a v.here e);
          waiting = saved e;
        };
        stands = λ k. went-same;
        traced_more = omega arith;
        keeps = λ held k. k;
      }

  by_room : kind_at t i ≡ Call → (b : Bool) → ltb (p.registers.depth + 1) 16 ≡ b
      → Steps bs p (calling_at b (suc (function_row t n)))
      (cond b (on (opening n (suc (function_row t n)) tt (to_row (suc i) (state_of p)))) (ends (TooManyOpen 16) (state_of p)))
  by_room e true q = opens e (ltb-true (p.registers.depth + 1) 16 q)
  by_room e false q = stops (TooManyOpen 16) (too-many-ends 16) refl

  depth_is : p.registers.depth + 1 ≡ depth (state_of p)
  depth_is = omega (arith, frames-length p.resumes p.functions p.registers.depth)

  calls : kind_at t i ≡ Call → Steps bs p (row_of t Call p) (call_row t i n (state_of p))
  unfolding row_of after_call
  calls e =
      subst (λ g. Steps bs p (calling_at (ltb (p.registers.depth + 1) 16) g) (call_row t i n (state_of p))) (sym (goes_by Call e))
      (subst
      (λ m. Steps bs p (calling_at (ltb (p.registers.depth + 1) 16) (suc (function_row t n)))
      (cond (ltb m 16) (on (opening n (suc (function_row t n)) tt (to_row (suc i) (state_of p)))) (ends (TooManyOpen 16) (state_of p)))) depth_is
      (by_room e (ltb (p.registers.depth + 1) 16) refl))

  -- ---- every row
  by_kind : p.registers.traced < length p.slots → (k : Kind) → kind_at t i ≡ k → Steps bs p (row_of t k p) (row_step t i (open_at t i) k (state_of p))
  unfolding row_of row_step
  by_kind h Function e =
      let f = some-open (open_at t i) v.here.within in
      absurd (not-silent t (proper bs a) i (omega (arith, v.here.row, table-length bs)) f.2 (subst Silent (sym e) a_function))
  by_kind h Do e = does h e
  by_kind h If e = tests (false_row t i) (goes_by If e) (pushes-inside bs a v.here If then_part e refl) (false-inside bs a v.here e)
  by_kind h Else e = jumps (suc (end_of t (opener_of (open_at t i)))) (goes_by Else e) (else_inside bs a v.here e)
  by_kind h Loop e = tests (suc (end_of t i)) (goes_by Loop e) (pushes-inside bs a v.here Loop loop_body e refl) (past-inside bs a v.here (ap is_opening e))
  by_kind h End e = closing e
  by_kind h Break e = jumps (suc (end_of t (opener_of (from_loop (open_at t i))))) (goes_by Break e) (break_inside bs a v.here e)
  by_kind h Continue e = jumps (opener_of (from_loop (open_at t i))) (goes_by Continue e) (continue-inside bs a v.here e)
  by_kind h Call e = calls e
  by_kind h Unknown e = absurd (not-unknown t (proper bs a) i (omega (arith, v.here.row, table-length bs)) e)

  pub steps : p.registers.traced < length p.slots → Steps bs p (step_of t p) (source_step t (state_of p))
  unfolding step_of source_step
  steps h = by_kind h (kind_at t i) refl
