-- A run made in pieces beside a known trace: what the loop over the pieces keeps. Assumes a hardened table.
use mathlib.Core.Path.{◌≡◌, refl, sym, ap, ◌∙◌, subst}
use mathlib.Core.Logic.{◌≢◌}
use mathlib.Core.Bool.{Bool, true, ◌&&◌}
use mathlib.Core.List.{List, []}
use Prim.Native.Nat.{ℕ, ◌+◌, ◌-◌, ◌≤◌, min}
use native.Mathlib.Omega.{arith}
use lib.Dec.{eqb}
use lib.ListN.{length, take, drop, length-append, length-drop}
use lib.Seq.{take-append_seam}
use Rattle.rules.specs.declared.ending.Ending.{Ending}
use Rattle.rules.specs.declared.ending.Ending.TheVariants.{Unfinished}
use Rattle.rules.specs.declared.step.Step.TheVariants.{Went}
use Rattle.rules.specs.Strike.{None}
use Rattle.rules.specs.Bytes.{same}
use Rattle.rules.specs.Line.{Line, lines_in}
use Rattle.rules.specs.State.{retraced}
use Rattle.rules.specs.Run.{Answer, run, outcome_of_lem}
use Rattle.rules.specs.Hardened.{Counters, Hardened, counter_form, striking_step}
use Rattle.rules.specs.Sweep.{ending_of}
use Rattle.rules.proofs.Form.Trace.{run_retraced, run_on, run_on_steps, run-over}
use Rattle.state.specs.declared.machine.Machine.{Machine}
use Rattle.state.specs.declared.machine.Stopped.{Stopped}
use Rattle.state.specs.Machine.{machine_afresh}
use Rattle.state.proofs.Ends.{IsEnd, end-not-zero}
use Rattle.machine.specs.Step.{Map}
use Rattle.machine.specs.Run.{parts_in, stopped_with, run_of}
use Rattle.machine.specs.Stands.{Ready, Stands, Going}
use Rattle.machine.proofs.Runs.{Ended, run-agrees}
use Rattle.compare.specs.Compared.{Stood, goes_on_lem, ended_by_lem, piece_steps}
use Rattle.compare.proofs.Begins.{in_parts, to_the_end, still-within}

-- ---- a machine made afresh
pub restand : (ls : List Line) (held : List ℕ) (m : Machine) (ws tr : List ℕ) (s : Hardened) → Stands ls held (parts_in m ws tr) s → Stood ls (machine_afresh m) ws s
restand ls held m ws tr s st =
    record {
      stands = λ slots. record {
        sizes = record { deep = st.sizes.deep; resumes_are = st.sizes.resumes_are; functions_are = st.sizes.functions_are; words_are = st.sizes.words_are };
        function_is = st.function_is;
        at_is = st.at_is;
        inside = st.inside;
        own_is = st.own_is;
        waiting = st.waiting;
        last_is = st.last_is;
        vars_are = st.vars_are;
        traces = record { slots_are = refl; traced_is = refl };
      };
      no_steps = refl;
    }

pub going-piece : (ls : List Line) (m : Machine) (ws : List ℕ) (s : Hardened) → Stood ls m ws s → (n : ℕ) → n ≤ piece_steps → (rows : List ℕ) → length rows ≡ piece_steps → Going ls n (parts_in m ws rows)
going-piece ls m ws s st n h rows e =
    record {
      state = retraced [] s;
      held = rows;
      stands = st.stands rows;
      few = omega (arith, st.no_steps);
      slots = omega (arith, st.no_steps);
      traced = omega (arith, (st.stands rows).traces.traced_is);
    }

-- ---- how it ends, where what came before was the same (or not) up to row `at`
abbrev pub ends_beside : (ok : Bool) → (known : List ℕ) → (at : ℕ) → Answer Counters → Ending
ends_beside ok known at a = ended_by_lem (outcome_of_lem a.step) (ok && same a.state.trace (drop at known))

abbrev pub plainly : List Line → (left : ℕ) → Hardened → Answer Counters
plainly ls left s = run (striking_step ls None) left 0 (retraced [] s)

pub record Comparing (ls : List Line) (known : List ℕ) (budget : ℕ) (start : Hardened) (left : ℕ) (m : Machine) (ws : List ℕ) (at : ℕ) (ok : Bool) : Type 0 where
  pub here : Hardened
  pub stood : Stood ls m ws here
  pub is : ending_of known (plainly ls budget start) ≡ ends_beside ok known at (plainly ls left here)
  pub within : ok ≡ true → at ≤ length known
  pub few : at + left ≤ budget

pub compare-starts : (ls : List Line) (known : List ℕ) (budget : ℕ) (s : Hardened) (m : Machine) (ws : List ℕ) → Stood ls m ws s → Comparing ls known budget s budget m ws 0 true
unfolding ending_of ended_by_lem
compare-starts ls known budget s m ws st =
    record { here = s; stood = st; is = refl; within = λ e. omega arith; few = omega arith }

-- ---- one piece more
module _ (bs : List ℕ) (k : Map) (rd : Ready bs k) (known : List ℕ) (budget : ℕ) (start : Hardened) (left : ℕ) (m : Machine) (ws : List ℕ) (at : ℕ) (ok : Bool) (c : Comparing (lines_in bs) known budget start left m ws at ok) (rows : List ℕ) (long : length rows ≡ piece_steps) (x : Stopped) (ws' rows' : List ℕ) (n : ℕ) (ne : n ≡ min left piece_steps) (e : stopped_with x ws' rows' ≡ run_of bs k n (parts_in m ws rows)) where
  abbrev ls : List Line
  ls = lines_in bs

  -- what the piece came to
  abbrev got : Answer Counters
  got = plainly ls n c.here

  ended : Ended ls rows (stopped_with x ws' rows') got
  ended =
      subst (λ a. Ended ls rows a got) (sym e)
      (run-agrees bs k rd rows n 0 (parts_in m ws rows) (retraced [] c.here) (c.stood.stands rows) c.stood.no_steps (omega (arith, (c.stood.stands rows).traces.traced_is)) (omega (arith, ne)))

  traced_is : x.machine.registers.traced ≡ length got.state.trace
  traced_is = ended.traces.traced_is

  -- the rows that it recorded
  pub recorded : take x.machine.registers.traced rows' ≡ got.state.trace
  recorded = ap (λ i. take i rows') traced_is ∙ ap (take (length got.state.trace)) ended.traces.slots_are ∙ take-append_seam got.state.trace (drop (length got.state.trace) rows)

  pub recorded-in : length rows' ≡ length rows → x.machine.registers.traced ≤ length rows'
  recorded-in h = omega (arith, traced_is, ap length ended.traces.slots_are, length-append got.state.trace (drop (length got.state.trace) rows), length-drop (length got.state.trace) rows)

  abbrev fits : Bool
  fits = ok && goes_on_lem (take x.machine.registers.traced rows') known at

  all_is : left ≡ n + (left - n)
  all_is = omega (arith, ne)

  -- where it went on
  module _ (i : ℕ) (w : x.step ≡ Went i) where
    went : got.step ≡ Went i
    went = sym ended.step_is ∙ w

    abbrev rest : Answer Counters
    rest = plainly ls (left - n) got.state

    goes_on : plainly ls left c.here ≡ run (striking_step ls None) (left - n) (0 + n) got.state
    goes_on = ap (λ y. plainly ls y c.here) all_is ∙ run_on (counter_form ls) ls n (left - n) 0 (retraced [] c.here) i went

    traced_few : x.machine.registers.traced ≤ n
    traced_few = omega (arith, ended.traced_few i went, ended.steps_are, run_on_steps (counter_form ls) ls n 0 (retraced [] c.here) i went)

    ends_so : ends_beside ok known at (plainly ls left c.here) ≡ ends_beside fits known (at + x.machine.registers.traced) rest
    ends_so =
        let r = run_retraced (counter_form ls) ls got.state.trace (left - n) (0 + n) 0 got.state in
        ap (ends_beside ok known at) goes_on ∙ ap (λ o. ended_by_lem (outcome_of_lem o) (ok && same (run (striking_step ls None) (left - n) (0 + n) got.state).state.trace (drop at known))) r.step_is
        ∙ ap (λ y. ended_by_lem (outcome_of_lem rest.step) (ok && same y.trace (drop at known))) r.state_is
        ∙ ap (ended_by_lem (outcome_of_lem rest.step)) (in_parts known at ok c.within got.state.trace rest.state.trace)
        ∙ ap (λ y. ended_by_lem (outcome_of_lem rest.step) ((ok && goes_on_lem y known at) && same rest.state.trace (drop (at + length got.state.trace) known))) (sym recorded)
        ∙ ap (λ y. ended_by_lem (outcome_of_lem rest.step) (fits && same rest.state.trace (drop (at + y) known))) (sym traced_is)

    on-by : Comparing ls known budget start (left - n) (machine_afresh x.machine) ws' (at + x.machine.registers.traced) fits
    on-by =
        record {
          here = got.state;
          stood = restand ls rows x.machine ws' rows' got.state (ended.still_stands i went);
          is = c.is ∙ ends_so;
          within = λ q. omega (arith, still-within known at ok c.within (take x.machine.registers.traced rows') q, ap length recorded, traced_is);
          few = omega (arith, c.few, traced_few, ne);
        }

    -- as the code has it
    pub compares_on : (a : Bool) → a ≡ goes_on_lem (take x.machine.registers.traced rows') known at → (b : Bool) → b ≡ ok && a → (m' : Machine) → m' ≡ machine_afresh x.machine
        → Comparing ls known budget start (left - n) m' ws' (at + x.machine.registers.traced) b
    compares_on a p b q m' r =
        subst (λ y. Comparing ls known budget start (left - n) y ws' (at + x.machine.registers.traced) b) (sym r)
        (subst (Comparing ls known budget start (left - n) (machine_afresh x.machine) ws' (at + x.machine.registers.traced)) (sym (q ∙ ap (λ y. ok && y) p)) on-by)

  -- where it ended
  ends_not_zero : IsEnd x.step → outcome_of_lem got.step ≢ 0
  ends_not_zero h q = end-not-zero x.step h (ap outcome_of_lem ended.step_is ∙ q)

  over_by : IsEnd x.step → ended_by_lem (outcome_of_lem x.step) (fits && eqb (at + x.machine.registers.traced) (length known)) ≡ ending_of known (plainly ls budget start)
  over_by h =
      ap (λ o. ended_by_lem (outcome_of_lem o) (fits && eqb (at + x.machine.registers.traced) (length known))) ended.step_is
      ∙ ap (λ y. ended_by_lem (outcome_of_lem got.step) ((ok && goes_on_lem y known at) && eqb (at + x.machine.registers.traced) (length known))) recorded
      ∙ ap (λ y. ended_by_lem (outcome_of_lem got.step) ((ok && goes_on_lem got.state.trace known at) && eqb (at + y) (length known))) traced_is
      ∙ ap (ended_by_lem (outcome_of_lem got.step)) (sym (to_the_end known at ok c.within got.state.trace))
      ∙ ap (ends_beside ok known at) (sym (ap (λ y. plainly ls y c.here) all_is ∙ run-over (striking_step ls None) n (left - n) 0 (retraced [] c.here) (ends_not_zero h)))
      ∙ sym c.is

  pub compares_over : IsEnd x.step → (a : Bool) → a ≡ goes_on_lem (take x.machine.registers.traced rows') known at → (b : Bool) → b ≡ ok && a
      → (d : Bool) → d ≡ b && eqb (at + x.machine.registers.traced) (length known) → (r : Ending) → r ≡ ended_by_lem (outcome_of_lem x.step) d → r ≡ ending_of known (plainly ls budget start)
  compares_over h a p b q d z r w =
      w ∙ ap (ended_by_lem (outcome_of_lem x.step)) (z ∙ ap (λ y. y && eqb (at + x.machine.registers.traced) (length known)) (q ∙ ap (λ y. ok && y) p)) ∙ over_by h

-- ---- the budget is spent
pub compare-spent : (ls : List Line) (known : List ℕ) (budget : ℕ) (start : Hardened) (left : ℕ) (m : Machine) (ws : List ℕ) (at : ℕ) (ok : Bool) → Comparing ls known budget start left m ws at ok → left ≤ 0
    → Unfinished ≡ ending_of known (plainly ls budget start)
unfolding run ended_by_lem outcome_of_lem
compare-spent ls known budget start left m ws at ok c h = sym (c.is ∙ ap (λ n. ends_beside ok known at (plainly ls n c.here)) (let z : left ≡ 0 = omega arith in z))
