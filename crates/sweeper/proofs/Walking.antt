-- The walk over the steps of an unstruck run that finishes: what the loops keep. Assumes a hardened table.
use mathlib.Core.Path.{◌≡◌, refl, sym, ap, ◌∙◌, subst}
use mathlib.Core.Logic.{◌≢◌}
use mathlib.Core.Bool.{cond}
use mathlib.Core.List.{List, []}
use Prim.Native.Nat.{ℕ, suc, ◌+◌, ◌-◌, ◌≤◌, ◌<◌}
use native.Mathlib.Numerals.{add-one}
use native.Mathlib.Omega.{arith}
use lib.ListN.{length, drop, length-append}
use lib.Dec.{eqb}
use Rattle.rules.specs.declared.ending.Ending.TheVariants.{Same}
use Rattle.rules.specs.declared.step.Step.TheVariants.{Went}
use Rattle.rules.specs.Strike.{None}
use Rattle.rules.specs.Line.{lines_in}
use Rattle.rules.specs.State.{retraced}
use Rattle.rules.specs.Run.{Answer, run, outcome_of_lem}
use Rattle.rules.specs.Hardened.{Counters, striking_step}
use Rattle.rules.specs.Settled.{across, narrow_ending, StandsBefore, SweepLaw}
use Rattle.rules.proofs.Form.Trace.{run_on_steps}
use Rattle.rules.proofs.Form.Walk.{some-step, start_is, in-budget, known-trace, narrow_rest, walk-over, WalksOn, walks_on}
use Rattle.state.specs.declared.machine.Machine.{Machine}
use Rattle.state.specs.declared.machine.Stopped.{Stopped}
use Rattle.state.specs.Machine.{machine_afresh, begun_at}
use Rattle.state.proofs.Begun.{begins}
use Rattle.state.proofs.Ends.{IsEnd, end-not-zero}
use Rattle.guard.specs.Counters.{fresh_at}
use Rattle.machine.specs.Step.{Map}
use Rattle.machine.specs.Run.{parts_in, stopped_with, run_of}
use Rattle.machine.specs.Stands.{Ready, Sound, Stands, Going}
use Rattle.machine.proofs.Runs.{Ended, run-agrees}
use Rattle.machine.proofs.Start.{stands-start}
use Rattle.compare.specs.declared.narrow.Narrow.{Narrow}
use Rattle.compare.specs.Compared.{piece_steps, Stood, Standing, ends_at}
use Rattle.compare.specs.Narrow.{NarrowIs}
use Rattle.compare.proofs.Comparing.{restand, going-piece}
use Rattle.sweeper.specs.Walk.{form, unstruck, state_of, Walking}

-- ---- the start
pub stood-start : (bs vs ws : List ℕ) (m : Machine) → Sound (lines_in bs) → m ≡ begun_at 0 vs → length ws ≡ 1024 → Stood (lines_in bs) m (fresh_at ws 0 1) (state_of bs vs 0)
stood-start bs vs ws m so bg long =
    subst (Stood (lines_in bs) m (fresh_at ws 0 1)) (sym (start_is (form bs) (lines_in bs) vs))
    (record {
      stands = λ slots. stands-start bs vs ws slots m so bg long 0 (omega arith) (omega arith);
      no_steps = ap (λ y. y.steps) (begins bg).registers_are;
    })

pub walk-starts : (bs vs ws : List ℕ) (b : ℕ) (m : Machine) → Sound (lines_in bs) → m ≡ begun_at 0 vs → length ws ≡ 1024 → (us : List ℕ) → us ≡ fresh_at ws 0 1 → outcome_of_lem (unstruck bs vs b).step ≡ 1 → Walking bs vs b 0 (b - 0) m us 0
walk-starts bs vs ws b m so bg long us e fin =
    record {
      going = some-step (form bs) (lines_in bs) vs b fin;
      left_is = refl;
      stood = subst (λ x. Stood (lines_in bs) m x (state_of bs vs 0)) (sym e) (stood-start bs vs ws m so bg long);
      at_is = sym (ap (λ s. length s.trace) (start_is (form bs) (lines_in bs) vs));
      few_rows = omega arith;
    }

-- as the loop counts
pub counted-on : {bs vs : List ℕ} {b k left : ℕ} {m : Machine} {ws : List ℕ} {at : ℕ} → Walking bs vs b (suc k) left m ws at → Walking bs vs b (k + 1) (b - (k + 1)) m ws at
counted-on w = rw add-one (record { going = w.going; left_is = refl; stood = w.stood; at_is = w.at_is; few_rows = w.few_rows })

-- ---- what the loop knows before a step
module _ (bs vs : List ℕ) (b k left : ℕ) (m : Machine) (ws : List ℕ) (at : ℕ) (w : Walking bs vs b k left m ws at) where
  pub standing : Standing (lines_in bs) m ws
  standing = record { state = state_of bs vs k; stood = w.stood }

  pub in_steps : k < b
  in_steps = in-budget (form bs) (lines_in bs) vs b k w.going

  pub stands-before : SweepLaw (form bs) (lines_in bs) vs b → StandsBefore (lines_in bs) m.registers.function m.registers.at
  stands-before law =
      subst (λ f. StandsBefore (lines_in bs) f m.registers.at) (sym (w.stood.stands []).function_is)
      (subst (StandsBefore (lines_in bs) (state_of bs vs k).running.function) (sym (w.stood.stands []).at_is) (law.stands k w.going))

  -- the rows behind it are in the trace
  pub at_in : at ≤ length (unstruck bs vs b).state.trace
  at_in = omega (arith, w.at_is, ap length (known-trace (form bs) (lines_in bs) vs b k w.going), length-append (state_of bs vs k).trace (drop (length (state_of bs vs k).trace) (unstruck bs vs b).state.trace))

  -- how the run ends that goes on across the do next to it
  pub ends_is : (tr : List ℕ) → tr ≡ (unstruck bs vs b).state.trace → (known : List ℕ) → known ≡ drop at tr
      → ends_at (lines_in bs) known left (across (lines_in bs) m.registers.at) (state_of bs vs k) ≡ narrow_ending (form bs) (lines_in bs) (unstruck bs vs b).state.trace b k (state_of bs vs k)
  unfolding ends_at narrow_ending
  ends_is tr te known ke =
      let s = state_of bs vs k in
      let y = across (lines_in bs) s.running.at in
      ap (λ x. ends_at (lines_in bs) known left x s) (ap (across (lines_in bs)) (w.stood.stands []).at_is)
      ∙ ap (λ x. ends_at (lines_in bs) x left y s) (ke ∙ ap (drop at) te ∙ ap (λ i. drop i (unstruck bs vs b).state.trace) w.at_is)
      ∙ ap (λ x. ends_at (lines_in bs) (drop (length s.trace) (unstruck bs vs b).state.trace) x y s) w.left_is
      ∙ ap (cond (eqb y s.running.at) Same) (sym (narrow_rest (form bs) (lines_in bs) vs b k w.going y))

  -- how the narrow jump ends
  pub narrow-is : (tr : List ℕ) → tr ≡ (unstruck bs vs b).state.trace → (known : List ℕ) → known ≡ drop at tr → (r : Narrow) → NarrowIs (lines_in bs) m ws known left r
      → r.ending ≡ narrow_ending (form bs) (lines_in bs) (unstruck bs vs b).state.trace b k (state_of bs vs k)
  narrow-is tr te known ke r n =
      n.ending_is (state_of bs vs k) w.stood ∙ ap (λ x. ends_at (lines_in bs) known left x (state_of bs vs k)) n.line_is ∙ ends_is tr te known ke

  -- ---- one step
  pub going-one : (rows : List ℕ) → length rows ≡ piece_steps → Going (lines_in bs) 1 (parts_in m ws rows)
  going-one rows long = going-piece (lines_in bs) m ws (state_of bs vs k) w.stood 1 (omega arith) rows long

  module _ (mp : Map) (rd : Ready bs mp) (rows : List ℕ) (long : length rows ≡ piece_steps) (x : Stopped) (ws' rows' : List ℕ) (e : stopped_with x ws' rows' ≡ run_of bs mp 1 (parts_in m ws rows)) where
    abbrev got : Answer Counters
    got = run (striking_step (lines_in bs) None) 1 0 (retraced [] (state_of bs vs k))

    ended : Ended (lines_in bs) rows (stopped_with x ws' rows') got
    ended =
        subst (λ a. Ended (lines_in bs) rows a got) (sym e)
        (run-agrees bs mp rd rows 1 0 (parts_in m ws rows) (retraced [] (state_of bs vs k)) (w.stood.stands rows) w.stood.no_steps (omega (arith, (w.stood.stands rows).traces.traced_is)) (omega arith))

    module _ (fin : outcome_of_lem (unstruck bs vs b).step ≡ 1) (i : ℕ) (z : x.step ≡ Went i) where
      went : got.step ≡ Went i
      went = sym ended.step_is ∙ z

      next : WalksOn (form bs) (lines_in bs) vs b k w.going
      next = walks_on (form bs) (lines_in bs) vs b k w.going i went fin

      stood-next : Stood (lines_in bs) (machine_afresh x.machine) ws' (state_of bs vs (suc k))
      stood-next =
          let q = restand (lines_in bs) rows x.machine ws' rows' got.state (ended.still_stands i went) in
          record {
            stands = λ slots. subst (Stands (lines_in bs) slots (parts_in (machine_afresh x.machine) ws' slots)) next.state_is (q.stands slots);
            no_steps = refl;
          }

      pub walk_on : (m' : Machine) → m' ≡ machine_afresh x.machine → Walking bs vs b (suc k) (left - 1) m' ws' (at + x.machine.registers.traced)
      walk_on m' q =
          record {
            going = next.later;
            left_is = omega (arith, w.left_is);
            stood = subst (λ y. Stood (lines_in bs) y ws' (state_of bs vs (suc k))) (sym q) stood-next;
            at_is = omega (arith, w.at_is, next.traced_is, ended.traces.traced_is);
            few_rows = omega (arith, w.few_rows, ended.traced_few i went, ended.steps_are, run_on_steps (form bs) (lines_in bs) 1 0 (retraced [] (state_of bs vs k)) i went);
          }

    ends_not_zero : IsEnd x.step → outcome_of_lem got.step ≢ 0
    ends_not_zero h q = end-not-zero x.step h (ap outcome_of_lem ended.step_is ∙ q)

    pub walked_all : IsEnd x.step → (unstruck bs vs b).steps ≡ suc k
    walked_all h = walk-over (form bs) (lines_in bs) vs b k w.going (ends_not_zero h)

  -- the run ends before the budget does
  pub never_spent : {A : Type 0} → left ≤ 0 → A
  never_spent h = absurd (let z : ⊥ = omega (arith, w.left_is, in_steps) in z)
