-- An unstruck run walked step by step: what is left of it from step k on, and the one step made there from the state without its trace.
-- Assumes nothing.
use mathlib.Core.Logic.{◌≢◌}
use mathlib.Core.Path.{◌≡◌, refl, sym, ap, ◌∙◌, subst}
use mathlib.Core.List.{List, [], ◌++◌}
use Prim.Native.Nat.{ℕ, zero, suc, ◌+◌, ◌-◌, ◌≤◌, ◌<◌}
use native.Mathlib.Nat.{zero-add}
use native.Mathlib.Omega.{arith}
use lib.ListN.{length, drop, length-append}
use lib.Seq.{drop-append_seam}
use Rattle.rules.specs.declared.step.Step.TheVariants.{Went}
use Rattle.rules.specs.Strike.{None}
use Rattle.rules.specs.Line.{Line}
use Rattle.rules.specs.State.{State, go_to, retraced}
use Rattle.rules.specs.Run.{Turn, on, ends, untaken, after, run, outcome_of_lem}
use Rattle.rules.specs.Form.{Form, step_of, striking_step_of, start_by}
use Rattle.rules.specs.Demands.{before}
use Rattle.rules.specs.RunPromise.{state_at}
use Rattle.rules.specs.Sweep.{ending_of, unstruck_run}
use Rattle.rules.specs.Settled.{going_on_lem}
use Rattle.rules.proofs.Form.Trace.{Retraced, never-untaken, run-over, run_retraced, ending_retraced, pieces, went_on}
use Rattle.rules.proofs.Form.Sweep.{run-bound, reached}

-- ---- a run that ends has taken a step
module _ {H : Type 0} (F : Form H) (ls : List Line) where
  ended-later : (b k : ℕ) (s : State H) → outcome_of_lem (run (striking_step_of F ls None) b k s).step ≢ 0 → k < (run (striking_step_of F ls None) b k s).steps
  unfolding run outcome_of_lem
  ended-later zero k s o = absurd (o refl)
  ended-later (suc b) k s o = by (step_of F ls s) refl o (λ s' o'. ended-later b (suc k) s' o')
    where
      by : (r : Turn H) → step_of F ls s ≡ r → outcome_of_lem (after k r (λ s'. run (striking_step_of F ls None) b (suc k) s')).step ≢ 0
          → ((s' : State H) → outcome_of_lem (run (striking_step_of F ls None) b (suc k) s').step ≢ 0 → suc k < (run (striking_step_of F ls None) b (suc k) s').steps)
          → k < (after k r (λ s'. run (striking_step_of F ls None) b (suc k) s')).steps
      by (on s') e o' ih = omega (arith, ih s' o')
      by (ends y g) e o' ih = omega arith
      by (untaken y g) e o' ih = absurd (never-untaken F ls s y g e)

  pub start_is : (vs : List ℕ) → state_at F ls vs 0 ≡ start_by F vs
  unfolding run
  start_is vs = refl

  module _ (vs : List ℕ) (b : ℕ) where
    pub few-steps : (unstruck_run F ls vs b).steps ≤ b
    few-steps = omega (arith, run-bound (striking_step_of F ls None) b 0 (start_by F vs))

    pub some-step : outcome_of_lem (unstruck_run F ls vs b).step ≡ 1 → 0 < (unstruck_run F ls vs b).steps
    some-step fin = ended-later b 0 (start_by F vs) (λ z. omega (arith, z, fin))

    -- the run in two pieces, where the first does not end it
    cut : (k : ℕ) → k ≤ b → outcome_of_lem (before F ls vs k).step ≡ 0 → unstruck_run F ls vs b ≡ run (striking_step_of F ls None) (b - k) k (state_at F ls vs k)
    cut k l o =
        let q : b ≡ k + (b - k) = omega (arith, l) in
        ap (unstruck_run F ls vs) q ∙ (pieces F ls k (b - k) 0 (start_by F vs) o).goes_on ∙ ap (λ y. run (striking_step_of F ls None) (b - k) y (state_at F ls vs k)) (zero-add k)

    module _ (k : ℕ) (l : k < (unstruck_run F ls vs b).steps) where
      pub in-budget : k < b
      in-budget = omega (arith, l, few-steps)

      pub from-here : unstruck_run F ls vs b ≡ run (striking_step_of F ls None) (b - k) k (state_at F ls vs k)
      from-here = cut k (omega (arith, l, few-steps)) (reached F ls vs b k l)

      pub one_more : before F ls vs (suc k) ≡ run (striking_step_of F ls None) 1 k (state_at F ls vs k)
      one_more =
          let q : suc k ≡ k + 1 = omega arith in
          ap (before F ls vs) q ∙ (pieces F ls k 1 0 (start_by F vs) (reached F ls vs b k l)).goes_on ∙ ap (λ y. run (striking_step_of F ls None) 1 y (state_at F ls vs k)) (zero-add k)

      -- ---- the trace: what is there, and what is left of the whole
      pub known-trace : (unstruck_run F ls vs b).state.trace
          ≡ (state_at F ls vs k).trace ++ drop (length (state_at F ls vs k).trace) (unstruck_run F ls vs b).state.trace
      known-trace =
          let tr = (state_at F ls vs k).trace in
          let rest = (run (striking_step_of F ls None) (b - k) 0 (retraced [] (state_at F ls vs k))).state.trace in
          let e : (unstruck_run F ls vs b).state.trace ≡ tr ++ rest =
          ap (λ y. y.state.trace) from-here ∙ ap (λ y. y.trace) (run_retraced F ls tr (b - k) k 0 (state_at F ls vs k)).state_is in
          e ∙ ap (λ y. tr ++ y) (sym (drop-append_seam tr rest) ∙ ap (drop (length tr)) (sym e))

      pub narrow_rest : (y : ℕ)
          → ending_of (unstruck_run F ls vs b).state.trace (going_on_lem F ls b k y (state_at F ls vs k))
          ≡ ending_of (drop (length (state_at F ls vs k).trace) (unstruck_run F ls vs b).state.trace)
          (run (striking_step_of F ls None) (b - k) 0 (retraced [] (go_to y (state_at F ls vs k).running.own (state_at F ls vs k))))
      narrow_rest y =
          let s = state_at F ls vs k in
          ap (λ z. ending_of z (going_on_lem F ls b k y s)) known-trace
          ∙ ending_retraced F ls s.trace (drop (length s.trace) (unstruck_run F ls vs b).state.trace) (b - k) k 0 (go_to y s.running.own s)

      -- ---- the one step, made from the state without its trace
      made : Retraced (state_at F ls vs k).trace k 0 (before F ls vs (suc k)) (run (striking_step_of F ls None) 1 0 (retraced [] (state_at F ls vs k)))
      made =
          subst (λ y. Retraced (state_at F ls vs k).trace k 0 y (run (striking_step_of F ls None) 1 0 (retraced [] (state_at F ls vs k)))) (sym one_more)
          (run_retraced F ls (state_at F ls vs k).trace 1 k 0 (state_at F ls vs k))

      pub walk-over : outcome_of_lem (run (striking_step_of F ls None) 1 0 (retraced [] (state_at F ls vs k))).step ≢ 0 → (unstruck_run F ls vs b).steps ≡ suc k
      walk-over o =
          let q : b ≡ suc k + (b - suc k) = omega (arith, l, few-steps) in
          let r = ap (unstruck_run F ls vs) q ∙ run-over (striking_step_of F ls None) (suc k) (b - suc k) 0 (start_by F vs) (λ z. o (sym (ap outcome_of_lem made.step_is) ∙ z)) in
          omega (arith, l, ap (λ y. y.steps) r, run-bound (striking_step_of F ls None) (suc k) 0 (start_by F vs))

      -- it goes on
      pub record WalksOn : Type 0 where
        pub later : suc k < (unstruck_run F ls vs b).steps
        pub state_is : retraced [] (run (striking_step_of F ls None) 1 0 (retraced [] (state_at F ls vs k))).state ≡ retraced [] (state_at F ls vs (suc k))
        pub traced_is : length (state_at F ls vs (suc k)).trace
            ≡ length (state_at F ls vs k).trace + length (run (striking_step_of F ls None) 1 0 (retraced [] (state_at F ls vs k))).state.trace

      pub walks_on : (i : ℕ) → (run (striking_step_of F ls None) 1 0 (retraced [] (state_at F ls vs k))).step ≡ Went i → outcome_of_lem (unstruck_run F ls vs b).step ≡ 1 → WalksOn
      walks_on i e fin =
          let x = run (striking_step_of F ls None) 1 0 (retraced [] (state_at F ls vs k)) in
          let c = cut (suc k) (omega (arith, l, few-steps)) (went_on F ls _ i (made.step_is ∙ e)) in
          record {
            later =
                subst (λ y. suc k < y.steps) (sym c)
                (ended-later (b - suc k) (suc k) (state_at F ls vs (suc k)) (λ z. omega (arith, z, fin, ap (λ y. outcome_of_lem y.step) c)));
            state_is = sym (ap (retraced []) made.state_is);
            traced_is = ap (λ y. length y.trace) made.state_is ∙ length-append (state_at F ls vs k).trace x.state.trace;
          }
