-- The whole sweep of every strict form: the four counts add up, and where the unstruck run finishes each place is settled by a test, but for
-- the one across a do. Assumes that the table is accepted, where it says so.
use mathlib.Core.Logic.{◌≢◌}
use mathlib.Core.Path.{◌≡◌, refl, sym, ap, ◌∙◌, subst}
use mathlib.Core.Bool.{Bool, true, false, cond, not}
use mathlib.Core.List.{List}
use Prim.Native.Nat.{ℕ, zero, suc, ◌+◌, ◌-◌, ◌≤◌, ◌<◌}
use native.Mathlib.Omega.{arith}
use lib.Dec.{eqb, ltb}
use borrow.Author.Tests.{eq-eqb, ne_eqb, eqb-true, eqb-false, lt-ltb}
use Rattle.rules.specs.declared.ending.Ending.TheVariants.{Alarmed, Same, Unfinished}
use Rattle.rules.specs.Strike.{None}
use Rattle.rules.specs.Limits.{no_step}
use Rattle.rules.specs.Row.{Table}
use Rattle.rules.specs.Line.{Line}
use Rattle.rules.specs.Harden.{harden}
use Rattle.rules.specs.Function.{last_place}
use Rattle.rules.specs.State.{State}
use Rattle.rules.specs.Run.{Turn, on, ends, untaken, Answer, after, run, outcome_of_lem}
use Rattle.rules.specs.Form.{Form, strike_by_lem, place_line, striking_step_of, start_by, run_of}
use Rattle.rules.specs.Match.{guard_between}
use Rattle.rules.specs.Demands.{before, strikes, alarm_step, done_at, overflows_at, overflow_in, alarm_in, caught_from}
use Rattle.rules.specs.RunPromise.{state_at}
use Rattle.rules.specs.Sweep.{ending_of, one, total, sum_to, unstruck_run, places_at, struck_ending, sweep_step, sweep_of}
use Rattle.rules.specs.Settled.{across, going_on_lem, narrow_ending, wide_ending, settled_ending, StandsBefore, SweepLaw}
use Rattle.std.proofs.lemmas.Bool.{and_from}
use Rattle.rules.proofs.Encode.{same_refl}
use Rattle.rules.proofs.SweepSums.{sum_same, sum_ones, total-sum, one-total}
use Rattle.rules.proofs.Accepted.{Proper}
use Rattle.rules.proofs.FunctionLine.{first-in}
use Rattle.rules.proofs.Across.{parted, stands-before}
use Rattle.rules.proofs.Form.Settles.{Settles}
use Rattle.rules.proofs.Form.Where as Where
use Rattle.rules.proofs.Form.Strict.{Strict}
use Rattle.rules.proofs.Form.Struck.{kept, goes_plainly, goes_struck}
use Rattle.rules.proofs.Form.Trace.{run-over}
use Rattle.rules.proofs.Form.Jump.{Goes, onward, goes-start, jumped}

pub run-bound : {C : Type 0} (m : ℕ → State C → Turn C) (b k : ℕ) (s : State C) → (run m b k s).steps ≤ k + b
unfolding run
run-bound m zero k s = omega arith
run-bound {C} m (suc b) k s = by (m k s) (λ s'. run-bound m b (suc k) s')
  where
    by : (r : Turn C) → ((s' : State C) → (run m b (suc k) s').steps ≤ suc k + b) → (after k r (λ s'. run m b (suc k) s')).steps ≤ k + suc b
    by (on s') ih = omega (arith, ih s')
    by (ends y s') ih = omega arith
    by (untaken y s') ih = omega arith

-- ---- of any lines
module _ {H : Type 0} (F : Form H) (ls : List Line) (vs : List ℕ) (b : ℕ) where
  -- the four add up
  pub step-adds-up : (k : ℕ) → total (sweep_step F ls vs b k) ≡ places_at F ls vs k
  unfolding sweep_step
  step-adds-up k =
      total-sum (λ p. one (struck_ending F ls vs b k p)) (places_at F ls vs k)
      ∙ sum_ones (places_at F ls vs k) (λ p. total (one (struck_ending F ls vs b k p))) (λ p l. one-total (struck_ending F ls vs b k p))

  adds_up : total (sweep_of F ls vs b) ≡ sum_to (unstruck_run F ls vs b).steps (places_at F ls vs)
  unfolding sweep_of
  adds_up =
      let n = (unstruck_run F ls vs b).steps in
      total-sum (sweep_step F ls vs b) n ∙ sum_same n (λ k. total (sweep_step F ls vs b k)) (places_at F ls vs) (λ k l. step-adds-up k)

  -- a step below the run's length is reached
  module _ (k : ℕ) (l : k < (unstruck_run F ls vs b).steps) where
    in-budget : k < b
    in-budget = omega (arith, l, run-bound (striking_step_of F ls None) b 0 (start_by F vs))

    pub reached : outcome_of_lem (before F ls vs k).step ≡ 0
    unfolding in-budget
    reached = by (eqb (outcome_of_lem (before F ls vs k).step) 0) refl
      where
        by : (x : Bool) → eqb (outcome_of_lem (before F ls vs k).step) 0 ≡ x → outcome_of_lem (before F ls vs k).step ≡ 0
        by true e = eqb-true _ _ e
        by false e =
            let q : b ≡ k + (b - k) = omega (arith, in-budget) in
            let r : unstruck_run F ls vs b ≡ before F ls vs k = ap (λ y. unstruck_run F ls vs y) q ∙ run-over (striking_step_of F ls None) k (b - k) 0 (start_by F vs) (eqb-false _ _ e) in
            absurd (omega (arith, l, ap (λ y. y.steps) r, run-bound (striking_step_of F ls None) k 0 (start_by F vs)))

    pub hits : b ≤ no_step → strikes F ls vs b k ≡ true
    unfolding in-budget
    hits bl = and_from _ _ (and_from _ _ (ap not (ne_eqb k no_step (omega (arith, in-budget)))) (lt-ltb k b in-budget)) (eq-eqb _ _ reached)

-- the endings that need no run
ending-caught : {H : Type 0} (tr : List ℕ) (a : Answer H) (o : ℕ) → outcome_of_lem a.step ≡ o → o ≢ 1 → ending_of tr a ≡ cond (eqb o 2) Alarmed Unfinished
unfolding ending_of
ending-caught tr a o e n = rw (e, ne_eqb o 1 n)

-- a wide jump never finishes
pub caught-outcome : {H : Type 0} (ls : List Line) (b k p : ℕ) (s : State H) → (caught_from ls b k p s).outcome ≡ cond (overflows_at ls p s) 5 (cond (ltb (alarm_step ls p k s) b) 2 0)
unfolding caught_from
caught-outcome ls b k p s = by (overflows_at ls p s)
  where
    by : (x : Bool) → (cond x (overflow_in k s) (alarm_in (alarm_step ls p k s) b (done_at ls p s))).outcome ≡ cond x 5 (cond (ltb (alarm_step ls p k s) b) 2 0)
    by true = refl
    by false = refl

caught-unfinished : {H : Type 0} (ls : List Line) (b k p : ℕ) (s : State H) → (caught_from ls b k p s).outcome ≢ 1
caught-unfinished ls b k p s = subst (λ o. o ≢ 1) (sym (caught-outcome ls b k p s)) (by (overflows_at ls p s) (ltb (alarm_step ls p k s) b))
  where
    by : (x y : Bool) → ◌≢◌ {A = ℕ} (cond x 5 (cond y 2 0)) 1
    by true y = omega arith
    by false true = omega arith
    by false false = omega arith

ending-own : {H : Type 0} (a : Answer H) → outcome_of_lem a.step ≡ 1 → ending_of a.state.trace a ≡ Same
unfolding ending_of
ending-own a e = rw (e, same_refl a.state.trace)

-- ---- of the lines of a table
module _ (t : Table) (ok : Proper t) {H : Type 0} {F : Form H} (S : Settles t F) (R : Strict S) (vs : List ℕ) (b : ℕ) where
  -- where the run stands
  stands_at : (h : State H) → Goes S h → StandsBefore (harden t) h.running.function h.running.at
  stands_at h g =
      let r = g.related in
      let w = Where.stands t ok S r.n r.i r.j r.k r.w (S.seen r.l) r.f r.fs r.in_function r.mode in
      rw r.h_is
      (stands-before t ok r.n r.k r.in_function.known (omega (arith, w.line_is, (first-in t ok w.in_function).not_before)) w.in_lines)

  module _ (k : ℕ) (l : k < (unstruck_run F (harden t) vs b).steps) where
    stands : StandsBefore (harden t) (state_at F (harden t) vs k).running.function (state_at F (harden t) vs k).running.at
    stands = stands_at (state_at F (harden t) vs k) (kept F (harden t) (Goes S) (onward t ok S) vs (goes-start t ok S vs) k (reached F (harden t) vs b k l))

    module _ (fin : outcome_of_lem (unstruck_run F (harden t) vs b).step ≡ 1) (bl : b ≤ no_step) (p : ℕ) (pl : p < places_at F (harden t) vs k) where
      struck : strikes F (harden t) vs b k ≡ true
      struck = hits F (harden t) vs b k l bl

      in-places : p ≤ last_place (harden t) (state_at F (harden t) vs k).running.function
      in-places = omega arith

      abbrev s : State H
      s = state_at F (harden t) vs k

      abbrev trace : List ℕ
      trace = (unstruck_run F (harden t) vs b).state.trace

      goes-on-there : run_of F (harden t) (strike_by_lem k p) b vs ≡ going_on_lem F (harden t) b k (place_line (harden t) p s) s
      goes-on-there = goes_struck F (harden t) (Goes S) (onward t ok S) vs (goes-start t ok S vs) b k struck p in-places

      -- its own place changes nothing
      own-place : place_line (harden t) p s ≡ s.running.at → struck_ending F (harden t) vs b k p ≡ Same
      own-place e =
          ap (ending_of trace)
          (goes-on-there ∙ ap (λ y. going_on_lem F (harden t) b k y s) e ∙ sym (goes_plainly F (harden t) (Goes S) (onward t ok S) vs (goes-start t ok S vs) b k struck))
          ∙ ending-own (unstruck_run F (harden t) vs b) fin

      -- a wide one is caught
      wide-place : guard_between (harden t) s.running.at (place_line (harden t) p s) ≡ true → struck_ending F (harden t) vs b k p ≡ wide_ending (harden t) b k p s
      unfolding wide_ending
      wide-place w =
          ending-caught trace (run_of F (harden t) (strike_by_lem k p) b vs) (caught_from (harden t) b k p s).outcome (ap (λ y. y.outcome) ((jumped t ok S R vs b k p).caught struck in-places w))
          (caught-unfinished (harden t) b k p s)

      -- the one across a do is run
      narrow-place : place_line (harden t) p s ≡ across (harden t) s.running.at → place_line (harden t) p s ≢ s.running.at → struck_ending F (harden t) vs b k p ≡ narrow_ending F (harden t) trace b k s
      unfolding narrow_ending
      narrow-place e n =
          rw (ne_eqb (across (harden t) s.running.at) s.running.at (λ q. n (e ∙ q)))
          (ap (ending_of trace) (goes-on-there ∙ ap (λ y. going_on_lem F (harden t) b k y s) e))

      settled : struck_ending F (harden t) vs b k p ≡ settled_ending F (harden t) trace b k s p
      unfolding settled_ending
      settled = own (eqb (place_line (harden t) p s) s.running.at) refl
        where
          other : (y : Bool) → eqb (place_line (harden t) p s) (across (harden t) s.running.at) ≡ y → place_line (harden t) p s ≢ s.running.at
              → struck_ending F (harden t) vs b k p ≡ cond y (narrow_ending F (harden t) trace b k s) (wide_ending (harden t) b k p s)
          other true e n = narrow-place (eqb-true _ _ e) n
          other false e n = wide-place (parted t s.running.at (place_line (harden t) p s) n (eqb-false _ _ e))

          own : (y : Bool) → eqb (place_line (harden t) p s) s.running.at ≡ y
              → struck_ending F (harden t) vs b k p
              ≡ cond y Same
              (cond (eqb (place_line (harden t) p s) (across (harden t) s.running.at)) (narrow_ending F (harden t) trace b k s) (wide_ending (harden t) b k p s))
          own true e = own-place (eqb-true _ _ e)
          own false e = other (eqb (place_line (harden t) p s) (across (harden t) s.running.at)) refl (eqb-false _ _ e)

  pub swept : SweepLaw F (harden t) vs b
  swept = record { adds_up = adds_up F (harden t) vs b; stands = stands; settled = λ fin bl k l p pl. settled k l fin bl p pl }
