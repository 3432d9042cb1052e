-- Which steps the sweep's third count comes from: those whose one narrow jump finishes with another trace; and how large the counts get.
-- Assumes nothing but the sweep's law, where it says so.
use mathlib.Core.Logic.{◌≢◌}
use mathlib.Core.Path.{◌≡◌, refl, sym, ap, ◌∙◌}
use mathlib.Core.Bool.{Bool, true, false, cond, ◌||◌, or-false}
use mathlib.Core.List.{List}
use Prim.Native.Nat.{ℕ, zero, suc, ◌+◌, ◌*◌, ◌-◌, ◌≤◌, ◌<◌}
use native.Mathlib.Omega.{arith}
use lib.Dec.{eqb, ltb}
use lib.ListN.{length}
use borrow.Author.Tests.{eq-eqb, ne_eqb}
use Rattle.rules.specs.declared.ending.Ending.{Ending}
use Rattle.rules.specs.declared.ending.Ending.TheVariants.{Alarmed, Same, Other, Unfinished}
use Rattle.rules.specs.Limits.{no_step}
use Rattle.rules.specs.Line.{Line}
use Rattle.rules.specs.Function.{function_at, start_of, last_place}
use Rattle.rules.specs.State.{State}
use Rattle.rules.specs.Run.{outcome_of_lem}
use Rattle.rules.specs.Form.{Form, place_line}
use Rattle.rules.specs.Demands.{caught_from}
use Rattle.rules.specs.RunPromise.{state_at}
use Rattle.rules.specs.Sweep.{ending_of, one, total, sum_counts, unstruck_run, places_at, struck_ending, sweep_step, sweep_of, any_other}
use Rattle.rules.specs.Settled.{across, going_on_lem, narrow_ending, wide_ending, settled_ending, StandsBefore, is_other_lem, SweepLaw}
use Rattle.rules.proofs.Logic.{Order, less, same, more, order, cond_either}
use Rattle.rules.proofs.Search.{Found, hit, miss, found}
use Rattle.rules.proofs.SweepSums.{sum_bound, total-sum, any_to, other-positive}
use Rattle.rules.proofs.Form.Sweep.{step-adds-up}

-- ---- any of the first n
pub any_same : (n : ℕ) (f g : ℕ → Bool) → ((p : ℕ) → p < n → f p ≡ g p) → any_to n f ≡ any_to n g
unfolding any_to
any_same zero f g e = refl
any_same (suc n) f g e = rw (any_same n f g (λ p l. e p (omega arith)), e n (omega arith))

any_none : (n : ℕ) (f : ℕ → Bool) → ((p : ℕ) → p < n → f p ≡ false) → any_to n f ≡ false
unfolding any_to
any_none zero f e = refl
any_none (suc n) f e = rw (any_none n f (λ p l. e p (omega arith))) (e n (omega arith))

-- none but that of q
any-only : (n q : ℕ) (f : ℕ → Bool) → q < n → ((p : ℕ) → p < n → p ≢ q → f p ≡ false) → any_to n f ≡ f q
unfolding any_to
any-only zero q f l e = absurd (omega arith)
any-only (suc n) q f l e = by (order q n) (λ l'. any-only n q f l' (λ p pl. e p (omega arith)))
  where
    by : Order q n → (q < n → any_to n f ≡ f q) → any_to n f || f n ≡ f q
    by (less h) ih = rw (ih h, e n (omega arith) (λ x. omega arith)) (or-false (f q))
    by (same h) ih = rw (any_none n f (λ p pl. e p (omega arith) (λ x. omega arith))) (ap f (sym h))
    by (more h) ih = absurd (omega arith)

one-other : (c : Ending) → ltb 0 (one c).other ≡ is_other_lem c
one-other Alarmed = refl
one-other Same = refl
one-other Other = refl
one-other Unfinished = refl

-- ---- of one step: of its places only the one across a do can end with another trace
module _ {H : Type 0} (F : Form H) (ls : List Line) (tr : List ℕ) (b k : ℕ) (s : State H) where
  not-across : (p : ℕ) → place_line ls p s ≢ across ls s.running.at → is_other_lem (settled_ending F ls tr b k s p) ≡ false
  unfolding settled_ending wide_ending
  not-across p n =
      rw (ne_eqb (place_line ls p s) (across ls s.running.at) n)
      (cond_either (λ x. is_other_lem x ≡ false) (eqb (place_line ls p s) s.running.at) Same (wide_ending ls b k p s) refl
      (cond_either (λ x. is_other_lem x ≡ false) (eqb (caught_from ls b k p s).outcome 2) Alarmed Unfinished refl refl))

  cond-again : (x : Bool) (z w : Ending) → cond x z (cond x z w) ≡ cond x z w
  cond-again true z w = refl
  cond-again false z w = refl

  at-across : (p : ℕ) → place_line ls p s ≡ across ls s.running.at → settled_ending F ls tr b k s p ≡ narrow_ending F ls tr b k s
  unfolding settled_ending narrow_ending
  at-across p e =
      let y = across ls s.running.at in
      rw (e, eq-eqb y y refl) (cond-again (eqb y s.running.at) Same (ending_of tr (going_on_lem F ls b k y s)))

  only-across : StandsBefore ls s.running.function s.running.at
      → any_to (suc (last_place ls s.running.function)) (λ p. is_other_lem (settled_ending F ls tr b k s p)) ≡ is_other_lem (narrow_ending F ls tr b k s)
  only-across w =
      let a = start_of ls s.running.function in
      let y = across ls s.running.at in
      let from = w.across_from in
      let to = w.across_before in
      let q : a + (y - a) ≡ y = omega (arith, from) in
      any-only (suc (last_place ls s.running.function)) (y - a) (λ p. is_other_lem (settled_ending F ls tr b k s p)) (omega (arith, from, to))
      (λ p l n. not-across p (λ x. n (omega (arith, x))))
      ∙ ap is_other_lem (at-across (y - a) q)

-- ---- of the whole sweep
module _ {H : Type 0} (F : Form H) (ls : List Line) (vs : List ℕ) (b : ℕ) where
  module _ (law : SweepLaw F ls vs b) (fin : outcome_of_lem (unstruck_run F ls vs b).step ≡ 1) (bl : b ≤ no_step) where
    pub other_at : (k : ℕ) → k < (unstruck_run F ls vs b).steps
        → ltb 0 (sweep_step F ls vs b k).other ≡ is_other_lem (narrow_ending F ls (unstruck_run F ls vs b).state.trace b k (state_at F ls vs k))
    unfolding sweep_step
    other_at k l =
        let n = places_at F ls vs k in
        let tr = (unstruck_run F ls vs b).state.trace in
        let s = state_at F ls vs k in
        other-positive n (λ p. one (struck_ending F ls vs b k p))
        ∙ any_same n (λ p. ltb 0 (one (struck_ending F ls vs b k p)).other) (λ p. is_other_lem (settled_ending F ls tr b k s p))
        (λ p pl. one-other (struck_ending F ls vs b k p) ∙ ap is_other_lem (law.settled fin bl k l p pl))
        ∙ only-across F ls tr b k s (law.stands k l)

    pub any-other : any_other (sweep_of F ls vs b)
        ≡ any_to (unstruck_run F ls vs b).steps (λ k. is_other_lem (narrow_ending F ls (unstruck_run F ls vs b).state.trace b k (state_at F ls vs k)))
    unfolding sweep_of
    any-other =
        let n = (unstruck_run F ls vs b).steps in
        other-positive n (sweep_step F ls vs b)
        ∙ any_same n (λ k. ltb 0 (sweep_step F ls vs b k).other) (λ k. is_other_lem (narrow_ending F ls (unstruck_run F ls vs b).state.trace b k (state_at F ls vs k))) other_at

  -- ---- at most 2,049 places for each step
  start-bound : (f : ℕ) → start_of ls f ≤ length ls
  unfolding start_of
  start-bound f = by _ (found (λ k. eqb (function_at ls k) f) (length ls) 0)
    where
      by : (r : ℕ) → Found (λ k. eqb (function_at ls k) f) (length ls) 0 r → r ≤ length ls
      by r (hit h l u n) = omega arith
      by r (miss q n) = omega arith

  places-bound : length ls ≤ 2048 → (k : ℕ) → places_at F ls vs k ≤ 2049
  places-bound h k = omega (arith, h, start-bound (suc (state_at F ls vs k).running.function))

  pub step-total-bound : length ls ≤ 2048 → (k : ℕ) → total (sweep_step F ls vs b k) ≤ 2049
  step-total-bound h k = omega (arith, step-adds-up F ls vs b k, places-bound h k)

  pub total-bound : length ls ≤ 2048 → (n : ℕ) → total (sum_counts n (sweep_step F ls vs b)) ≤ n * 2049
  total-bound h n = omega (arith, total-sum (sweep_step F ls vs b) n, sum_bound n 2049 (λ k. total (sweep_step F ls vs b k)) (λ k l. step-total-bound h k))
