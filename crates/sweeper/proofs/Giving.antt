-- What the two calls give back, by what the sweep of the table came to. Assumes a hardened table, and slots and words enough.
use mathlib.Core.Path.{◌≡◌, refl, sym, ap, ◌∙◌}
use mathlib.Core.Bool.{Bool, true, false, cond}
use mathlib.Core.List.{List, ◌++◌}
use Prim.Native.Nat.{ℕ, ◌≤◌}
use native.Mathlib.Omega.{arith}
use lib.Dec.{eqb}
use lib.ListN.{length, take, drop, take-append-drop}
use borrow.Author.Tests.{eqb-true, eqb-false}
use Rattle.rules.specs.declared.answer.Swept.{Swept}
use Rattle.rules.specs.declared.answer.AnyOther.{AnyOther}
use Rattle.rules.specs.declared.ending.Counts.{Counts}
use Rattle.rules.specs.declared.refusal.Refusal.TheVariants.{NotFinished}
use Rattle.rules.specs.Calls.{over, zeros}
use Rattle.rules.specs.ReadBack.{is_hardened_lem}
use Rattle.rules.specs.Sweep.{any_other}
use Rattle.rules.specs.SweepCall.{unstruck_of, counts_of, sweep_call, sweep_other_call}
use Rattle.rules.proofs.SweepCall.{sweep-not-finished, sweep-accepted, ask-not-finished, ask-accepted}
use Rattle.guard.proofs.Zeroed.{words-after}
use Rattle.std.specs.Prelude.{Option, Some, None}
use Rattle.sweeper.specs.Table.{outcome_in, swept_with, swept_of, asked_with, asked_of}
use Rattle.sweeper.specs.Call.{sweeps, asks, counts_in, refused_swept, refused_any_lem}

module _ (bs vs : List ℕ) (b : ℕ) (slots ws : List ℕ) (h : is_hardened_lem bs ≡ true) (l : b ≤ length slots) (g : 1024 ≤ length ws) where
  abbrev after : List ℕ
  after = over (unstruck_of bs vs b).state.trace slots

  -- ---- sweep
  module _ (x : Option Counts) (slots' ws' : List ℕ) (e : swept_with x slots' ws' ≡ swept_of bs vs b slots (take 1024 ws)) where
    -- what it came to, by whether the run finishes
    abbrev came : Bool → Type 0
    came v = swept_with x slots' ws' ≡ cond v (swept_with (Some (counts_of bs vs b)) after (zeros 1024)) (swept_with None slots (take 1024 ws))

    pub sweep-not : x ≡ None → (r : Swept) → r ≡ refused_swept NotFinished → sweeps r slots' (ws' ++ drop 1024 ws) ≡ sweep_call bs vs b slots ws
    sweep-not q r z = by (eqb (outcome_in bs vs b) 1) refl e
      where
        by : (v : Bool) → eqb (outcome_in bs vs b) 1 ≡ v → came v → sweeps r slots' (ws' ++ drop 1024 ws) ≡ sweep_call bs vs b slots ws
        by true p c = absurd (let n : ◌≡◌ {A = ℕ} 0 1 = cc (q, ap (λ y. y.answer) c) in omega arith)
        by false p c =
            rw (z, ap (λ y. y.slots) c, ap (λ y. y.words ++ drop 1024 ws) c ∙ take-append-drop 1024 ws)
            (sym (sweep-not-finished bs vs b slots ws h l g (eqb-false (outcome_in bs vs b) 1 p)))

    pub sweep-counted : (c : Counts) → x ≡ Some c → (r : Swept) → r ≡ counts_in c → sweeps r slots' (ws' ++ drop 1024 ws) ≡ sweep_call bs vs b slots ws
    sweep-counted c q r z = by (eqb (outcome_in bs vs b) 1) refl e
      where
        by : (v : Bool) → eqb (outcome_in bs vs b) 1 ≡ v → came v → sweeps r slots' (ws' ++ drop 1024 ws) ≡ sweep_call bs vs b slots ws
        by true p k =
            let n : c ≡ counts_of bs vs b = cc (q, ap (λ y. y.answer) k) in
            rw (z, n, ap (λ y. y.slots) k, ap (λ y. y.words ++ drop 1024 ws) k ∙ words-after ws)
            (sym (sweep-accepted bs vs b slots ws h l g (eqb-true (outcome_in bs vs b) 1 p)))
        by false p k = absurd (let n : ◌≡◌ {A = ℕ} 0 1 = cc (q, ap (λ y. y.answer) k) in omega arith)

  -- ---- whether any ends otherwise
  module _ (x : Option Bool) (slots' ws' : List ℕ) (e : asked_with x slots' ws' ≡ asked_of bs vs b slots (take 1024 ws)) where
    abbrev told : Bool → Type 0
    told v = asked_with x slots' ws' ≡ cond v (asked_with (Some (any_other (counts_of bs vs b))) after (zeros 1024)) (asked_with None slots (take 1024 ws))

    pub ask-not : x ≡ None → (r : AnyOther) → r ≡ refused_any_lem NotFinished → asks r slots' (ws' ++ drop 1024 ws) ≡ sweep_other_call bs vs b slots ws
    ask-not q r z = by (eqb (outcome_in bs vs b) 1) refl e
      where
        by : (v : Bool) → eqb (outcome_in bs vs b) 1 ≡ v → told v → asks r slots' (ws' ++ drop 1024 ws) ≡ sweep_other_call bs vs b slots ws
        by true p k = absurd (let n : ◌≡◌ {A = ℕ} 0 1 = cc (q, ap (λ y. y.answer) k) in omega arith)
        by false p k =
            rw (z, ap (λ y. y.slots) k, ap (λ y. y.words ++ drop 1024 ws) k ∙ take-append-drop 1024 ws)
            (sym (ask-not-finished bs vs b slots ws h l g (eqb-false (outcome_in bs vs b) 1 p)))

    pub ask-told : (y : Bool) → x ≡ Some y → asks (record { number = 0; other = y }) slots' (ws' ++ drop 1024 ws) ≡ sweep_other_call bs vs b slots ws
    ask-told y q = by (eqb (outcome_in bs vs b) 1) refl e
      where
        by : (v : Bool) → eqb (outcome_in bs vs b) 1 ≡ v → told v → asks (record { number = 0; other = y }) slots' (ws' ++ drop 1024 ws) ≡ sweep_other_call bs vs b slots ws
        by true p k =
            let n : y ≡ any_other (counts_of bs vs b) = cc (q, ap (λ z. z.answer) k) in
            rw (n, ap (λ z. z.slots) k, ap (λ z. z.words ++ drop 1024 ws) k ∙ words-after ws)
            (sym (ask-accepted bs vs b slots ws h l g (eqb-true (outcome_in bs vs b) 1 p)))
        by false p k = absurd (let n : ◌≡◌ {A = ℕ} 0 1 = cc (q, ap (λ z. z.answer) k) in omega arith)
