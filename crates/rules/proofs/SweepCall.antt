-- The two calls of the sweep, by what the lines, the room and the unstruck run get; and what a caller is promised of them. Assumes nothing.
use mathlib.Core.Path.{◌≡◌, refl, sym, ap, ◌∙◌, subst}
use mathlib.Core.Logic.{◌≢◌}
use mathlib.Core.Bool.{Bool, true, false, not, ◌||◌}
use mathlib.Core.List.{List}
use Prim.Native.Nat.{ℕ, ◌≤◌, ◌<◌}
use native.Mathlib.Omega.{arith}
use lib.Dec.{eqb, ltb}
use lib.ListN.{length}
use borrow.Author.Tests.{lt-ltb, le-ltb, eq-eqb, ne_eqb}
use Rattle.rules.specs.declared.ending.Counts.{Counts}
use Rattle.rules.specs.declared.refusal.Refusal.{Refusal}
use Rattle.rules.specs.declared.refusal.Refusal.TheVariants.{ShortRoom, NotHardened, NotFinished}
use Rattle.rules.specs.Verdict.{Verdict, Accepted, Refused}
use Rattle.rules.specs.Refusal.{number_of, refuse_if_lem, and_then}
use Rattle.rules.specs.Bytes.{AreBytes}
use Rattle.rules.specs.Line.{lines_in}
use Rattle.rules.specs.ReadBack.{is_hardened_lem}
use Rattle.rules.specs.Run.{outcome_of_lem}
use Rattle.rules.specs.Hardened.{counter_form}
use Rattle.rules.specs.Calls.{over, short_trace, short_counters, counters_after, hardened_verdict}
use Rattle.rules.specs.Sweep.{total, sum_to, places_at, any_other}
use Rattle.rules.specs.SweepCall.{unstruck_of, counts_of, sweep_verdict, slots_after, counted, asked, Sweeping, Asking, sweep_call, sweep_other_call, summed, SweepPromise, SweepOtherPromise}
use Rattle.rules.proofs.Calls.{accepted-of, no_zero}
use Rattle.rules.proofs.Switch.Reading.{ten-exactly}
use Rattle.rules.proofs.Sweep.{sweeps}

-- ---- what the calls give back
-- turned away: number and zeros, everything lent unchanged
abbrev pub refused_sweeping : Refusal → (slots words : List ℕ) → Sweeping
refused_sweeping r slots words =
    record { swept = record { number = number_of (Refused r); alarms = 0; same = 0; other = 0; unfinished = 0 }; trace = slots; words = words }

abbrev pub refused_asking : Refusal → (slots words : List ℕ) → Asking
refused_asking r slots words = record { found = record { number = number_of (Refused r); other = false }; trace = slots; words = words }

-- accepted
abbrev pub accepted_sweeping : Counts → (trace slots words : List ℕ) → Sweeping
accepted_sweeping c trace slots words =
    record {
      swept = record { number = 0; alarms = c.alarms; same = c.same; other = c.other; unfinished = c.unfinished };
      trace = over trace slots;
      words = counters_after Accepted words;
    }

abbrev pub accepted_asking : Bool → (trace slots words : List ℕ) → Asking
accepted_asking o trace slots words =
    record { found = record { number = 0; other = o }; trace = over trace slots; words = counters_after Accepted words }

module _ (lines vs : List ℕ) (b : ℕ) (slots words : List ℕ) where
  -- ---- by the verdict
  sweep-by : {v : Verdict} → sweep_verdict lines vs b slots words ≡ v
      → sweep_call lines vs b slots words
      ≡ record { swept = counted v (counts_of lines vs b); trace = slots_after v (unstruck_of lines vs b).state.trace slots; words = counters_after v words }
  unfolding sweep_call
  sweep-by e =
      ap (λ v. record { swept = counted v (counts_of lines vs b); trace = slots_after v (unstruck_of lines vs b).state.trace slots; words = counters_after v words }) e

  ask-by : {v : Verdict} → sweep_verdict lines vs b slots words ≡ v
      → sweep_other_call lines vs b slots words
      ≡ record { found = asked v (counts_of lines vs b); trace = slots_after v (unstruck_of lines vs b).state.trace slots; words = counters_after v words }
  unfolding sweep_other_call
  ask-by e =
      ap (λ v. record { found = asked v (counts_of lines vs b); trace = slots_after v (unstruck_of lines vs b).state.trace slots; words = counters_after v words }) e

  sweep-refused-by : (r : Refusal) → sweep_verdict lines vs b slots words ≡ Refused r → sweep_call lines vs b slots words ≡ refused_sweeping r slots words
  unfolding counted slots_after counters_after
  sweep-refused-by r e = sweep-by e

  ask-refused-by : (r : Refusal) → sweep_verdict lines vs b slots words ≡ Refused r → sweep_other_call lines vs b slots words ≡ refused_asking r slots words
  unfolding asked slots_after counters_after
  ask-refused-by r e = ask-by e

  -- ---- the verdict
  -- by the lines, the slots, the words and the run's outcome
  verdict-by : {w x y z : Bool} → is_hardened_lem lines ≡ w → short_trace b slots ≡ x → short_counters words ≡ y → eqb (outcome_of_lem (unstruck_of lines vs b).step) 1 ≡ z
      → sweep_verdict lines vs b slots words
      ≡ and_then (and_then (refuse_if_lem (not w) NotHardened) (refuse_if_lem (x || y) ShortRoom)) (refuse_if_lem (not z) NotFinished)
  unfolding sweep_verdict hardened_verdict
  verdict-by {w} {x} {y} {z} e f g h = rw (e, f, g, h)

  verdict-not-hardened : is_hardened_lem lines ≡ false → sweep_verdict lines vs b slots words ≡ Refused NotHardened
  verdict-not-hardened e = verdict-by e refl refl refl

  verdict-no-slots : is_hardened_lem lines ≡ true → length slots < b → sweep_verdict lines vs b slots words ≡ Refused ShortRoom
  verdict-no-slots e l = verdict-by e (lt-ltb (length slots) b l) refl refl

  verdict-no-words : is_hardened_lem lines ≡ true → b ≤ length slots → length words < 1024 → sweep_verdict lines vs b slots words ≡ Refused ShortRoom
  verdict-no-words e l g = verdict-by e (le-ltb (length slots) b l) (lt-ltb (length words) 1024 g) refl

  verdict-not-finished : is_hardened_lem lines ≡ true → b ≤ length slots → 1024 ≤ length words → outcome_of_lem (unstruck_of lines vs b).step ≢ 1
      → sweep_verdict lines vs b slots words ≡ Refused NotFinished
  verdict-not-finished e l g n = verdict-by e (le-ltb (length slots) b l) (le-ltb (length words) 1024 g) (ne_eqb _ 1 n)

  verdict-accepted : is_hardened_lem lines ≡ true → b ≤ length slots → 1024 ≤ length words → outcome_of_lem (unstruck_of lines vs b).step ≡ 1
      → sweep_verdict lines vs b slots words ≡ Accepted
  verdict-accepted e l g o = verdict-by e (le-ltb (length slots) b l) (le-ltb (length words) 1024 g) (eq-eqb _ 1 o)

  -- ---- sweep
  pub sweep-not-hardened : is_hardened_lem lines ≡ false → sweep_call lines vs b slots words ≡ refused_sweeping NotHardened slots words
  sweep-not-hardened e = sweep-refused-by NotHardened (verdict-not-hardened e)

  pub sweep-no-slots : is_hardened_lem lines ≡ true → length slots < b → sweep_call lines vs b slots words ≡ refused_sweeping ShortRoom slots words
  sweep-no-slots e l = sweep-refused-by ShortRoom (verdict-no-slots e l)

  pub sweep-no-words : is_hardened_lem lines ≡ true → b ≤ length slots → length words < 1024 → sweep_call lines vs b slots words ≡ refused_sweeping ShortRoom slots words
  sweep-no-words e l g = sweep-refused-by ShortRoom (verdict-no-words e l g)

  pub sweep-not-finished : is_hardened_lem lines ≡ true → b ≤ length slots → 1024 ≤ length words → outcome_of_lem (unstruck_of lines vs b).step ≢ 1
      → sweep_call lines vs b slots words ≡ refused_sweeping NotFinished slots words
  sweep-not-finished e l g n = sweep-refused-by NotFinished (verdict-not-finished e l g n)

  pub sweep-accepted : is_hardened_lem lines ≡ true → b ≤ length slots → 1024 ≤ length words → outcome_of_lem (unstruck_of lines vs b).step ≡ 1
      → sweep_call lines vs b slots words ≡ accepted_sweeping (counts_of lines vs b) (unstruck_of lines vs b).state.trace slots words
  unfolding counted slots_after
  sweep-accepted e l g o = sweep-by (verdict-accepted e l g o)

  -- ---- whether any ends otherwise
  pub ask-not-hardened : is_hardened_lem lines ≡ false → sweep_other_call lines vs b slots words ≡ refused_asking NotHardened slots words
  ask-not-hardened e = ask-refused-by NotHardened (verdict-not-hardened e)

  pub ask-no-slots : is_hardened_lem lines ≡ true → length slots < b → sweep_other_call lines vs b slots words ≡ refused_asking ShortRoom slots words
  ask-no-slots e l = ask-refused-by ShortRoom (verdict-no-slots e l)

  pub ask-no-words : is_hardened_lem lines ≡ true → b ≤ length slots → length words < 1024 → sweep_other_call lines vs b slots words ≡ refused_asking ShortRoom slots words
  ask-no-words e l g = ask-refused-by ShortRoom (verdict-no-words e l g)

  pub ask-not-finished : is_hardened_lem lines ≡ true → b ≤ length slots → 1024 ≤ length words → outcome_of_lem (unstruck_of lines vs b).step ≢ 1
      → sweep_other_call lines vs b slots words ≡ refused_asking NotFinished slots words
  ask-not-finished e l g n = ask-refused-by NotFinished (verdict-not-finished e l g n)

  pub ask-accepted : is_hardened_lem lines ≡ true → b ≤ length slots → 1024 ≤ length words → outcome_of_lem (unstruck_of lines vs b).step ≡ 1
      → sweep_other_call lines vs b slots words ≡ accepted_asking (any_other (counts_of lines vs b)) (unstruck_of lines vs b).state.trace slots words
  unfolding asked slots_after
  ask-accepted e l g o = ask-by (verdict-accepted e l g o)

  -- ---- the numbers
  counted-number : (v : Verdict) (c : Counts) → (counted v c).number ≡ number_of v
  unfolding counted
  counted-number Accepted c = refl
  counted-number (Refused r) c = refl

  asked-number : (v : Verdict) (c : Counts) → (asked v c).number ≡ number_of v
  unfolding asked
  asked-number Accepted c = refl
  asked-number (Refused r) c = refl

  sweep-number : (sweep_call lines vs b slots words).swept.number ≡ number_of (sweep_verdict lines vs b slots words)
  unfolding sweep_call
  sweep-number = counted-number (sweep_verdict lines vs b slots words) (counts_of lines vs b)

  ask-number : (sweep_other_call lines vs b slots words).found.number ≡ number_of (sweep_verdict lines vs b slots words)
  unfolding sweep_other_call
  ask-number = asked-number (sweep_verdict lines vs b slots words) (counts_of lines vs b)

  -- a hardened table meets nothing but 9 and 13
  not-ten-by : (x z : Bool) → number_of (and_then (refuse_if_lem x ShortRoom) (refuse_if_lem (not z) NotFinished)) ≢ 10
  not-ten-by true z e = omega arith
  not-ten-by false true e = omega arith
  not-ten-by false false e = omega arith

  not-ten : is_hardened_lem lines ≡ true → number_of (sweep_verdict lines vs b slots words) ≢ 10
  not-ten h e =
      not-ten-by (short_trace b slots || short_counters words) (eqb (outcome_of_lem (unstruck_of lines vs b).step) 1) (sym (ap number_of (verdict-by h refl refl refl)) ∙ e)

  hardened-by : (x : Bool) → is_hardened_lem lines ≡ x → sweep_verdict lines vs b slots words ≡ Accepted → is_hardened_lem lines ≡ true
  hardened-by true h e = h
  hardened-by false h e = absurd (no_zero NotHardened (ap number_of (sym (verdict-not-hardened h) ∙ e)))

  -- ---- the four counts
  counted-sum : {v : Verdict} (c : Counts) → v ≡ Accepted → summed (counted v c) ≡ total c
  unfolding counted
  counted-sum c e = ap (λ v. summed (counted v c)) e

  sums-up : (sweep_call lines vs b slots words).swept.number ≡ 0
      → summed (sweep_call lines vs b slots words).swept ≡ sum_to (unstruck_of lines vs b).steps (places_at (counter_form (lines_in lines)) (lines_in lines) vs)
  unfolding sweep_call
  sums-up z =
      let ok = accepted-of (sweep_verdict lines vs b slots words) (sym (counted-number (sweep_verdict lines vs b slots words) (counts_of lines vs b)) ∙ z) in
      counted-sum (counts_of lines vs b) ok ∙ (sweeps lines vs b (hardened-by (is_hardened_lem lines) refl ok)).adds_up

  other-alike : (v : Verdict) (c : Counts) → (asked v c).other ≡ ltb 0 (counted v c).other
  unfolding asked counted
  other-alike Accepted c = refl
  other-alike (Refused r) c = refl

  ask-other : (sweep_other_call lines vs b slots words).found.other ≡ ltb 0 (sweep_call lines vs b slots words).swept.other
  unfolding sweep_call sweep_other_call
  ask-other = other-alike (sweep_verdict lines vs b slots words) (counts_of lines vs b)

  -- ---- whatever is what the call's definition gives keeps the promise
  pub sweep-promise : (x : Sweeping) → AreBytes lines → x ≡ sweep_call lines vs b slots words → SweepPromise lines vs b slots words x
  sweep-promise x w e = subst (SweepPromise lines vs b slots words) (sym e) kept
    where
      kept : SweepPromise lines vs b slots words (sweep_call lines vs b slots words)
      kept =
          record {
            answers = refl;
            ten = ten-exactly lines _ w (λ h z. not-ten h (sym sweep-number ∙ z)) (λ h. sweep-number ∙ ap number_of (verdict-not-hardened h));
            adds_up = sums-up;
          }

  pub sweep_other_promise : (x : Asking) → AreBytes lines → x ≡ sweep_other_call lines vs b slots words → SweepOtherPromise lines vs b slots words x
  sweep_other_promise x w e = subst (SweepOtherPromise lines vs b slots words) (sym e) kept
    where
      kept : SweepOtherPromise lines vs b slots words (sweep_other_call lines vs b slots words)
      kept =
          record {
            answers = refl;
            ten = ten-exactly lines _ w (λ h z. not-ten h (sym ask-number ∙ z)) (λ h. ask-number ∙ ap number_of (verdict-not-hardened h));
            number_is = ask-number ∙ sym sweep-number;
            other_is = ask-other;
          }
