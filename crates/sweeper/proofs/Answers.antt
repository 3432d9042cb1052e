-- What follows from a run that was tried, and recorded where it finishes. Assumes a hardened table.
use mathlib.Core.Path.{◌≡◌, ap, ◌∙◌}
use mathlib.Core.Bool.{Bool}
use mathlib.Core.List.{List}
use Prim.Native.Nat.{ℕ, ◌≤◌}
use native.Mathlib.Omega.{arith}
use lib.ListN.{length, take, drop, length-append}
use lib.Seq.{take-append_seam}
use borrow.Author.Tests.{eq-eqb, ne_eqb}
use Rattle.std.specs.Prelude.{Some, None}
use Rattle.rules.specs.declared.ending.Counts.{Counts}
use Rattle.rules.specs.Line.{lines_in}
use Rattle.rules.specs.Calls.{over}
use Rattle.rules.specs.Sweep.{sum_counts, sweep_step, sweep_of, any_other}
use Rattle.rules.specs.SweepCall.{unstruck_of}
use Rattle.sweeper.specs.Finishes.{Finishes}
use Rattle.sweeper.specs.Walk.{form}
use Rattle.sweeper.specs.Table.{outcome_in, PreparedBy, AnsweredBy, swept_with, swept_of, asked_with, asked_of}

-- ---- it is prepared
module _ (bs vs : List ℕ) (b : ℕ) (slots words slots' words' : List ℕ) (n : ℕ) (p : PreparedBy bs vs b slots words slots' words' (Some n)) where
  abbrev trace : List ℕ
  trace = (unstruck_of bs vs b).state.trace

  pub slots_are : slots' ≡ over trace slots
  slots_are = ap (λ x. x.slots) p.1

  rows_are : n ≡ length trace
  rows_are = ap (λ x. x.rows) p.1

  pub rows_in : n ≤ length slots'
  rows_in = omega (arith, rows_are, ap length slots_are, length-append trace (drop (length trace) slots))

  pub finishes : Finishes (lines_in bs) vs b (take n slots')
  finishes = record { finished = p.0; trace_is = ap (λ i. take i slots') rows_are ∙ ap (take (length trace)) slots_are ∙ take-append_seam trace (drop (length trace) slots) }

-- ---- it is answered
module _ (bs vs : List ℕ) (b : ℕ) (slots words slots' words' : List ℕ) {A : Type 0} (S : ℕ → A → Type 0) where
  pub swept-not : AnsweredBy S bs vs b slots words slots' words' None → swept_with None slots' words' ≡ swept_of bs vs b slots words
  swept-not k = rw (ne_eqb (outcome_in bs vs b) 1 k.0) (rw (k.1, k.2))

  pub asked-not : AnsweredBy S bs vs b slots words slots' words' None → asked_with None slots' words' ≡ asked_of bs vs b slots words
  asked-not k = rw (ne_eqb (outcome_in bs vs b) 1 k.0) (rw (k.1, k.2))

  module _ (x : A) (k : AnsweredBy S bs vs b slots words slots' words' (Some x)) where
    pub swept-is : (c : Counts) → c ≡ sum_counts (unstruck_of bs vs b).steps (sweep_step (form bs) (lines_in bs) vs b) → swept_with (Some c) slots' words' ≡ swept_of bs vs b slots words
    unfolding sweep_of
    swept-is c q = rw (eq-eqb (outcome_in bs vs b) 1 k.0) (rw (q, k.1, k.2))

    pub asked_is : (y : Bool) → y ≡ any_other (sum_counts (unstruck_of bs vs b).steps (sweep_step (form bs) (lines_in bs) vs b)) → asked_with (Some y) slots' words' ≡ asked_of bs vs b slots words
    unfolding sweep_of
    asked_is y q = rw (eq-eqb (outcome_in bs vs b) 1 k.0) (rw (q, k.1, k.2))
