-- What the code finds of its run is what the definitions say of theirs. Assumes a hardened table, where it says so.
use mathlib.Core.Path.{◌≡◌, refl, sym, ap, ◌∙◌}
use mathlib.Core.Bool.{Bool, true, false, cond, not, ◌&&◌}
use mathlib.Core.List.{List}
use Prim.Native.Nat.{ℕ, ◌≤◌, ◌<◌}
use native.Mathlib.Decide.{dec_lt}
use native.Mathlib.Omega.{arith}
use lib.Dec.{eqb, ltb}
use lib.ListN.{length}
use borrow.Author.Tests.{ne_eqb, le-leb, lt-leb, lt-ltb, le-ltb}
use Rattle.rules.specs.declared.step.Step.{Step}
use Rattle.rules.specs.declared.step.Step.TheVariants.{Went, Finished, Alarm, TooManyOpen, Beyond, Overflow}
use Rattle.rules.specs.Limits.{no_step}
use Rattle.rules.specs.Line.{lines_in}
use Rattle.rules.specs.Run.{Answer, outcome_of_lem}
use Rattle.rules.specs.Hardened.{Counters, Hardened, counter_form, hardened_start}
use Rattle.rules.specs.Demands.{before}
use Rattle.state.specs.declared.machine.Machine.{Machine}
use Rattle.state.specs.Machine.{begun_at, onward}
use Rattle.state.proofs.Ends.{IsEnd, onward-end}
use Rattle.guard.specs.Counters.{fresh_at}
use Rattle.machine.specs.Step.{Map, Parts, After}
use Rattle.machine.specs.Run.{parts_in, run_of}
use Rattle.machine.specs.Stands.{Ready, Stands}
use Rattle.machine.proofs.Runs.{Ended, run-agrees}
use Rattle.machine.proofs.Start.{stands-start}
use Rattle.strike.proofs.Jumps.{first-line, places-are}
use Rattle.slip.specs.declared.amount.Amount.{Amount}
use Rattle.slip.specs.declared.amount.Amount.TheVariants.{NotSmall}
use Rattle.slip.specs.Amount.{amount_from, amount_of, amount_at, amount_after, amount_run}

-- ---- the code's run, by what its first k steps come to
module _ (bs : List ℕ) (m : Map) (b k place : ℕ) (p : Parts) where
  pub run-late : b ≤ k → NotSmall ≡ amount_run bs m b k place p
  unfolding amount_run
  run-late h = rw (le-leb b k h)

  run-after : k < b → (a : After) → a ≡ run_of bs m k p → amount_after bs m place a ≡ amount_run bs m b k place p
  unfolding amount_run
  run-after h a e = rw (lt-leb b k h) (ap (amount_after bs m place) e)

  pub run-ended : k < b → (a : After) → a ≡ run_of bs m k p → IsEnd a.step → NotSmall ≡ amount_run bs m b k place p
  run-ended h a e n = sym (onward-end a.step n (λ j. amount_at bs m a.parts.registers place) NotSmall) ∙ run-after h a e

  pub run-there : k < b → (a : After) → a ≡ run_of bs m k p → (j : ℕ) → a.step ≡ Went j → {r : Amount} → r ≡ amount_at bs m a.parts.registers place → r ≡ amount_run bs m b k place p
  run-there h a e j w q = q ∙ ap (λ x. onward x (λ j. amount_at bs m a.parts.registers place) NotSmall) (sym w) ∙ run-after h a e

-- ---- where the machine stands for a state
at-state : (bs : List ℕ) (m : Map) → Ready bs m → (held : List ℕ) (p : Parts) (s : Hardened) → Stands (lines_in bs) held p s → (place : ℕ) → amount_at bs m p.registers place ≡ amount_from bs place s
unfolding amount_at amount_from
at-state bs m rd held p s st place =
    rw (places-are bs m rd held p s st, first-line bs m rd held p s st, st.at_is)

-- ---- and so of the whole
module _ (bs : List ℕ) (m : Map) (rd : Ready bs m) (vs ws tr : List ℕ) (x : Machine) (bg : x ≡ begun_at 0 vs) (long : length ws ≡ 1024) (b k place : ℕ) (h : b ≤ length tr) (few : b ≤ 65535) where
  abbrev parts : Parts
  parts = parts_in x (fresh_at ws 0 1) tr

  abbrev first : Answer Counters
  first = before (counter_form (lines_in bs)) (lines_in bs) vs k

  -- not struck: the budget, or the run, ends before
  late : b ≤ k → amount_of bs vs b k place ≡ NotSmall
  unfolding amount_of
  late l = by (eqb k no_step)
    where
      by : (y : Bool) → cond (not y && ltb k b && eqb (outcome_of_lem first.step) 0) (amount_from bs place first.state) NotSmall ≡ NotSmall
      by true = refl
      by false = rw (le-ltb k b l)

  agree-by : k < b → Ended (lines_in bs) tr (run_of bs m k parts) first → amount_run bs m b k place parts ≡ amount_of bs vs b k place
  unfolding amount_of amount_run outcome_of_lem
  agree-by l e = rw (lt-leb b k l, ne_eqb k no_step (omega arith), lt-ltb k b l, e.step_is) (by first.step refl)
    where
      by : (o : Step) → first.step ≡ o
          → onward o (λ j. amount_at bs m (run_of bs m k parts).parts.registers place) NotSmall ≡ cond (eqb (outcome_of_lem o) 0) (amount_from bs place first.state) NotSmall
      by (Went j) q = at-state bs m rd tr (run_of bs m k parts).parts first.state (e.still_stands j q) place
      by Finished q = refl
      by Alarm q = refl
      by (TooManyOpen n) q = refl
      by (Beyond n) q = refl
      by (Overflow n v) q = refl

  agree : amount_run bs m b k place parts ≡ amount_of bs vs b k place
  agree = by (dec_lt k b)
    where
      st : Stands (lines_in bs) tr parts (hardened_start vs)
      st = stands-start bs vs ws tr x rd.sound bg long b h few

      by : Dec (k < b) → amount_run bs m b k place parts ≡ amount_of bs vs b k place
      by (yes l) = agree-by l (run-agrees bs m rd tr k 0 parts (hardened_start vs) st (ap (λ y. y.registers.steps) bg) (omega (arith, ap (λ y. y.registers.traced) bg)) (omega arith))
      by (no n) = sym (run-late bs m b k place parts (omega arith)) ∙ sym (late (omega arith))

  -- with the words as the code has set them
  pub found : {w : List ℕ} {r : Amount} → w ≡ fresh_at ws 0 1 → r ≡ amount_run bs m b k place (parts_in x w tr) → r ≡ amount_of bs vs b k place
  found e q = q ∙ ap (λ y. amount_run bs m b k place (parts_in x y tr)) e ∙ agree
