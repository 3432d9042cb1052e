-- The unstruck run tried and recorded. Assumes a hardened table.
use mathlib.Core.Path.{◌≡◌, refl, sym, ap, ◌∙◌, subst}
use mathlib.Core.Bool.{Bool, true, false, cond}
use mathlib.Core.List.{List, []}
use Prim.Native.Nat.{ℕ, ◌≤◌}
use native.Mathlib.Omega.{arith}
use lib.Dec.{eqb}
use lib.ListN.{length}
use borrow.Author.Tests.{eqb-true}
use Rattle.rules.specs.declared.ending.Ending.{Ending}
use Rattle.rules.specs.declared.ending.Ending.TheVariants.{Alarmed, Same, Other, Unfinished}
use Rattle.rules.specs.Strike.{None}
use Rattle.rules.specs.Bytes.{same}
use Rattle.rules.specs.Line.{lines_in}
use Rattle.rules.specs.State.{retraced}
use Rattle.rules.specs.Run.{Answer, run, outcome_of_lem}
use Rattle.rules.specs.Hardened.{Counters, Hardened, striking_step, hardened_start}
use Rattle.rules.specs.Sweep.{ending_of}
use Rattle.rules.specs.SweepCall.{unstruck_of}
use Rattle.rules.proofs.Form.Walk.{start_is}
use Rattle.state.specs.declared.machine.Machine.{Machine}
use Rattle.state.specs.declared.machine.Stopped.{Stopped}
use Rattle.state.specs.Machine.{begun_at}
use Rattle.state.proofs.Begun.{begins}
use Rattle.guard.specs.Counters.{fresh_at}
use Rattle.machine.specs.Step.{Map}
use Rattle.machine.specs.Run.{parts_in, stopped_with, run_of}
use Rattle.machine.specs.Stands.{Ready, Going}
use Rattle.machine.proofs.Runs.{Ended, run-agrees}
use Rattle.machine.proofs.Start.{stands-start, going_start}
use Rattle.compare.specs.Compared.{Stood, Standing}
use Rattle.sweeper.specs.Table.{is_finish_lem, outcome_in, traced, traced_of}
use Rattle.sweeper.specs.Walk.{form, state_of}
use Rattle.sweeper.proofs.Walking.{stood-start}

finish-is : (tr : List ℕ) (a : Answer Counters) → is_finish_lem (ending_of tr a) ≡ eqb (outcome_of_lem a.step) 1
unfolding ending_of
finish-is tr a = by (eqb (outcome_of_lem a.step) 2) refl (eqb (outcome_of_lem a.step) 1) refl (same a.state.trace tr)
  where
    by : (x : Bool) → eqb (outcome_of_lem a.step) 2 ≡ x → (y : Bool) → eqb (outcome_of_lem a.step) 1 ≡ y → (z : Bool) → is_finish_lem (cond x Alarmed (cond y (cond z Same Other) Unfinished)) ≡ y
    by true p true q z = absurd (let n : ⊥ = omega (arith, eqb-true (outcome_of_lem a.step) 2 p, eqb-true (outcome_of_lem a.step) 1 q) in n)
    by true p false q z = refl
    by false p true q true = refl
    by false p true q false = refl
    by false p false q z = refl

module _ (bs : List ℕ) (mp : Map) (rd : Ready bs mp) (vs ws : List ℕ) (long : length ws ≡ 1024) (m : Machine) (bg : m ≡ begun_at 0 vs) (us : List ℕ) (e : us ≡ fresh_at ws 0 1) where
  stood : Stood (lines_in bs) m us (state_of bs vs 0)
  stood = subst (λ x. Stood (lines_in bs) m x (state_of bs vs 0)) (sym e) (stood-start bs vs ws m rd.sound bg long)

  pub standing-start : Standing (lines_in bs) m us
  standing-start = record { state = state_of bs vs 0; stood = stood }

  pub tried : (b : ℕ) (x : Ending) → ((s : Hardened) → Stood (lines_in bs) m us s → x ≡ ending_of [] (run (striking_step (lines_in bs) None) b 0 (retraced [] s)))
      → (r : Bool) → r ≡ is_finish_lem x → r ≡ eqb (outcome_in bs vs b) 1
  tried b x f r q =
      q ∙ ap is_finish_lem (f (state_of bs vs 0) stood ∙ ap (λ s. ending_of [] (run (striking_step (lines_in bs) None) b 0 (retraced [] s))) (start_is (form bs) (lines_in bs) vs))
      ∙ finish-is [] (unstruck_of bs vs b)

  -- ---- recorded
  module _ (tr : List ℕ) (b : ℕ) (h : b ≤ length tr) (few : b ≤ 65535) where
    pub going-recorded : Going (lines_in bs) b (parts_in m us tr)
    going-recorded = subst (λ x. Going (lines_in bs) b (parts_in m x tr)) (sym e) (going_start bs vs ws tr m rd.sound bg long b h few)

    pub recorded : (x : Stopped) (ws' tr' : List ℕ) → stopped_with x ws' tr' ≡ run_of bs mp b (parts_in m us tr) → traced x.machine.registers.traced tr' ≡ traced_of bs vs b tr
    recorded x ws' tr' q =
        let st = stands-start bs vs ws tr m rd.sound bg long b h few in
        let w : Ended (lines_in bs) tr (stopped_with x ws' tr') (unstruck_of bs vs b) =
        subst (λ a. Ended (lines_in bs) tr a (unstruck_of bs vs b)) (sym (q ∙ ap (λ y. run_of bs mp b (parts_in m y tr)) e))
        (run-agrees bs mp rd tr b 0 (parts_in m (fresh_at ws 0 1) tr) (hardened_start vs) st (ap (λ y. y.steps) (begins bg).registers_are) (omega (arith, ap (λ y. y.traced) (begins bg).registers_are)) (omega arith)) in
        rw (w.traces.traced_is, w.traces.slots_are)
