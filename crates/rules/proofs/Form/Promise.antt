-- The promise of a run, of every form that meets demand 3. Assumes nothing.
use mathlib.Core.Logic.{◌≢◌}
use mathlib.Core.Path.{◌≡◌, sym, ap, ◌∙◌, subst}
use mathlib.Core.Bool.{true, false}
use mathlib.Core.List.{List}
use Prim.Native.Nat.{ℕ, ◌≤◌}
use native.Mathlib.Omega.{arith}
use lib.ListN.{length, take, drop}
use lib.Seq.{take-append_seam}
use Rattle.rules.specs.Strike.{None}
use Rattle.rules.specs.Verdict.{Verdict, Accepted}
use Rattle.rules.specs.Row.{Table}
use Rattle.rules.specs.Line.{Line}
use Rattle.rules.specs.Run.{Answer, outcome_of_lem}
use Rattle.rules.specs.Form.{Form, strike_by_lem, run_of}
use Rattle.rules.specs.Match.{shown}
use Rattle.rules.specs.Demands.{strikes, struck_shown, slipped_at, Told, beyond_m, wide, small, Demand}
use Rattle.rules.specs.Calls.{Running, running}
use Rattle.rules.specs.RunPromise.{seen, source_at, last_at, AsRun, AsSource, AsSlipped, is_small, RunPromise}
use Rattle.rules.proofs.Logic.{clash}
use Rattle.rules.proofs.Calls.{run-accepted}

module _ {H : Type 0} (F : Form H) (ls : List Line) (t : Table) (vars : List ℕ) (b k p : ℕ) (slots : List ℕ) (v : Verdict) (demands : v ≡ Accepted → Demand F ls t vars b k p) where
  abbrev ran : Answer H
  ran = run_of F ls (strike_by_lem k p) b vars

  abbrev got : Running
  got = running v ran vars slots

  accepted : got.ran.number ≡ 0 → v ≡ Accepted
  accepted e = run-accepted v ran vars slots e

  seen-is : v ≡ Accepted → seen got ≡ struck_shown ran
  unfolding running
  seen-is e =
      ap (λ v. let r = running v ran vars slots in record { outcome = r.ran.outcome; steps = r.ran.steps; trace = take r.ran.traced r.trace; variables = r.ran.variables }) e
      ∙ ap (λ x. record { outcome = outcome_of_lem ran.step; steps = ran.steps; trace = x; variables = ran.state.vars })
      (take-append_seam ran.state.trace (drop (length ran.state.trace) slots))

  demand : got.ran.number ≡ 0 → Demand F ls t vars b k p
  demand e = demands (accepted e)

  -- what comes back is what the run shows
  as_run : got.ran.number ≡ 0 → (source : Answer (Unit {0})) → shown ran ≡ shown source → outcome_of_lem ran.step ≢ 2 → AsRun F ls vars b k p source got
  as_run e source u calm =
      let s = seen-is (accepted e) in
      record {
        outcome_is = ap (λ x. x.outcome) s ∙ ap (λ x. x.outcome) u;
        trace_is = ap (λ x. x.trace) s ∙ ap (λ x. x.trace) u;
        variables_are = ap (λ x. x.variables) s ∙ ap (λ x. x.variables) u;
        functions_are = ap (λ x. x.functions) u;
        never_alarm = λ z. calm (sym (ap (λ x. x.outcome) s) ∙ z);
      }

  as_source : got.ran.number ≡ 0 → strikes F ls vars b k ≡ false → AsSource F ls t vars b k p got
  as_source e n =
      let d = demand e in
      let q : ran ≡ run_of F ls None b vars = d.jumped.not_struck n in
      as_run e (source_at F ls t vars b) (ap shown q ∙ d.unstruck.as_source) (subst (λ a. outcome_of_lem a.step ≢ 2) (sym q) d.unstruck.no_alarm)

  as_slipped : got.ran.number ≡ 0 → strikes F ls vars b k ≡ true → p ≤ last_at F ls vars k → is_small F ls vars k p → AsSlipped F ls t vars b k p got
  as_slipped e n h g = by ((demand e).told n)
    where
      by : Told F ls t vars b k p → AsSlipped F ls t vars b k p got
      by (beyond_m l q) = absurd (omega arith)
      by (wide l w q) = clash w g
      by (small l w q) = record { as_run = as_run e (slipped_at F ls t vars b k p) q.as_slipped q.no_alarm; at_matching = q.at_matching; in_steps = ap (λ x. x.steps) (seen-is (accepted e)) ∙ q.in_steps; that_do = q.that_do }

  pub promised : RunPromise F ls t vars b k p got
  unfolding outcome_of_lem
  promised =
      record {
        unstruck = as_source;
        beyond = λ e n h. seen-is (accepted e) ∙ ap struck_shown ((demand e).jumped.beyond n h);
        caught = λ e n h w. seen-is (accepted e) ∙ (demand e).jumped.caught n h w;
        small = as_slipped;
        demand_3 = demand;
      }
