-- An unstruck run that finishes.
use Rattle.std.specs.Prelude.{ℕ, ◌≡◌, List}
use Rattle.std.proofs.Props.{props}
use Rattle.rules.specs.Line.{Line}
use Rattle.rules.specs.Run.{outcome_of_lem}
use Rattle.rules.specs.Hardened.{counter_form}
use Rattle.rules.specs.Sweep.{unstruck_run}

-- the unstruck run finishes in the budget, with this trace
pub record Finishes (ls : List Line) (vars : List ℕ) (budget : ℕ) (trace : List ℕ) : Type 0 where
  pub finished : outcome_of_lem (unstruck_run (counter_form ls) ls vars budget).step ≡ 1
  pub trace_is : trace ≡ (unstruck_run (counter_form ls) ls vars budget).state.trace

-- it has one proof at most, so that a struct can say it
pub Finishes-prop : (ls : List Line) (vars : List ℕ) (budget : ℕ) (trace : List ℕ) → IsProp (Finishes ls vars budget trace)
Finishes-prop ls vars budget trace x y =
    let finished_prop : IsProp (outcome_of_lem (unstruck_run (counter_form ls) ls vars budget).step ≡ 1) = Prim.hlevel props in
    let trace_prop : IsProp (trace ≡ (unstruck_run (counter_form ls) ls vars budget).state.trace) = Prim.hlevel props in
    λ i. record { finished = finished_prop x.finished y.finished i; trace_is = trace_prop x.trace_is y.trace_is i }
