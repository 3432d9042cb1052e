-- A whole run of the code: what it answers is what the definitions say. Assumes a hardened table.
use mathlib.Core.Path.{◌≡◌, sym, ap, ◌∙◌, subst}
use mathlib.Core.List.{List}
use Prim.Native.Nat.{ℕ, ◌≤◌}
use lib.ListN.{length}
use Rattle.rules.specs.declared.answer.Ran.{Ran}
use Rattle.rules.specs.Strike.{Strike}
use Rattle.rules.specs.Line.{lines_in}
use Rattle.rules.specs.Run.{outcome_of_lem}
use Rattle.rules.specs.Hardened.{hardened_run}
use Rattle.rules.specs.Calls.{running, zeros}
use Rattle.state.specs.declared.machine.Machine.{Machine}
use Rattle.state.specs.declared.machine.Stopped.{Stopped}
use Rattle.guard.specs.Counters.{fresh_at}
use Rattle.machine.specs.Step.{Map}
use Rattle.machine.specs.Run.{parts_in, stopped_with}
use Rattle.machine.specs.Stands.{Ready}
use Rattle.state.specs.Machine.{begun_at, ran_of}
use Rattle.state.proofs.Begun.{begins}
use Rattle.strike.specs.Struck.{struck_of, ran_with, accepted_run}
use Rattle.machine.proofs.Start.{stands-start}
use Rattle.machine.proofs.Runs.{Ended}
use Rattle.strike.proofs.Jumps.{whole-agrees}

all_same : (o o' n n' t t' : ℕ) (vs vs' tr tr' ws ws' : List ℕ) → o ≡ o' → n ≡ n' → t ≡ t' → vs ≡ vs' → tr ≡ tr' → ws ≡ ws'
    → ran_with (record { number = 0; outcome = o; steps = n; traced = t; variables = vs }) tr ws
    ≡ ran_with (record { number = 0; outcome = o'; steps = n'; traced = t'; variables = vs' }) tr' ws'
all_same o o' n n' t t' vs vs' tr tr' ws ws' a b c d e f = rw (a, b, c, d, e, f)

pub answer_is : (bs : List ℕ) (m : Map) → Ready bs m → (vs ws tr : List ℕ) (b : ℕ) (j : Strike) (x : Machine) → x ≡ begun_at 0 vs → length ws ≡ 1024 → b ≤ length tr → b ≤ 65535
    → (y : Stopped) (ws' tr' : List ℕ) → stopped_with y ws' tr' ≡ struck_of bs m b j (parts_in x (fresh_at ws 0 1) tr)
    → (r : Ran) → r ≡ ran_of y → (ws'' : List ℕ) → ws'' ≡ zeros 1024 → ran_with r tr' ws'' ≡ accepted_run bs vs b j tr (zeros 1024)
unfolding running
answer_is bs m rd vs ws tr b j x bg long h few y ws' tr' e r q ws'' z =
    let st = stands-start bs vs ws tr x rd.sound bg long b h few in
    let w : Ended (lines_in bs) tr (stopped_with y ws' tr') (hardened_run (lines_in bs) j b vs) =
    subst (λ a. Ended (lines_in bs) tr a (hardened_run (lines_in bs) j b vs)) (sym e)
    (whole-agrees bs m rd tr vs b (parts_in x (fresh_at ws 0 1) tr) st (ap (λ y. y.steps) (begins bg).registers_are) (ap (λ y. y.traced) (begins bg).registers_are) h j) in
    ap (λ a. ran_with a tr' ws'') q
    ∙ all_same _ _ _ _ _ _ _ _ _ _ _ _ (ap outcome_of_lem w.step_is) w.steps_are w.traces.traced_is w.vars_are w.traces.slots_are z
