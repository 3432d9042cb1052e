-- Demand 3 of whole runs with a jump, of every strict form. Assumes that the table is accepted.
use mathlib.Core.Logic.{◌≢◌}
use mathlib.Core.Path.{ap}
use mathlib.Core.List.{List}
use Prim.Native.Nat.{ℕ}
use native.Mathlib.Omega.{arith}
use Rattle.rules.specs.declared.step.Step.{Step}
use Rattle.rules.specs.Row.{Table}
use Rattle.rules.specs.Harden.{harden}
use Rattle.rules.specs.State.{State}
use Rattle.rules.specs.Run.{outcome_of_lem}
use Rattle.rules.specs.Source.{Source, source_start}
use Rattle.rules.specs.Form.{Form, start_by}
use Rattle.rules.specs.Demands.{Jumped}
use Rattle.rules.proofs.Accepted.{Proper}
use Rattle.rules.proofs.Form.Settles.{Settles}
use Rattle.rules.proofs.Form.Relation.{Related, SharedEnd, finish, early, both_on, both_end}
use Rattle.rules.proofs.Form.Simulate.{Next, moves, waits, next, start}
use Rattle.rules.proofs.Form.Struck as Whole
use Rattle.rules.proofs.Form.Struck.{Onward, goes_on, stops}
use Rattle.rules.proofs.Form.Strict.{Strict}
use Rattle.rules.proofs.Form.Alarm.{catches}

-- what an unstruck run keeps to: it is related to some state of its source's run
pub record Goes {H : Type 0} {t : Table} {F : Form H} (S : Settles t F) (h : State H) : Type 0 where
  pub owed : ℕ
  pub source : Source
  pub related : Related S owed source h

pub end-not-zero : (d : ℕ) (o : Step) → SharedEnd d o → outcome_of_lem o ≢ 0
unfolding outcome_of_lem
end-not-zero d o (finish e z) = omega (arith, ap outcome_of_lem e)
end-not-zero d o (early a b c) = a

pub onward : (t : Table) → Proper t → {H : Type 0} {F : Form H} (S : Settles t F) → (h : State H) → Goes S h → Onward F (harden t) (Goes S) h
onward t ok {H = H} {F = F} S h r = by (next t ok S r.owed r.source h r.related)
  where
    by : Next S r.owed r.source h → Onward F (harden t) (Goes S) h
    by (moves q (both_on s' h' es eh a)) = goes_on h' eh (record { owed = _; source = s'; related = a.related })
    by (moves q (both_end z s' h' es eh sm which)) = stops z h' eh (end-not-zero _ z which)
    by (waits q h' d' eh r' de) = goes_on h' eh (record { owed = d'; source = r.source; related = r' })

pub goes-start : (t : Table) → Proper t → {H : Type 0} {F : Form H} (S : Settles t F) → (vs : List ℕ) → Goes S (start_by F vs)
goes-start t ok S vs = record { owed = 0; source = source_start vs; related = start t ok S vs }

pub jumped : (t : Table) → Proper t → {H : Type 0} {F : Form H} (S : Settles t F) → Strict S → (vs : List ℕ) (b k p : ℕ) → Jumped F (harden t) vs b k p
jumped t ok {F = F} S R vs b k p = Whole.jumped F (harden t) (Goes S) (onward t ok S) vs (goes-start t ok S vs) b k p
    (λ s r l w. catches t ok S R r.owed r.source s r.related p l w)
