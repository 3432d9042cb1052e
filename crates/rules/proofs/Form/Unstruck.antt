-- Demand 3, unstruck: the whole hardened run without a jump is the source's run at the matching step, and never an alarm.
-- Assumes that the table is accepted.
use mathlib.Core.Logic.{◌≢◌}
use mathlib.Core.Path.{◌≡◌, refl, sym, ap, ◌∙◌}
use mathlib.Core.List.{List, [], ◌∷◌, ◌++◌}
use Prim.Native.Nat.{ℕ, zero, suc, ◌+◌}
use native.Mathlib.Omega.{arith}
use Rattle.rules.specs.Strike.{None}
use Rattle.rules.specs.declared.step.Step.{Step}
use Rattle.rules.specs.Row.{Table}
use Rattle.rules.specs.Harden.{harden}
use Rattle.rules.specs.State.{State, numbers_of, open_functions}
use Rattle.rules.specs.Run.{Turn, run, tally, outcome_of_lem}
use Rattle.rules.specs.Source.{Source, source_step, source_start, source_run}
use Rattle.rules.specs.Form.{Form, striking_step_of, start_by}
use Rattle.rules.specs.Match.{Shown, shown, quiet_step, quiet_done, matching_of, matching}
use Rattle.rules.specs.Demands.{Unstruck}
use Rattle.rules.proofs.Accepted.{Proper}
use Rattle.rules.proofs.Form.Settles.{Settles}
use Rattle.rules.proofs.Form.Relation.{Back, source_backs, line_backs, Related, Same, SharedEnd, finish, early, both_on, both_end}
use Rattle.rules.proofs.Form.Simulate.{Next, moves, waits, next, start}

-- ---- the two machines, as a run takes them
abbrev pub source_machine : Table → ℕ → Source → Turn (Unit {0})
source_machine t k s = source_step t s

abbrev pub line_machine : {H : Type 0} {t : Table} {F : Form H} → Settles t F → ℕ → State H → Turn H
line_machine {H} {t} {F} S = striking_step_of F (harden t) None

-- ---- what an end and a spent budget show
backs-numbers : {H : Type 0} {t : Table} {F : Form H} (S : Settles t F) (bs : List Back) → numbers_of (line_backs S bs) ≡ numbers_of (source_backs bs)
backs-numbers S [] = refl
backs-numbers S (b ∷ bs) = ap (λ x. x ++ (b.function ∷ [])) (backs-numbers S bs)

pub related_same : {H : Type 0} {t : Table} {F : Form H} (S : Settles t F) (d : ℕ) (s : Source) (h : State H) → Related S d s h → Same S s h
related_same S d s h r =
    record { n = r.n; i = r.j; k = r.k; l = r.l; rest = r.rest; c = _; vs = r.vs; tr = r.tr; s_is = r.s_is; h_is = r.h_is }

abbrev showing : {C : Type 0} → ℕ → State C → Shown
showing o s = record { outcome = o; trace = s.trace; variables = s.vars; functions = open_functions s }

same-shown : {H : Type 0} {t : Table} {F : Form H} (S : Settles t F) (o : ℕ) (s : Source) (h : State H) → Same S s h → showing o h ≡ showing o s
same-shown S o s h m = rw (m.s_is, m.h_is)
    (ap (λ x. record { outcome = o; trace = m.tr; variables = m.vs; functions = x ++ (m.n ∷ []) }) (backs-numbers S m.rest))

-- ---- whole runs from related states: the hardened run of b steps is the source's of m
pub record Simulates {H : Type 0} {t : Table} {F : Form H} (S : Settles t F) (b k j : ℕ) (s : Source) (h : State H) : Type 0 where
  pub m : ℕ
  pub counted : (run (line_machine S) b k h).steps ≡ k + m + tally (quiet_step (harden t) None) (line_machine S) b k h
  pub took : (run (source_machine t) m j s).steps ≡ j + m
  pub alike : shown (run (line_machine S) b k h) ≡ shown (run (source_machine t) m j s)
  pub no_alarm : outcome_of_lem (run (line_machine S) b k h).step ≢ 2

end-not-alarm : (d : ℕ) (o : Step) → SharedEnd d o → outcome_of_lem o ≢ 2
unfolding outcome_of_lem
end-not-alarm d o (finish e z) = omega (arith, ap outcome_of_lem e)
end-not-alarm d o (early a b c) = c

pub simulates : (t : Table) → Proper t → {H : Type 0} {F : Form H} (S : Settles t F) → (b k j d : ℕ) (s : Source) (h : State H) → Related S d s h → Simulates S b k j s h
unfolding run tally outcome_of_lem
simulates t ok S zero k j d s h r =
    record { m = 0; counted = omega arith; took = omega arith; alike = same-shown S 0 s h (related_same S d s h r); no_alarm = omega arith }
simulates t ok {H = H} S (suc b) k j d s h r =
    by (next t ok S d s h r) (λ d' s' h' r'. simulates t ok S b (suc k) (suc j) d' s' h' r') (λ d' h' r'. simulates t ok S b (suc k) j d' s h' r')
  where
    by : Next S d s h → ((d' : ℕ) (s' : Source) (h' : State H) → Related S d' s' h' → Simulates S b (suc k) (suc j) s' h')
        → ((d' : ℕ) (h' : State H) → Related S d' s h' → Simulates S b (suc k) j s h') → Simulates S (suc b) k j s h
    by (moves q (both_on s' h' es eh a)) both_go line_goes =
        let x = both_go _ s' h' a.related in
        record {
          m = suc x.m;
          counted = rw (eh, q) (omega (arith, x.counted));
          took = rw es (omega (arith, x.took));
          alike = rw (eh, es) x.alike;
          no_alarm = rw eh x.no_alarm;
        }
    by (moves q (both_end o s' h' es eh same which)) both_go line_goes =
        record {
          m = 1;
          counted = rw eh (omega arith);
          took = rw es (omega arith);
          alike = rw (eh, es) (same-shown S (outcome_of_lem o) s' h' same);
          no_alarm = rw eh (end-not-alarm _ o which);
        }
    by (waits q h' d' eh r' de) both_go line_goes =
        let x = line_goes d' h' r' in
        record {
          m = x.m;
          counted = rw (eh, q) (omega (arith, x.counted));
          took = x.took;
          alike = rw eh x.alike;
          no_alarm = rw eh x.no_alarm;
        }

-- ---- from the start
pub unstruck : (t : Table) → Proper t → {H : Type 0} {F : Form H} (S : Settles t F) → (vs : List ℕ) (b : ℕ) → Unstruck F (harden t) t vs b
unfolding matching_of quiet_done
unstruck t ok {F = F} S vs b =
    let x = simulates t ok S b 0 0 0 (source_start vs) (start_by F vs) (start t ok S vs) in
    let m : matching F (harden t) b vs ≡ x.m = omega (arith, x.counted) in
    record {
      as_source = x.alike ∙ ap (λ y. shown (source_run t y vs)) (sym m);
      at_matching = ap (λ y. (source_run t y vs).steps) m ∙ x.took ∙ omega (arith, m);
      no_alarm = x.no_alarm;
    }
