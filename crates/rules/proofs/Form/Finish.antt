-- Demand 3, finishing: a source run that finishes in n steps with t dos and c calls finishes hardened in n + t + c steps.
-- Assumes that the table is accepted.
use mathlib.Core.Path.{◌≡◌, refl, ap, ◌∙◌, subst}
use mathlib.Core.Bool.{cond}
use mathlib.Core.List.{List}
use Prim.Native.Nat.{ℕ, zero, suc, ◌+◌, ◌-◌, ◌≤◌}
use native.Mathlib.Omega.{arith}
use Rattle.rules.specs.Strike.{None}
use Rattle.rules.specs.declared.kind.Kind.{Kind}
use Rattle.rules.specs.declared.kind.Kind.TheVariants.{Function, Do, If, Else, Loop, End, Break, Continue, Call, Unknown}
use Rattle.rules.specs.Row.{Table, kind_at}
use Rattle.rules.specs.Check.{is_call}
use Rattle.rules.specs.Harden.{harden}
use Rattle.rules.specs.State.{State}
use Rattle.rules.specs.Run.{run, tally, outcome_of_lem}
use Rattle.rules.specs.Source.{Source, source_start, source_run}
use Rattle.rules.specs.Form.{Form, step_of, start_by, run_of}
use Rattle.rules.specs.Match.{is_do_lem, dos_in_lem, calls_in}
use Rattle.rules.specs.Demands.{Finishing}
use Rattle.rules.proofs.Accepted.{Proper}
use Rattle.rules.proofs.Form.Settles.{Settles}
use Rattle.rules.proofs.Form.Relation.{Related, finish, early, Both, both_on, both_end, extra}
use Rattle.rules.proofs.Form.Simulate.{extra_at, Next, moves, waits, next, start}
use Rattle.rules.proofs.Form.Unstruck.{source_machine, line_machine}

-- the dos and the calls of the first b steps
abbrev dos : Table → (b k : ℕ) → Source → ℕ
dos t b k s = tally (λ k s. is_do_lem (kind_at t s.running.at)) (source_machine t) b k s

abbrev calls : Table → (b k : ℕ) → Source → ℕ
calls t b k s = tally (λ k s. is_call (kind_at t s.running.at)) (source_machine t) b k s

-- a do and a call have one line more
extra-is : (k : Kind) → extra k ≡ cond (is_do_lem k) 1 0 + cond (is_call k) 1 0
extra-is Function = refl
extra-is Do = refl
extra-is If = refl
extra-is Else = refl
extra-is Loop = refl
extra-is End = refl
extra-is Break = refl
extra-is Continue = refl
extra-is Call = refl
extra-is Unknown = refl

-- From related states with d ticks and backs owed, k and j steps taken: the source finishes after n more, the hardened run after
-- n, its dos, its calls and what is owed, whatever budget x is left over.
record Finishes {H : Type 0} {t : Table} {F : Form H} (S : Settles t F) (b k d j x : ℕ) (s : Source) (h : State H) : Type 0 where
  n : ℕ
  takes_n : (run (source_machine t) b k s).steps ≡ k + n
  finishes : outcome_of_lem (run (line_machine S) (n + dos t b k s + calls t b k s + d + x) j h).step ≡ 1
  in_steps : (run (line_machine S) (n + dos t b k s + calls t b k s + d + x) j h).steps ≡ j + (n + dos t b k s + calls t b k s + d)

abbrev Goal : {H : Type 0} {t : Table} {F : Form H} → Settles t F → ℕ → Type 0
Goal {H} {t} S b = (s : Source) (d k j x : ℕ) (h : State H) → Related S d s h → outcome_of_lem (run (source_machine t) b k s).step ≡ 1 → Finishes S b k d j x s h

both-step : {H : Type 0} {t : Table} {F : Form H} (S : Settles t F) (b d k j x : ℕ) (s : Source) (h : State H) → Goal S b → Both S (d + extra_at t s) s (step_of F (harden t) h)
    → outcome_of_lem (run (source_machine t) (suc b) k s).step ≡ 1 → Finishes S (suc b) k d j x s h
unfolding run tally outcome_of_lem
both-step {H} {t} {F} S b d k j x s h ih (both_on s' h' es eh a) o =
    let f = ih s' (d + extra_at t s) (suc k) (suc j) x h' a.related (rw es at o) in
    let kd = kind_at t s.running.at in
    let e : suc f.n + (cond (is_do_lem kd) 1 0 + dos t b (suc k) s') + (cond (is_call kd) 1 0 + calls t b (suc k) s') + d + x
    ≡ suc (f.n + dos t b (suc k) s' + calls t b (suc k) s' + (d + extra_at t s) + x) = omega (arith, extra-is kd) in
    record {
      n = suc f.n;
      takes_n = rw es (omega (arith, f.takes_n));
      finishes = rw (es, e, eh) f.finishes;
      in_steps = rw (es, e, eh) (omega (arith, f.in_steps, extra-is kd));
    }
both-step {H} {t} {F} S b d k j x s h ih (both_end o' s' h' es eh sm (finish q z)) o =
    let e : 1 + 0 + 0 + d + x ≡ suc x = omega arith in
    record {
      n = 1;
      takes_n = rw es (omega arith);
      finishes = rw (es, e, eh) (ap outcome_of_lem q);
      in_steps = rw (es, e, eh) (omega arith);
    }
both-step {H} {t} {F} S b d k j x s h ih (both_end o' s' h' es eh sm (early y z w)) o = absurd (z (rw es at o))

-- first the ticks and backs that are due, then a step of both
step_by : (t : Table) → Proper t → {H : Type 0} {F : Form H} (S : Settles t F) → (b : ℕ) → Goal S b → (d : ℕ) (s : Source) (k j x : ℕ) (h : State H) → Related S d s h → outcome_of_lem (run (source_machine t) (suc b) k s).step ≡ 1
    → Finishes S (suc b) k d j x s h
unfolding run
step_by t ok {H = H} S b ih zero s k j x h r o = by (next t ok S zero s h r)
  where
    by : Next S zero s h → Finishes S (suc b) k zero j x s h
    by (moves q z) = both-step S b zero k j x s h ih z o
    by (waits q h' d' eh r' de) = absurd (omega arith)
step_by t ok {H = H} S b ih (suc d) s k j x h r o = by (next t ok S (suc d) s h r) (λ h' r'. step_by t ok S b ih d s k (suc j) x h' r' o)
  where
    by : Next S (suc d) s h → ((h' : State H) → Related S d s h' → Finishes S (suc b) k d (suc j) x s h') → Finishes S (suc b) k (suc d) j x s h
    by (moves q z) rec = both-step S b (suc d) k j x s h ih z o
    by (waits q h' d' eh r' de) rec =
        let dd : d' ≡ d = omega arith in
        let f = rec h' (subst (λ y. Related S y s h') dd r') in
        let e : f.n + dos t (suc b) k s + calls t (suc b) k s + suc d + x ≡ suc (f.n + dos t (suc b) k s + calls t (suc b) k s + d + x) = omega arith in
        record {
          n = f.n;
          takes_n = f.takes_n;
          finishes = rw (e, eh) f.finishes;
          in_steps = rw (e, eh) (omega (arith, f.in_steps));
        }

finishes-from : (t : Table) → Proper t → {H : Type 0} {F : Form H} (S : Settles t F) → (b : ℕ) → Goal S b
unfolding run outcome_of_lem
finishes-from t ok S zero s d k j x h r o = absurd (omega arith)
finishes-from t ok S (suc b) s d k j x h r o = step_by t ok S b (finishes-from t ok S b) d s k j x h r o

-- ---- from the start
pub finishing : (t : Table) → Proper t → {H : Type 0} {F : Form H} (S : Settles t F) → (vs : List ℕ) (b c : ℕ) → Finishing F (harden t) t vs b c
unfolding dos_in_lem calls_in
finishing t ok {H = H} {F = F} S vs b c = record { finishes = λ o l. (by o l).0; in_steps = λ o l. (by o l).1 }
  where
    by : outcome_of_lem (source_run t b vs).step ≡ 1 → (source_run t b vs).steps + dos_in_lem t b vs + calls_in t b vs ≤ c
        → (outcome_of_lem (run_of F (harden t) None c vs).step ≡ 1)
        × ((run_of F (harden t) None c vs).steps ≡ (source_run t b vs).steps + dos_in_lem t b vs + calls_in t b vs)
    by o l =
        let x = c - ((source_run t b vs).steps + dos_in_lem t b vs + calls_in t b vs) in
        let f = finishes-from t ok S b (source_start vs) 0 0 0 x (start_by F vs) (start t ok S vs) o in
        let e : c ≡ f.n + dos_in_lem t b vs + calls_in t b vs + 0 + x = omega (arith, f.takes_n) in (
          ap (λ y. outcome_of_lem (run_of F (harden t) None y vs).step) e ∙ f.finishes,
          ap (λ y. (run_of F (harden t) None y vs).steps) e ∙ f.in_steps ∙ omega (arith, f.takes_n),
        )
