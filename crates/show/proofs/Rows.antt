-- What each turn of the loop that walks a source run keeps. Assumes an accepted table.
use mathlib.Core.Path.{◌≡◌, refl, sym, ap, ◌∙◌, subst}
use mathlib.Core.List.{List}
use Prim.Native.Nat.{ℕ, zero, suc, ◌+◌, ◌-◌, ◌≤◌, ◌<◌}
use native.Mathlib.Omega.{arith}
use lib.ListN.{length}
use Rattle.rules.specs.declared.step.Step.TheVariants.{Went}
use Rattle.rules.specs.Row.{table_of}
use Rattle.rules.specs.Run.{run}
use Rattle.state.specs.declared.machine.Machine.{Machine}
use Rattle.state.specs.declared.machine.Stopped.{Stopped}
use Rattle.state.specs.Machine.{onward}
use Rattle.state.proofs.Ends.{IsEnd, onward-end}
use Rattle.source.specs.Step.{Parts, After}
use Rattle.source.specs.Run.{Going, Ended, answer_of, run_from, parts_in, stopped_with}
use Rattle.show.specs.Calls.{call_at, calls_from, WalkedTo, spent_at}
use Rattle.show.proofs.Calls.{calls-went, calls-end, calls-none, few-calls}

pub record Walking (bs : List ℕ) (budget : ℕ) (start : Parts) (left calls : ℕ) (p : Parts) : Type 0 where
  pub going : Going bs left p
  pub same : run_from (table_of bs) budget start ≡ run_from (table_of bs) left p
  pub slots_long : length p.slots ≡ length start.slots
  pub calls_are : calls_from (table_of bs) budget start ≡ calls + calls_from (table_of bs) left p
  pub few : calls + left ≤ 65535

pub walk-starts : {bs : List ℕ} {budget : ℕ} {start : Parts} → Going bs budget start → Walking bs budget start budget 0 start
walk-starts g = record { going = g; same = refl; slots_long = refl; calls_are = omega arith; few = omega (arith, g.few) }

pub going-one : {bs : List ℕ} {left : ℕ} {p : Parts} → Going bs left p → 0 < left → Going bs 1 p
going-one g h =
    record {
      fits = g.fits;
      few = omega (arith, g.few);
      room = omega (arith, g.room);
      traced = g.traced;
    }

module _ {bs : List ℕ} {budget left calls : ℕ} {start p : Parts} (r : Walking bs budget start left calls p) (h : 0 < left) where
  pub one_more : calls < 65535
  one_more = omega (arith, r.few)

  module _ (a : After) (e : Ended bs 1 p a) where
    one-first : run_from (table_of bs) left p ≡ onward a.step (λ k. run_from (table_of bs) (left - 1) a.parts) (answer_of a)
    one-first = ap (λ n. run_from (table_of bs) n p) (let z : left ≡ 1 + (left - 1) = omega arith in z) ∙ e.with_more (left - 1)

    went_on : (k : ℕ) → a.step ≡ Went k → (made : ℕ) → made ≡ calls + call_at (table_of bs) p.registers.at → Walking bs budget start (left - 1) made a.parts
    went_on k z made q =
        record {
          going = e.goes_on (left - 1) k (subst (λ n. Going bs n p) (let y : left ≡ 1 + (left - 1) = omega arith in y) r.going) z;
          same = r.same ∙ one-first ∙ ap (λ o. onward o (λ j. run_from (table_of bs) (left - 1) a.parts) (answer_of a)) z;
          slots_long = e.kept.same_length ∙ r.slots_long;
          calls_are = omega (arith, r.calls_are, q, calls-went (table_of bs) p a e.answer_is k z left h);
          few = omega (arith, r.few, q, few-calls (table_of bs) p.registers.at);
        }

    pub walks_on : (k : ℕ) → a.step ≡ Went k → {next : ℕ} → left - 1 ≡ next → (made : ℕ) → made ≡ calls + call_at (table_of bs) p.registers.at
        → Walking bs budget start next made a.parts
    walks_on k z fewer made q = subst (λ n. Walking bs budget start n made a.parts) fewer (went_on k z made q)

    pub walks_over : IsEnd a.step → WalkedTo (table_of bs) budget start a calls
    walks_over n =
        record {
          answer_is = r.same ∙ one-first ∙ onward-end a.step n (λ k. run_from (table_of bs) (left - 1) a.parts) (answer_of a);
          calls_are = omega (arith, r.calls_are, calls-end (table_of bs) p a e.answer_is n left);
        }

spent : (bs : List ℕ) (left : ℕ) (p : Parts) → left ≤ 0 → run_from (table_of bs) left p ≡ answer_of (record { step = Went p.registers.at; parts = p })
unfolding run
spent bs zero p h = refl
spent bs (suc left) p h = absurd (let z : ⊥ = omega arith in z)

pub walk-spent : {bs slots : List ℕ} {budget left calls : ℕ} {start : Parts} {m : Machine} → Walking bs budget start left calls (parts_in m slots) → left ≤ 0
    → (x : Stopped) → x ≡ spent_at m → WalkedTo (table_of bs) budget start (stopped_with x slots) calls
walk-spent {bs} {slots} {budget} {left} {calls} {start} {m} r h x q =
    subst (λ y. WalkedTo (table_of bs) budget start (stopped_with y slots) calls) (sym q)
    (record {
      answer_is = r.same ∙ spent bs left (parts_in m slots) h;
      calls_are = omega (arith, r.calls_are, calls-none (table_of bs) left (parts_in m slots) h);
    })
