-- Where an unstruck run stands after k steps: the state of the source that it is related to, how many steps the source has taken, and, where
-- a tick is due, the do of the source's last step. Assumes that the table is accepted.
use mathlib.Core.Path.{◌≡◌, refl, ap, ◌∙◌, subst}
use mathlib.Core.Bool.{Bool, true, false, cond}
use mathlib.Core.List.{List, [], ◌∷◌}
use Prim.Native.Nat.{ℕ, zero, suc, ◌+◌, ◌≤◌}
use native.Mathlib.Nat.{add-zero, zero-add}
use native.Mathlib.Omega.{arith}
use lib.ListN.{length}
use borrow.Author.Tests.{ne_eqb}
use Rattle.rules.specs.Strike.{Strike, None, Jump}
use Rattle.rules.specs.Row.{Table}
use Rattle.rules.specs.Harden.{harden}
use Rattle.rules.specs.State.{State}
use Rattle.rules.specs.Run.{Turn, on, after, run, tally, outcome_of_lem}
use Rattle.rules.specs.Source.{Source, source_step, source_start}
use Rattle.rules.specs.Form.{Form, struck, step_of, striking_step_of, start_by}
use Rattle.rules.specs.Match.{quiet_at_lem, quiet_step}
use Rattle.rules.specs.Slip.{Slip, untouched, left_out, done_twice, slipping_step}
use Rattle.rules.proofs.Logic.{clash}
use Rattle.rules.proofs.Accepted.{Proper}
use Rattle.rules.proofs.Form.Settles.{Settles}
use Rattle.rules.proofs.Form.Relation.{Back, source_backs, Mode, ready, ticking, backing, due, tick_due, Related, Arrives, both_on, both_end}
use Rattle.rules.proofs.Form.Simulate as Simulate
use Rattle.rules.proofs.Form.Simulate.{extra_at, Next, moves, waits, start}
use Rattle.rules.proofs.Form.Unstruck.{line_machine}
use Rattle.rules.proofs.Form.Jump.{end-not-zero}

-- ---- the first k steps of a run all go on, and lead from s to s'
abbrev pub Leads : {C : Type 0} → (m : ℕ → State C → Turn C) → (k : ℕ) → (s s' : State C) → Type 0
Leads m k s s' = (b : ℕ) → run m (k + b) 0 s ≡ run m b k s'

leads-none : {C : Type 0} (m : ℕ → State C → Turn C) (s : State C) → Leads m 0 s s
leads-none m s b = rw zero-add

pub leads-on : {C : Type 0} (m : ℕ → State C → Turn C) (k : ℕ) (s s' s'' : State C) → Leads m k s s' → m k s' ≡ on s'' → Leads m (suc k) s s''
unfolding run
leads-on m k s s' s'' l e b =
    ap (λ y. run m y 0 s) (let q : suc k + b ≡ k + suc b = omega arith in q) ∙ l (suc b) ∙ ap (λ y. after k y (λ z. run m b (suc k) z)) e

-- ---- a strike or a slip that the first k steps do not meet
abbrev pub NotBefore : ℕ → Strike → Type 0
NotBefore k None = Unit {0}
NotBefore k (Jump x p) = k ≤ x

abbrev pub Unslipped : ℕ → Slip → Type 0
Unslipped k untouched = Unit {0}
Unslipped k (left_out j) = k ≤ j
Unslipped k (done_twice j) = k ≤ j

not_before : (k : ℕ) (x : Strike) → NotBefore (suc k) x → NotBefore k x
not_before k None h = tt
not_before k (Jump x p) h = omega arith

unslipped : (k : ℕ) (x : Slip) → Unslipped (suc k) x → Unslipped k x
unslipped k untouched h = tt
unslipped k (left_out j) h = omega arith
unslipped k (done_twice j) h = omega arith

not-slipped-yet : (t : Table) (k : ℕ) (x : Slip) (s : Source) → Unslipped (suc k) x → slipping_step t x k s ≡ source_step t s
not-slipped-yet t k untouched s l = refl
not-slipped-yet t k (left_out j) s l = rw (ne_eqb j k (omega arith))
not-slipped-yet t k (done_twice j) s l = rw (ne_eqb j k (omega arith))

module _ {H : Type 0} {t : Table} {F : Form H} (S : Settles t F) where
  not-struck-yet : (k : ℕ) (x : Strike) (h : State H) → NotBefore (suc k) x → struck (harden t) x k h ≡ on h
  not-struck-yet k None h l = refl
  not-struck-yet k (Jump j p) h l = rw (ne_eqb j k (omega arith))

  -- ---- what is due
  tick-is-due : {i j k w last u : ℕ} (x : Mode S i j k w last u) → tick_due x ≡ true → due x ≡ 1
  tick-is-due (ready a b c) q = clash {b = false} q refl
  tick-is-due (ticking e a b c) q = refl
  tick-is-due (backing e a b c l) q = refl

  at_most_one : {i j k w last u : ℕ} (x : Mode S i j k w last u) → due x ≤ 1
  at_most_one (ready a b c) = omega arith
  at_most_one (ticking e a b c) = omega arith
  at_most_one (backing e a b c l) = omega arith

  -- a back for each caller, and what is due
  owed-is : (d : ℕ) (s : Source) (h : State H) (r : Related S d s h) → d ≡ length s.callers + due r.mode
  owed-is d s h r = omega (arith, r.owes, ap (λ x. length x.callers) r.s_is, callers-are r.rest)
    where
      callers-are : (bs : List Back) → length (source_backs bs) ≡ length bs
      callers-are [] = refl
      callers-are (b ∷ bs) = ap suc (callers-are bs)

-- ---- after k steps of the unstruck run
-- the source's last step, its step j, left the row of the do whose tick is due
pub record JustDid (t : Table) (vs : List ℕ) (m row : ℕ) (s : Source) : Type 0 where
  pub j : ℕ
  pub doing : Source
  pub m_is : m ≡ suc j
  pub reached : (x : Slip) → Unslipped j x → Leads (slipping_step t x) j (source_start vs) doing
  pub did_it : source_step t doing ≡ on s
  pub row_is : row ≡ doing.running.at

-- the run stands at h and its source at s, after m steps of the source and so many ticks and backs
pub record Reaches {H : Type 0} {t : Table} {F : Form H} (S : Settles t F) (vs : List ℕ) (k : ℕ) : Type 0 where
  pub s : Source
  pub h : State H
  pub owed : ℕ
  pub related : Related S owed s h
  pub m : ℕ
  pub quiet : ℕ
  pub counted : k ≡ m + quiet
  pub line_goes : Leads (line_machine S) k (start_by F vs) h
  pub quiets : (x : Strike) → NotBefore k x → (b : ℕ)
      → tally (quiet_step (harden t) x) (striking_step_of F (harden t) x) (k + b) 0 (start_by F vs) ≡ quiet + tally (quiet_step (harden t) x) (striking_step_of F (harden t) x) b k h
  pub source_goes : (x : Slip) → Unslipped m x → Leads (slipping_step t x) m (source_start vs) s
  pub came : tick_due related.mode ≡ true → JustDid t vs m related.i s

module _ (t : Table) (ok : Proper t) {H : Type 0} {F : Form H} (S : Settles t F) (vs : List ℕ) where
  -- at the start nothing is done and no tick is due
  at-start : Reaches S vs 0
  at-start =
      record {
        s = source_start vs;
        h = start_by F vs;
        owed = 0;
        related = start t ok S vs;
        m = 0;
        quiet = 0;
        counted = omega arith;
        line_goes = leads-none (line_machine S) (start_by F vs);
        quiets = λ x l b. rw (zero-add b, zero-add (tally (quiet_step (harden t) x) (striking_step_of F (harden t) x) b 0 (start_by F vs)));
        source_goes = λ x l. leads-none (slipping_step t x) (source_start vs);
        came = λ q. absurd (let y : ⊥ = omega (arith, owed-is S 0 (source_start vs) (start_by F vs) (start t ok S vs), tick-is-due S (start t ok S vs).mode q) in y);
      }

  -- a step of the hardened run: so much for its own side
  module _ (k : ℕ) (a : Reaches S vs k) (h' : State H) (eh : step_of F (harden t) a.h ≡ on h') where
    line_on : Leads (line_machine S) (suc k) (start_by F vs) h'
    line_on = leads-on (line_machine S) k (start_by F vs) a.h h' a.line_goes eh

    quiets_on : (q : Bool) → quiet_at_lem (harden t) a.h ≡ q → (x : Strike) → NotBefore (suc k) x → (b : ℕ)
        → tally (quiet_step (harden t) x) (striking_step_of F (harden t) x) (suc k + b) 0 (start_by F vs)
        ≡ (a.quiet + cond q 1 0) + tally (quiet_step (harden t) x) (striking_step_of F (harden t) x) b (suc k) h'
    unfolding tally
    quiets_on q e x l b =
        ap (λ y. tally (quiet_step (harden t) x) (striking_step_of F (harden t) x) y 0 (start_by F vs)) (let z : suc k + b ≡ k + suc b = omega arith in z) ∙ a.quiets x (not_before k x l) (suc b)
        ∙ rw (not-struck-yet S k x a.h l, eh, e) (omega arith)

  -- a step of both
  both_move : (k : ℕ) (a : Reaches S vs k) (s' : Source) (h' : State H) → quiet_at_lem (harden t) a.h ≡ false → source_step t a.s ≡ on s' → step_of F (harden t) a.h ≡ on h'
      → Arrives S (a.owed + extra_at t a.s) a.s.running.at s' h' → Reaches S vs (suc k)
  both_move k a s' h' q es eh r =
      record {
        s = s';
        h = h';
        owed = a.owed + extra_at t a.s;
        related = r.related;
        m = suc a.m;
        quiet = a.quiet + 0;
        counted = omega (arith, a.counted);
        line_goes = line_on k a h' eh;
        quiets = quiets_on k a h' eh false q;
        source_goes = λ x l. leads-on (slipping_step t x) a.m (source_start vs) a.s s' (a.source_goes x (unslipped a.m x l)) (not-slipped-yet t a.m x a.s l ∙ es);
        came = λ x. record { j = a.m; doing = a.s; m_is = refl; reached = a.source_goes; did_it = es; row_is = r.after_do x };
      }

  -- a tick or a back, after which none is due
  line_moves : (k : ℕ) (a : Reaches S vs k) (h' : State H) (d' : ℕ) → quiet_at_lem (harden t) a.h ≡ true → step_of F (harden t) a.h ≡ on h' → Related S d' a.s h' → a.owed ≡ suc d' → Reaches S vs (suc k)
  line_moves k a h' d' q eh r de =
      record {
        s = a.s;
        h = h';
        owed = d';
        related = r;
        m = a.m;
        quiet = a.quiet + 1;
        counted = omega (arith, a.counted);
        line_goes = line_on k a h' eh;
        quiets = quiets_on k a h' eh true q;
        source_goes = a.source_goes;
        came = λ x. absurd (let y : ⊥ = omega (arith, de, owed-is S a.owed a.s a.h a.related, owed-is S d' a.s h' r, tick-is-due S r.mode x, at_most_one S a.related.mode) in y);
      }

  -- d steps more, if they do not end the run
  further : (d k : ℕ) (a : Reaches S vs k) → outcome_of_lem (run (line_machine S) d k a.h).step ≡ 0 → Reaches S vs (k + d)
  unfolding run outcome_of_lem both_move line_moves
  further zero k a o = rw (add-zero k) a
  further (suc d) k a o = by (Simulate.next t ok S a.owed a.s a.h a.related) (λ a' o'. further d (suc k) a' o')
    where
      shift : suc k + d ≡ k + suc d
      shift = omega arith

      by : Next S a.owed a.s a.h → ((a' : Reaches S vs (suc k)) → outcome_of_lem (run (line_machine S) d (suc k) a'.h).step ≡ 0 → Reaches S vs (suc k + d)) → Reaches S vs (k + suc d)
      by (moves q (both_on s' h' es eh r)) ih = subst (Reaches S vs) shift (ih (both_move k a s' h' q es eh r) (rw eh at o))
      by (moves q (both_end x s' h' es eh sm which)) ih = absurd (end-not-zero _ x which (rw eh at o))
      by (waits q h' d' eh r de) ih = subst (Reaches S vs) shift (ih (line_moves k a h' d' q eh r de) (rw eh at o))

  pub reaches : (k : ℕ) → outcome_of_lem (run (line_machine S) k 0 (start_by F vs)).step ≡ 0 → Reaches S vs k
  unfolding at-start
  reaches k o = subst (Reaches S vs) (zero-add k) (further k 0 at-start o)
