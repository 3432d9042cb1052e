-- The small jump told exactly (02, No. 6), of every form: up to step k the struck run is the unstruck one; from there on it is related to the
-- source's run with the do left out or done twice. Assumes that the table is accepted, where it says so.
use mathlib.Core.Path.{◌≡◌, refl, sym, ap, ◌∙◌, subst}
use mathlib.Core.Bool.{true, false}
use mathlib.Core.List.{List}
use Prim.Native.Nat.{ℕ, zero, suc, ◌+◌, ◌-◌, ◌≤◌, ◌<◌}
use native.Mathlib.Nat.{add-zero}
use native.Mathlib.Omega.{arith}
use borrow.Author.Tests.{eq-eqb, ne_eqb, lt-ltb, le-ltb}
use Rattle.rules.specs.declared.kind.Kind.TheVariants.{Do}
use Rattle.rules.specs.Row.{Table, kind_at, operands_at}
use Rattle.rules.specs.Line.{do_line, line_at}
use Rattle.rules.specs.Harden.{harden}
use Rattle.rules.specs.Function.{last_place}
use Rattle.rules.specs.State.{go_to}
use Rattle.rules.specs.Run.{on, run, outcome_of_lem}
use Rattle.rules.specs.Source.{Source, to_row, source_step, source_start, source_run}
use Rattle.rules.specs.Form.{Form, strike_by_lem, place_line, run_of}
use Rattle.rules.specs.Match.{shown, quiet_done, matching_of, matching, guard_between}
use Rattle.rules.specs.Slip.{Slip, untouched, left_out, done_twice, slipping_step, slipped_run, slip_between}
use Rattle.rules.specs.Demands.{before, strikes, slip_of, DoneIn, ThatDo, Slipped}
use Rattle.rules.proofs.Accepted.{Proper}
use Rattle.rules.proofs.Form.Settles.{Settles}
use Rattle.rules.proofs.Form.Relation.{tick_due, Related}
use Rattle.rules.proofs.Form.Unstruck.{source_machine, line_machine, simulates}
use Rattle.rules.proofs.Form.Struck.{landed_at, after_same, not-over, goes_struck}
use Rattle.rules.proofs.Form.Landing.{Landed, same_place, past_do, back_to_do, lands}
use Rattle.rules.proofs.Form.Jump.{Goes, onward, goes-start}
use Rattle.rules.proofs.Form.Progress.{Leads, leads-on, Reaches, reaches}
use Rattle.rules.proofs.Form.TakenUp.{state_is, matching-is, quiet_is}

-- ---- once the slip is past, the run is plain
past-slip : (t : Table) (x : Slip) (j : ℕ) → ((k : ℕ) (s : Source) → j < k → slipping_step t x k s ≡ source_step t s)
    → (b k : ℕ) (s : Source) → j < k → run (slipping_step t x) b k s ≡ run (source_machine t) b k s
unfolding run
past-slip t x j e zero k s l = refl
past-slip t x j e (suc b) k s l = rw (e k s l) (after_same k (source_step t s) _ _ (λ s'. past-slip t x j e b (suc k) s' (omega arith)))

past-left-out : (t : Table) (j b k : ℕ) (s : Source) → j < k → run (slipping_step t (left_out j)) b k s ≡ run (source_machine t) b k s
past-left-out t j = past-slip t (left_out j) j (λ k s l. rw (ne_eqb j k (omega arith)))

past-twice : (t : Table) (j b k : ℕ) (s : Source) → j < k → run (slipping_step t (done_twice j)) b k s ≡ run (source_machine t) b k s
past-twice t j = past-slip t (done_twice j) j (λ k s l. rw (ne_eqb j k (omega arith)))

-- ---- a source run with a slip, from step j on: it takes m steps as the plain run from s does, and shows the same
record GoesFrom (t : Table) (x : Slip) (vs : List ℕ) (j : ℕ) (s : Source) : Type 0 where
  shows : (m : ℕ) → shown (slipped_run t x (j + m) vs) ≡ shown (run (source_machine t) m j s)
  takes : (m : ℕ) → (slipped_run t x (j + m) vs).steps ≡ (run (source_machine t) m j s).steps

from-same : (t : Table) (x : Slip) (vs : List ℕ) (j : ℕ) (s : Source) → ((m : ℕ) → slipped_run t x (j + m) vs ≡ run (source_machine t) m j s) → GoesFrom t x vs j s
from-same t x vs j s e = record { shows = λ m. ap shown (e m); takes = λ m. ap (λ y. y.steps) (e m) }

-- left out: the run goes on past the do; where no step is left, that is not seen
from-left-out : (t : Table) (vs : List ℕ) (j : ℕ) (s : Source) → Leads (slipping_step t (left_out j)) j (source_start vs) s → GoesFrom t (left_out j) vs j (to_row (suc s.running.at) s)
unfolding run outcome_of_lem
from-left-out t vs j s e = record { shows = λ m. ap shown (e m) ∙ shows m; takes = λ m. ap (λ y. y.steps) (e m) ∙ takes m }
  where
    later : (m : ℕ) → run (slipping_step t (left_out j)) (suc m) j s ≡ run (source_machine t) (suc m) j (to_row (suc s.running.at) s)
    later m = rw (eq-eqb j j refl) (after_same j (source_step t (to_row (suc s.running.at) s)) _ _ (λ s'. past-left-out t j m (suc j) s' (omega arith)))

    shows : (m : ℕ) → shown (run (slipping_step t (left_out j)) m j s) ≡ shown (run (source_machine t) m j (to_row (suc s.running.at) s))
    shows zero = refl
    shows (suc m) = ap shown (later m)

    takes : (m : ℕ) → (run (slipping_step t (left_out j)) m j s).steps ≡ (run (source_machine t) m j (to_row (suc s.running.at) s)).steps
    takes zero = refl
    takes (suc m) = ap (λ y. y.steps) (later m)

-- done twice: after the first time the run stands before the do again
from-twice : (t : Table) (vs : List ℕ) (j : ℕ) (s s' : Source) → Leads (slipping_step t (done_twice j)) j (source_start vs) s → source_step t s ≡ on s' → GoesFrom t (done_twice j) vs (suc j) (to_row s.running.at s')
from-twice t vs j s s' e q =
    from-same t (done_twice j) vs (suc j) (to_row s.running.at s')
    (λ m. leads-on (slipping_step t (done_twice j)) j (source_start vs) s (to_row s.running.at s') e (rw (eq-eqb j j refl, q)) m
    ∙ past-twice t j m (suc j) (to_row s.running.at s') (omega arith))

-- ---- the do that the source's run does in its step j
done-in : (t : Table) (vs : List ℕ) (x j row : ℕ) (s : Source) → Leads (slipping_step t untouched) j (source_start vs) s → s.running.at ≡ row → kind_at t row ≡ Do
    → line_at (harden t) x ≡ do_line (operands_at t row) row → DoneIn (harden t) t vs x j
unfolding run outcome_of_lem
done-in t vs x j row s e r d q =
    let w : source_run t j vs ≡ run (source_machine t) 0 j s = ap (λ y. run (source_machine t) y 0 (source_start vs)) (sym (add-zero j)) ∙ e 0 in
    record { goes_on = ap (λ z. outcome_of_lem z.step) w; row = row; reached = ap (λ z. z.state.running.at) w ∙ r; is_do = d; line_is = q }

-- ---- which slip it is
slip-same : (x y j : ℕ) → y ≡ x → slip_between x y j ≡ untouched
slip-same x y j e = rw (le-ltb x y (omega arith), le-ltb y x (omega arith))

slip-forward : (x y j : ℕ) → y ≡ suc x → slip_between x y j ≡ left_out j
slip-forward x y j e = rw (lt-ltb x y (omega arith))

slip-back : (x y j : ℕ) → x ≡ suc y → slip_between x y (suc j) ≡ done_twice j
slip-back x y j e = rw (le-ltb x y (omega arith), lt-ltb y x (omega arith)) (ap done_twice (omega arith))

module _ (t : Table) (ok : Proper t) {H : Type 0} {F : Form H} (S : Settles t F) (vs : List ℕ) (b k p : ℕ) (e : strikes F (harden t) vs b k ≡ true)
    (l : p ≤ last_place (harden t) (before F (harden t) vs k).state.running.function) (a : Reaches S vs k) where
  -- the two lines
  abbrev from : ℕ
  from = a.h.running.at

  abbrev to : ℕ
  to = place_line (harden t) p a.h

  within : p ≤ last_place (harden t) a.h.running.function
  within = subst (λ y. p ≤ last_place (harden t) y.running.function) (state_is S vs k a) l

  struck-is : run_of F (harden t) (strike_by_lem k p) b vs ≡ run (line_machine S) (b - k) k (landed_at (harden t) p a.h)
  struck-is = goes_struck F (harden t) (Goes S) (onward t ok S) vs (goes-start t ok S vs) b k e p l ∙ ap (λ y. run (line_machine S) (b - k) k (landed_at (harden t) p y)) (state_is S vs k a)

  slip-is : slip_of F (harden t) vs k p ≡ slip_between from to a.m
  unfolding slip_of
  slip-is =
      ap (λ y. slip_between y.running.at (place_line (harden t) p y) (matching F (harden t) k vs)) (state_is S vs k a) ∙ ap (slip_between from to) (matching-is S vs k a)

  -- where the landed state is related to s, and the slipped run goes on from s
  slipped-by : (x : Slip) (d : ℕ) (s : Source) → slip_between from to a.m ≡ x → ThatDo (harden t) t vs from to x → GoesFrom t x vs a.m s → Related S d s (landed_at (harden t) p a.h)
      → Slipped F (harden t) t vs b k p
  unfolding matching_of quiet_done struck-is
  slipped-by x d s is that go r =
      let quiet = quiet_is S vs k a b p e within in
      let y = simulates t ok S (b - k) k a.m d s (landed_at (harden t) p a.h) r in
      let q : matching_of F (harden t) (strike_by_lem k p) b vs ≡ a.m + y.m = omega (arith, ap (λ z. z.steps) struck-is, quiet, y.counted, a.counted) in
      record {
        as_slipped = rw (slip-is ∙ is, q) (ap shown struck-is ∙ y.alike ∙ sym (go.shows y.m));
        at_matching = rw (slip-is ∙ is, q) (go.takes y.m ∙ y.took);
        in_steps = rw (slip-is ∙ is, q, go.takes y.m ∙ y.took) (omega (arith, ap (λ z. z.steps) struck-is, quiet, y.counted, a.counted));
        no_alarm = rw struck-is y.no_alarm;
        that_do = rw (slip-is ∙ is) (subst (λ z. ThatDo (harden t) t vs z.running.at (place_line (harden t) p z) x) (sym (state_is S vs k a)) that);
      }

  -- the three ways
  slipped_of : Landed S p a.owed a.s a.h (tick_due a.related.mode) a.related.i → Slipped F (harden t) t vs b k p
  slipped_of (same_place q) =
      slipped-by untouched a.owed a.s (slip-same from to a.m q) q (from-same t untouched vs a.m a.s (a.source_goes untouched tt))
      (subst (λ y. Related S a.owed a.s (go_to y a.h.running.own a.h)) (sym q) a.related)
  slipped_of (past_do q d is r) =
      slipped-by (left_out a.m) (suc a.owed) (to_row (suc a.s.running.at) a.s) (slip-forward from to a.m q)
      (q, done-in t vs from a.m a.s.running.at a.s (a.source_goes untouched tt) refl d is)
      (from-left-out t vs a.m a.s (a.source_goes (left_out a.m) (omega arith))) r
  slipped_of (back_to_do o x d q is r) =
      let y = a.came x in
      slipped-by (done_twice y.j) o (to_row a.related.i a.s) (ap (slip_between from to) y.m_is ∙ slip-back from to y.j q)
      (q, done-in t vs to y.j a.related.i y.doing (y.reached untouched tt) (sym y.row_is) d is)
      (rw (y.m_is, y.row_is) (from-twice t vs y.j y.doing a.s (y.reached (done_twice y.j) (omega arith)) y.did_it)) r

pub slipped : (t : Table) → Proper t → {H : Type 0} {F : Form H} (S : Settles t F) → (vs : List ℕ) (b k p : ℕ) → strikes F (harden t) vs b k ≡ true
    → p ≤ last_place (harden t) (before F (harden t) vs k).state.running.function
    → guard_between (harden t) (before F (harden t) vs k).state.running.at (place_line (harden t) p (before F (harden t) vs k).state) ≡ false → Slipped F (harden t) t vs b k p
slipped t ok {F = F} S vs b k p e l g =
    let a = reaches t ok S vs k (not-over F (harden t) vs b k e) in
    slipped_of t ok S vs b k p e l a
    (lands t ok S a.owed a.s a.h a.related p (subst (λ y. guard_between (harden t) y.running.at (place_line (harden t) p y) ≡ false) (state_is S vs k a) g))
