-- The step that a wide jump strikes, in every strict form: it ends the run before a do that overflows; the alarm comes at once before a
-- guard and at place m with one function open, and one step later before any other do and at place m with more open. Assumes that the
-- table is accepted.
use mathlib.Core.Logic.{◌⊎◌, inl, inr}
use mathlib.Core.Path.{◌≡◌, refl, sym, ap, ◌∙◌, subst}
use mathlib.Core.Bool.{Bool, true, false, cond}
use mathlib.Core.List.{List, [], ◌∷◌, ◌++◌}
use Prim.Native.Nat.{ℕ, suc, ◌+◌, ◌≤◌, ◌<◌}
use native.Mathlib.Nat.{eq-or-lt_of_le}
use native.Mathlib.Omega.{arith}
use lib.ListN.{length}
use lib.Dec.{eqb}
use borrow.Author.Tests.{eq-eqb, ne_eqb}
use Rattle.rules.specs.declared.kind.Kind.TheVariants.{Do}
use Rattle.rules.specs.declared.step.Step.TheVariants.{Finished, Alarm, Overflow}
use Rattle.rules.specs.Row.{Table, kind_at, operands_at}
use Rattle.rules.specs.Scan.{Open}
use Rattle.rules.specs.Line.{Line, do_line, tick_line, back_line, line_at, is_guard}
use Rattle.rules.specs.Harden.{line_count, line_of, back_of, row_lines, harden}
use Rattle.rules.specs.Function.{start_of, finish_of, last_place}
use Rattle.rules.specs.Variables.{variable, done_on, overflows}
use Rattle.rules.specs.State.{Frame, State}
use Rattle.rules.specs.Run.{on, ends}
use Rattle.rules.specs.Source.{Source}
use Rattle.rules.specs.Form.{Form, must, leaves_of, turn_by, line_step_of, step_of, place_line}
use Rattle.rules.specs.Match.{guard_between}
use Rattle.rules.specs.Demands.{alarm_step, done_by, done_at, overflows_by, overflows_at}
use Rattle.rules.proofs.Logic.{clash}
use Rattle.rules.proofs.Accepted.{Proper}
use Rattle.rules.proofs.Harden.{line-at}
use Rattle.rules.proofs.Function.{InFunction, formed-here}
use Rattle.rules.proofs.Place.{start-finish, before_finish, line-of}
use Rattle.rules.proofs.Form.Settles.{Settles}
use Rattle.rules.proofs.Form.Relation.{Back, waiting, line_backs, hard, Linked, Related, step-at}
use Rattle.rules.proofs.Guard.{Sort, a_do, a_guard, sort}
use Rattle.rules.proofs.Form.Struck.{landed_at, Caught, at_once, one_later, overflowing}
use Rattle.rules.proofs.Form.Strict.{Strict}
use Rattle.rules.proofs.Between.{Between, up, down, between}
use Rattle.rules.proofs.Form.Where.{Stands, stands}

-- ---- a guard whose check fails
check-fails : {H : Type 0} (F : Form H) (ls : List Line) (ℓ : Line) (n k : ℕ) (c : H) (rest : List (Frame H)) (l : H) (vs tr : List ℕ) → is_guard ℓ ≡ true
    → (F.guard k ℓ).passes c l ≡ false → line_step_of F ls k ℓ (hard n k c rest l vs tr) ≡ ends Alarm (hard n k c rest l vs tr)
unfolding turn_by
check-fails F ls (do_line o e) n k c rest l vs tr g h = clash g refl
check-fails F ls (tick_line r e a) n k c rest l vs tr g h = rw h
check-fails F ls (Line.test_line o r s t e a b d go) n k c rest l vs tr g h = rw h
check-fails F ls (Line.leave_line r s e a b go) n k c rest l vs tr g h = rw h
check-fails F ls (Line.out_line r s t e a go) n k c rest l vs tr g h = rw h
check-fails F ls (Line.call_line r e a b go) n k c rest l vs tr g h = rw h
check-fails F ls (back_line r e a b) n k c rest l vs tr g h = rw h
check-fails F ls (Line.ret_line e a) n k c rest l vs tr g h = rw h

-- ---- place m
step-finish : {H : Type 0} (F : Form H) (t : Table) (n k : ℕ) (c : H) (rest : List (Frame H)) (l : H) (vs tr : List ℕ) → k ≡ finish_of (harden t) n
    → step_of F (harden t) (hard n k c rest l vs tr) ≡ leaves_of F (hard n k c rest l vs tr) rest
unfolding step_of
step-finish F t n k c rest l vs tr e = rw (eq-eqb k (finish_of (harden t) n) e)

guard-keeps : {H : Type 0} (ℓ : Line) → is_guard ℓ ≡ true → (s : State H) → done_by ℓ s ≡ s
guard-keeps (do_line o e) g s = clash g refl
guard-keeps (tick_line r e a) g s = refl
guard-keeps (Line.test_line o r s' u e a b c go) g s = refl
guard-keeps (Line.leave_line r s' e a b go) g s = refl
guard-keeps (Line.out_line r s' u e a go) g s = refl
guard-keeps (Line.call_line r e a b go) g s = refl
guard-keeps (back_line r e a b) g s = refl
guard-keeps (Line.ret_line e a) g s = refl

guard-fits : {H : Type 0} (ℓ : Line) → is_guard ℓ ≡ true → (s : State H) → overflows_by ℓ s ≡ false
guard-fits (do_line o e) g s = clash g refl
guard-fits (tick_line r e a) g s = refl
guard-fits (Line.test_line o r s' u e a b c go) g s = refl
guard-fits (Line.leave_line r s' e a b go) g s = refl
guard-fits (Line.out_line r s' u e a go) g s = refl
guard-fits (Line.call_line r e a b go) g s = refl
guard-fits (back_line r e a b) g s = refl
guard-fits (Line.ret_line e a) g s = refl

-- a guard between k and a do is also between k and the line after the do
past_do : (ls : List Line) (k k' : ℕ) → is_guard (line_at ls k') ≡ false → Between ls k k' → Between ls k (suc k')
past_do ls k k' d (up x a b g) = up x a (omega arith) g
past_do ls k k' d (down x a b g) = by (eq-or-lt_of_le a)
  where
    by : (k' ≡ x) ⊎ (k' < x) → Between ls k (suc k')
    by (inl e) = clash g (ap (λ y. is_guard (line_at ls y)) (sym e) ∙ d)
    by (inr l) = down x l b g

module _ (t : Table) (ok : Proper t) {H : Type 0} {F : Form H} (S : Settles t F) (R : Strict S) (n k w : ℕ) (f : Open) (fs : List Open) (st : Stands t n k w f fs) (l : H) (vs tr : List ℕ) (p : ℕ) where
  abbrev cn : H
  cn = S.at k (f ∷ fs) w

  abbrev from : List (Frame H) → State H
  from rest = hard n k cn rest l vs tr

  done-last : (rest : List (Frame H)) → p ≡ last_place (harden t) n → done_at (harden t) p (from rest) ≡ from rest
  unfolding done_at
  done-last rest e = rw (eq-eqb p (last_place (harden t) n) e)

  fits_last : (rest : List (Frame H)) → p ≡ last_place (harden t) n → overflows_at (harden t) p (from rest) ≡ false
  unfolding overflows_at
  fits_last rest e = rw (eq-eqb p (last_place (harden t) n) e)

  abbrev at : ℕ
  at = start_of (harden t) n + p

  caught-last : p ≡ last_place (harden t) n → (bs : List Back) → Linked t n bs → Caught F (harden t) p (from (line_backs S bs))
  unfolding alarm_step row_lines
  caught-last e [] lk = at_once (fits_last [] e) (λ k. rw (eq-eqb p (last_place (harden t) n) e)) (landed_at (harden t) p (from []))
      (step-finish F t n at cn [] l vs tr (omega (arith, start-finish t ok n st.in_function.known))
      ∙ ap (λ x. must x (landed_at (harden t) p (from [])) (ends Finished (landed_at (harden t) p (from []))))
      (R.not_host k w f fs (subst (λ x. Stands t x k w f fs) lk st)))
      (rw (done-last [] e) (record { vars_are = refl; trace_is = refl }))
  caught-last e (b ∷ bs) lk =
      let cl = lk.0 in
      let h = hard b.function (suc (line_of t b.row)) (waiting S b.row) (line_backs S bs) cn vs tr in
      let ct : line_count (kind_at t b.row) ≡ 2 = ap line_count cl.calls in
      let back_is : line_at (harden t) (suc (line_of t b.row)) ≡ back_of t b.row (cl.top ∷ cl.others) n
      = ap (line_at (harden t)) (let z : suc (line_of t b.row) ≡ line_of t b.row + 1 = omega arith in z) ∙ line-at t b.row 1 cl.in_function.within (omega (arith, ct))
      ∙ ap (λ s. line_at (row_lines t b.row s (kind_at t b.row)) 1) cl.in_function.open_is ∙ ap (λ x. line_at (row_lines t b.row (cl.top ∷ cl.others) x) 1) cl.calls ∙ ap (back_of t b.row (cl.top ∷ cl.others)) cl.callee in
      one_later (fits_last (line_backs S (b ∷ bs)) e) (λ k. rw (eq-eqb p (last_place (harden t) n) e, ne_eqb (suc (suc (length (line_backs S bs)))) 1 (λ x. omega arith))) h h
      (step-finish F t n at cn (line_backs S (b ∷ bs)) l vs tr (omega (arith, start-finish t ok n st.in_function.known)))
      (omega (arith, before_finish t ok cl.in_function, ct))
      (step-at S b.function (suc (line_of t b.row)) _ (omega (arith, before_finish t ok cl.in_function, ct)) back_is _ _ cn vs tr
      ∙ check-fails F (harden t) _ b.function (suc (line_of t b.row)) (waiting S b.row) (line_backs S bs) cn vs tr refl (R.not_back n k w f fs st cl.in_function cl.calls cl.callee _))
      (rw (done-last (line_backs S (b ∷ bs)) e) (record { vars_are = refl; trace_is = refl })) (rw (done-last (line_backs S (b ∷ bs)) e) (record { vars_are = refl; trace_is = refl }))

  -- ---- a place before a line
  module _ (rest : List (Frame H)) (low : p < last_place (harden t) n) (wide : Between (harden t) k at) where
    not_last : eqb p (last_place (harden t) n) ≡ false
    not_last = ne_eqb p (last_place (harden t) n) (omega arith)

    caught-guard : (ℓ : Line) → line_at (harden t) at ≡ ℓ → is_guard ℓ ≡ true → Caught F (harden t) p (from rest)
    unfolding alarm_step done_at overflows_at
    caught-guard ℓ q g = at_once (rw (not_last, q) (guard-fits ℓ g (from rest))) (λ k. rw (not_last, q, g)) (landed_at (harden t) p (from rest))
        (step-at S n at ℓ (omega arith) q cn rest l vs tr
        ∙ check-fails F (harden t) ℓ n at cn rest l vs tr g (subst (λ x. (F.guard at x).passes cn l ≡ false) q (R.refuses n k w f fs st at (omega arith) (omega arith) (ap is_guard q ∙ g) wide l)))
        (rw (not_last, q, guard-keeps ℓ g (from rest)) (record { vars_are = refl; trace_is = refl }))

    -- a do, by whether it overflows on the variables of the run
    does : (j : ℕ) → line_at (harden t) at ≡ do_line (operands_at t j) j → (y : Bool) → overflows (operands_at t j) vs ≡ y
        → step_of F (harden t) (landed_at (harden t) p (from rest)) ≡ cond y (ends (Overflow j (variable vs (operands_at t j).p)) (landed_at (harden t) p (from rest))) (on (hard n (suc at) cn rest l (done_on (operands_at t j) vs) (tr ++ (j ∷ []))))
    unfolding turn_by
    does j q true o = step-at S n at _ (omega arith) q cn rest l vs tr ∙ rw o
    does j q false o = step-at S n at _ (omega arith) q cn rest l vs tr ∙ rw o

    caught-overflow : (j : ℕ) → line_at (harden t) at ≡ do_line (operands_at t j) j → overflows (operands_at t j) vs ≡ true → Caught F (harden t) p (from rest)
    unfolding overflows_at
    caught-overflow j q o = overflowing (rw (not_last, q) o) j (variable vs (operands_at t j).p) (landed_at (harden t) p (from rest)) (does j q true o) (record { vars_are = refl; trace_is = refl })

    caught-do : (j : ℕ) (h : Open) (hs : List Open) → InFunction t n j h hs → at ≡ line_of t j → kind_at t j ≡ Do → line_at (harden t) at ≡ do_line (operands_at t j) j → overflows (operands_at t j) vs ≡ false
        → Caught F (harden t) p (from rest)
    unfolding alarm_step done_at row_lines overflows_at
    caught-do j h hs mj is r q o =
        let done = hard n (suc at) cn rest l (done_on (operands_at t j) vs) (tr ++ (j ∷ [])) in
        let ct : line_count (kind_at t j) ≡ 2 = ap line_count r in
        let tick_is : line_at (harden t) (suc at) ≡ tick_line _ _ _
        = ap (line_at (harden t)) (let z : suc at ≡ line_of t j + 1 = omega arith in z) ∙ line-at t j 1 mj.within (omega (arith, ct)) ∙ ap (λ s. line_at (row_lines t j s (kind_at t j)) 1) mj.open_is
        ∙ ap (λ x. line_at (row_lines t j (h ∷ hs) x) 1) r in
        let late : suc at < finish_of (harden t) n = omega (arith, before_finish t ok mj, ct) in
        one_later (rw (not_last, q) o) (λ k. rw (not_last, q)) done done
        (does j q false o)
        late
        (step-at S n (suc at) _ late tick_is cn rest l _ _
        ∙ check-fails F (harden t) _ n (suc at) cn rest l _ _ refl
        (subst (λ x. (F.guard (suc at) x).passes cn l ≡ false) tick_is (R.refuses n k w f fs st (suc at) (omega arith) late (ap is_guard tick_is) (past_do (harden t) k at (ap is_guard q) wide) l)))
        (rw (not_last, q) (record { vars_are = refl; trace_is = refl })) (rw (not_last, q) (record { vars_are = refl; trace_is = refl }))

    caught-line : (j ph : ℕ) (h : Open) (hs : List Open) → InFunction t n j h hs → at ≡ line_of t j + ph → line_at (harden t) at ≡ line_at (row_lines t j (h ∷ hs) (kind_at t j)) ph
        → Sort t j h hs ph (line_at (row_lines t j (h ∷ hs) (kind_at t j)) ph) → Caught F (harden t) p (from rest)
    caught-line j ph h hs mj is q (a_guard d g) = caught-guard _ q g.guards
    caught-line j ph h hs mj is q (a_do r z x) = by (overflows (operands_at t j) vs) refl
      where
        by : (y : Bool) → overflows (operands_at t j) vs ≡ y → Caught F (harden t) p (from rest)
        by true o = caught-overflow j (q ∙ x) o
        by false o = caught-do j h hs mj (omega arith) r (q ∙ x) o

  -- ---- any place across a guard
  caught : (bs : List Back) → Linked t n bs → p ≤ last_place (harden t) n → Between (harden t) k at → Caught F (harden t) p (from (line_backs S bs))
  caught bs lk b wide = by (eq-or-lt_of_le b)
    where
      by : (p ≡ last_place (harden t) n) ⊎ (p < last_place (harden t) n) → Caught F (harden t) p (from (line_backs S bs))
      by (inl e) = caught-last e bs lk
      by (inr x) =
          let pl = line-of t ok n at st.in_function.known (omega arith) (omega arith) in
          caught-line (line_backs S bs) x wide pl.row pl.ph pl.top pl.others pl.in_function pl.is
          (ap (line_at (harden t)) pl.is ∙ line-at t pl.row pl.ph pl.in_function.within pl.ph_lt ∙ ap (λ s. line_at (row_lines t pl.row s (kind_at t pl.row)) pl.ph) pl.in_function.open_is)
          (sort t pl.row pl.top pl.others (formed-here t ok pl.in_function) (kind_at t pl.row) refl pl.ph pl.ph_lt)

-- ---- from a state that is related to a source state
abbrev pub Catches : {H : Type 0} → Table → Form H → ℕ → State H → Type 0
Catches t F p h =
    p ≤ last_place (harden t) h.running.function → guard_between (harden t) h.running.at (place_line (harden t) p h) ≡ true → Caught F (harden t) p h

pub catches : (t : Table) → Proper t → {H : Type 0} {F : Form H} (S : Settles t F) → Strict S → (d : ℕ) (s : Source) (h : State H) → Related S d s h → (p : ℕ) → Catches t F p h
catches t ok {F = F} S R d s h r p = subst (Catches t F p) (sym r.h_is)
    (λ b w. caught t ok S R r.n r.k r.w r.f r.fs (stands t ok S r.n r.i r.j r.k r.w _ r.f r.fs r.in_function r.mode) r.l r.vs r.tr p
    r.rest r.linked b (between (harden t) r.k (start_of (harden t) r.n + p) w))
