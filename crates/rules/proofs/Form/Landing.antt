-- A jump with no guard between its two places, out of a state that is related to one of the source: the places are equal, or a do's own and
-- its tick's; and the state landed in is related to the source's past that do, or before it. Assumes that the table is accepted.
use mathlib.Core.Logic.{◌≢◌}
use mathlib.Core.Path.{◌≡◌, refl, sym, ap, ◌∙◌, subst}
use mathlib.Core.Bool.{Bool, true, false}
use mathlib.Core.List.{List, ◌∷◌}
use Prim.Native.Nat.{ℕ, suc, ◌+◌, ◌<◌}
use native.Mathlib.Omega.{arith}
use lib.Dec.{eqb}
use lib.ListN.{length}
use borrow.Author.Tests.{eqb-true, eqb-false}
use Rattle.rules.specs.declared.kind.Kind.{Kind}
use Rattle.rules.specs.declared.kind.Kind.TheVariants.{Function, Do, If, Else, Loop, End, Break, Continue, Call, Unknown}
use Rattle.rules.specs.Row.{Table, kind_at, operands_at}
use Rattle.rules.specs.Scan.{Part, body, then_part, else_part, loop_body, Open, has_else}
use Rattle.rules.specs.Value.{value}
use Rattle.rules.specs.Line.{do_line, line_at}
use Rattle.rules.specs.Harden.{line_count, line_of, test_of, end_line, row_lines, harden}
use Rattle.rules.specs.Function.{start_of}
use Rattle.rules.specs.State.{State}
use Rattle.rules.specs.Source.{Source, to_row}
use Rattle.rules.specs.Form.{Form, place_line}
use Rattle.rules.specs.Match.{is_do_lem, guard_between}
use Rattle.rules.specs.Settled.{across_by, across}
use Rattle.rules.proofs.Logic.{clash}
use Rattle.rules.proofs.Accepted.{Proper}
use Rattle.rules.proofs.Harden.{line-at, some_line}
use Rattle.rules.proofs.Function.{InFunction, not-silent}
use Rattle.rules.proofs.Across.{parted}
use Rattle.rules.proofs.Form.Settles.{Settles}
use Rattle.rules.proofs.Form.Relation.{Back, line_backs, src, hard, Linked, Mode, ready, ticking, backing, due, tick_due, Related}
use Rattle.rules.proofs.Form.Where.{is_do}
use Rattle.rules.proofs.Form.Struck.{landed_at}

-- ---- what a small jump to place p does
pub data Landed {H : Type 0} {t : Table} {F : Form H} (S : Settles t F) (p d : ℕ) (s : Source) (h : State H) (tick : Bool) (row : ℕ) : Type 0 where
  -- nothing
  same_place : place_line (harden t) p h ≡ h.running.at → Landed S p d s h tick row
  -- it leaves out the do that the source is about to do
  past_do : place_line (harden t) p h ≡ suc h.running.at → kind_at t s.running.at ≡ Do → line_at (harden t) h.running.at ≡ do_line (operands_at t s.running.at) s.running.at
      → Related S (suc d) (to_row (suc s.running.at) s) (landed_at (harden t) p h) → Landed S p d s h tick row
  -- it goes back to the do of that row, whose tick is due
  back_to_do : (d' : ℕ) → tick ≡ true → kind_at t row ≡ Do → h.running.at ≡ suc (place_line (harden t) p h) → line_at (harden t) (place_line (harden t) p h) ≡ do_line (operands_at t row) row
      → Related S d' (to_row row s) (landed_at (harden t) p h) → Landed S p d s h tick row

-- ---- from the first line of a row that is no do, no place lies across a do
test-alone : (t : Table) (i : ℕ) (fs : List Open) (b : Bool) (x : ℕ) → across_by (test_of t i fs b) x ≡ x
unfolding test_of
test-alone t i fs true x = refl
test-alone t i fs false x = refl

end-alone : (t : Table) (i : ℕ) (fs : List Open) (p : Part) (x : ℕ) → across_by (end_line t i fs p) x ≡ x
end-alone t i fs body x = refl
end-alone t i fs then_part x = refl
end-alone t i fs else_part x = refl
end-alone t i fs loop_body x = refl

first_alone : (t : Table) (i : ℕ) (f : Open) (fs : List Open) (k : Kind) → is_do_lem k ≡ false → (x : ℕ) → across_by (line_at (row_lines t i (f ∷ fs) k) 0) x ≡ x
unfolding row_lines
first_alone t i f fs Function e x = refl
first_alone t i f fs Do e x = clash refl e
first_alone t i f fs If e x = test-alone t i (f ∷ fs) (has_else t i) x
first_alone t i f fs Else e x = refl
first_alone t i f fs Loop e x = test-alone t i (f ∷ fs) false x
first_alone t i f fs End e x = end-alone t i (f ∷ fs) f.part x
first_alone t i f fs Break e x = refl
first_alone t i f fs Continue e x = refl
first_alone t i f fs Call e x = refl
first_alone t i f fs Unknown e x = refl

module _ (t : Table) (ok : Proper t) {H : Type 0} {F : Form H} (S : Settles t F) (n i j k w : ℕ) (l : H) (rest : List Back) (vs tr : List ℕ) (f : Open) (fs : List Open) (m : InFunction t n i f fs) (lk : Linked t n rest) (p : ℕ) where
  abbrev there : ℕ
  there = start_of (harden t) n + p

  abbrev kept : H
  kept = S.at k (f ∷ fs) w

  abbrev Goal : Mode S i j k w (S.seen l) (value t f.region i) → Type 0
  Goal x = Landed S p (length rest + due x) (src n j rest vs tr) (hard n k kept (line_backs S rest) l vs tr) (tick_due x) i

  line_is : (x ph : ℕ) → x ≡ line_of t i + ph → ph < line_count (kind_at t i) → line_at (harden t) x ≡ line_at (row_lines t i (f ∷ fs) (kind_at t i)) ph
  line_is x ph e h = ap (line_at (harden t)) e ∙ line-at t i ph m.within h ∙ ap (λ s. line_at (row_lines t i s (kind_at t i)) ph) m.open_is

  -- the do's own line, the tick's, and what lies across from each
  do-line : kind_at t i ≡ Do → line_at (harden t) (line_of t i) ≡ do_line (operands_at t i) i
  unfolding row_lines
  do-line e = line_is (line_of t i) 0 (omega arith) (rw e (omega arith)) ∙ rw e

  past-line : kind_at t i ≡ Do → (x : ℕ) → x ≡ line_of t i → across (harden t) x ≡ suc x
  unfolding across
  past-line e x q = ap (λ y. across_by y x) (ap (line_at (harden t)) q ∙ do-line e)

  from_tick : kind_at t i ≡ Do → (x : ℕ) → x ≡ suc (line_of t i) → across (harden t) x ≡ line_of t i
  unfolding row_lines across
  from_tick e x q = ap (λ y. across_by y x) (line_is x 1 (omega arith) (rw e (omega arith))) ∙ rw e (omega arith)

  from_back : kind_at t i ≡ Call → (x : ℕ) → x ≡ suc (line_of t i) → across (harden t) x ≡ x
  unfolding row_lines across
  from_back e x q = ap (λ y. across_by y x) (line_is x 1 (omega arith) (rw e (omega arith))) ∙ rw e

  from_other : is_do_lem (kind_at t i) ≡ false → across (harden t) (line_of t i) ≡ line_of t i
  unfolding across
  from_other e =
      ap (λ y. across_by y (line_of t i)) (line_is (line_of t i) 0 (omega arith) (some_line (kind_at t i) (not-silent t ok i m.within m.open_is)))
      ∙ first_alone t i f fs (kind_at t i) e (line_of t i)

  -- ---- to another place, across a do
  crosses : there ≢ k → there ≡ across (harden t) k → (x : Mode S i j k w (S.seen l) (value t f.region i)) → Goal x
  crosses ne e (ready ej ea ew) = by (is_do_lem (kind_at t i)) refl
    where
      by : (b : Bool) → is_do_lem (kind_at t i) ≡ b → Goal (ready ej ea ew)
      by false q = absurd (ne (e ∙ ap (across (harden t)) ea ∙ from_other q ∙ sym ea))
      by true q =
          let d = is_do (kind_at t i) q in
          let y : there ≡ suc k = e ∙ past-line d k ea in
          past_do y (ap (kind_at t) ej ∙ d) (ap (line_at (harden t)) ea ∙ do-line d ∙ ap (λ z. do_line (operands_at t z) z) (sym ej))
          (record {
            n = n;
            i = i;
            j = suc j;
            k = there;
            w = w;
            l = l;
            rest = rest;
            vs = vs;
            tr = tr;
            f = f;
            fs = fs;
            s_is = refl;
            h_is = ap (λ c. hard n there c (line_backs S rest) l vs tr) (ap (λ z. S.at z (f ∷ fs) w) ea ∙ S.over_do m d w ∙ ap (λ z. S.at z (f ∷ fs) w) (sym (y ∙ ap suc ea)));
            in_function = m;
            linked = lk;
            mode = ticking d (ap suc ej) (y ∙ ap suc ea) ew;
            owes = omega arith;
          })
  crosses ne e (ticking d ej ea ew) =
      let y : there ≡ line_of t i = e ∙ from_tick d k ea in
      back_to_do (length rest) refl d (ea ∙ ap suc (sym y)) (ap (line_at (harden t)) y ∙ do-line d)
      (record {
        n = n;
        i = i;
        j = i;
        k = there;
        w = w;
        l = l;
        rest = rest;
        vs = vs;
        tr = tr;
        f = f;
        fs = fs;
        s_is = refl;
        h_is = ap (λ c. hard n there c (line_backs S rest) l vs tr) (ap (λ z. S.at z (f ∷ fs) w) ea ∙ sym (S.over_do m d w) ∙ ap (λ z. S.at z (f ∷ fs) w) (sym y));
        in_function = m;
        linked = lk;
        mode = ready refl y ew;
        owes = omega arith;
      })
  crosses ne e (backing d ej ea ew el) = absurd (ne (e ∙ from_back d k ea))

  any_place : guard_between (harden t) k there ≡ false → (x : Mode S i j k w (S.seen l) (value t f.region i)) → Goal x
  any_place g x = by (eqb there k) (eqb there (across (harden t) k)) refl refl
    where
      by : (a b : Bool) → eqb there k ≡ a → eqb there (across (harden t) k) ≡ b → Goal x
      by true b q r = same_place (eqb-true there k q)
      by false true q r = crosses (eqb-false there k q) (eqb-true there (across (harden t) k) r) x
      by false false q r = clash (parted t k there (eqb-false there k q) (eqb-false there (across (harden t) k) r)) g

-- ---- from related states
pub lands : (t : Table) → Proper t → {H : Type 0} {F : Form H} (S : Settles t F) → (d : ℕ) (s : Source) (h : State H) (r : Related S d s h) → (p : ℕ)
    → guard_between (harden t) h.running.at (place_line (harden t) p h) ≡ false → Landed S p d s h (tick_due r.mode) r.i
lands t ok S d s h r p g =
    rw (r.owes, r.s_is, r.h_is)
    (any_place t ok S r.n r.i r.j r.k r.w r.l r.rest r.vs r.tr r.f r.fs r.in_function r.linked p
    (subst (λ y. guard_between (harden t) y.running.at (place_line (harden t) p y) ≡ false) r.h_is g) r.mode)
