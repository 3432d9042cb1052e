-- The two runs side by side at a call and at a function's end, and the hardened run alone at a tick and a back.
-- Assumes that the table is accepted.
use mathlib.Core.Path.{◌≡◌, refl, sym, ap, ◌∙◌}
use mathlib.Core.Bool.{Bool, true, false, cond}
use mathlib.Core.List.{List, [], ◌∷◌}
use Prim.Native.Nat.{ℕ, suc, ◌+◌, ◌<◌}
use native.Mathlib.Omega.{arith}
use lib.ListN.{length}
use lib.Dec.{ltb}
use Rattle.rules.specs.declared.kind.Kind.TheVariants.{Do, End, Call}
use Rattle.rules.specs.declared.step.Step.TheVariants.{Finished, TooManyOpen}
use Rattle.rules.specs.Limits.{max_open}
use Rattle.rules.specs.Row.{Table, kind_at, operands_at}
use Rattle.rules.specs.Scan.{body, Open, regions, function_count, function_row}
use Rattle.rules.specs.Value.{base, value, value_in}
use Rattle.rules.specs.Line.{Line, tick_line, call_line, back_line, ret_line}
use Rattle.rules.specs.Harden.{line_of, own_region, end_line, call_of, back_of, row_lines, harden}
use Rattle.rules.specs.Function.{function_at}
use Rattle.rules.specs.State.{Frame, State, frame}
use Rattle.rules.specs.Run.{on, ends, outcome_of_lem}
use Rattle.rules.specs.Source.{return_row, end_row_lem, row_step, source_step}
use Rattle.rules.specs.Form.{Form, must, leaves_of, turn_by, line_step_of, step_of}
use Rattle.rules.proofs.Logic.{clash}
use Rattle.rules.proofs.Accepted.{Proper}
use Rattle.rules.proofs.Scan.{open_next}
use Rattle.rules.proofs.Value.{value-next, fresh-value}
use Rattle.rules.proofs.Harden.{line-suc}
use Rattle.rules.proofs.Function.{InFunction, move-to, entry, callee_known}
use Rattle.rules.proofs.Place.{callee}
use Rattle.rules.proofs.Words.{word_at}
use Rattle.rules.proofs.Parts.{body_below}
use Rattle.rules.proofs.Form.Settles.{Settles, body_part, is-tick, is_call}
use Rattle.rules.proofs.Form.Relation.{Back, waiting, source_backs, line_backs, backs-length, src, hard, here, Linked, ready, backing, Related, Arrives, SharedEnd, finish, early, Both, both_on, both_end, owing, source-step, line_step, ready_at}

-- ---- call
call_line_step : {H : Type 0} (F : Form H) (ls : List Line) (n k : ℕ) (c : H) (rest : List (Frame H)) (l : H) (vs tr : List ℕ) (r e a b go : ℕ) → (F.guard k (call_line r e a b go)).passes c l ≡ true
    → (y : Bool) → ltb (suc (length rest)) max_open ≡ y → line_step_of F ls k (call_line r e a b go) (hard n k c rest l vs tr)
    ≡ cond y (on (hard (function_at ls go) go (F.guard k (call_line r e a b go)).opens (frame n (suc k) ((F.guard k (call_line r e a b go)).moves true c) ∷ rest) l vs tr)) (ends (TooManyOpen max_open) (hard n k c rest l vs tr))
unfolding turn_by
call_line_step F ls n k c rest l vs tr r e a b go h y z = rw (h, z)

too-many-early : {d : ℕ} → SharedEnd d (TooManyOpen max_open)
unfolding outcome_of_lem
too-many-early = early (omega arith) (omega arith) (omega arith)

module _ (t : Table) (ok : Proper t) {H : Type 0} {F : Form H} (S : Settles t F) (n i : ℕ) (f : Open) (fs : List Open) (m : InFunction t n i f fs) (rest : List Back) (lk : Linked t n rest) (l : H) (vs tr : List ℕ) (e : kind_at t i ≡ Call) where
  abbrev called : ℕ
  called = (operands_at t i).n

  known : called < function_count t
  known = callee_known t ok i m.within e

  abbrev calling : Line
  calling = call_of t i (f ∷ fs) called

  -- the caller waits
  abbrev left : H
  left = (F.guard (line_of t i) calling).moves true (S.at (line_of t i) (f ∷ fs) (value t f.region i))

  abbrev entered : H
  entered = (F.guard (line_of t i) calling).opens

  waits : left ≡ waiting S i
  waits = S.steady_moves _ f fs _ _ _ (body_below t m) (omega (arith, word_at t ok m)) (omega (arith, word_at t ok m)) (is_call _ _) ∙ ap (λ s. S.at (suc (line_of t i)) s (value_in t i s + 1)) (sym m.open_is)

  opened : Arrives S (suc (length rest)) i (src called (suc (function_row t called)) (record { function = n; row = i } ∷ rest) vs tr)
      (hard (function_at (harden t) (line_of t (suc (function_row t called)))) (line_of t (suc (function_row t called))) entered
      (frame n (suc (line_of t i)) left ∷ line_backs S rest) l vs tr)
  unfolding known
  opened =
      record {
        related = record {
          n = called;
          i = suc (function_row t called);
          j = suc (function_row t called);
          k = line_of t (suc (function_row t called));
          w = base t (regions t (function_row t called));
          l = l;
          rest = record { function = n; row = i } ∷ rest;
          vs = vs;
          tr = tr;
          f = body_part t called;
          fs = [];
          s_is = refl;
          h_is = ap (λ x. hard x (line_of t (suc (function_row t called))) entered (frame n (suc (line_of t i)) left ∷ line_backs S rest) l vs tr) (callee t ok called known)
              ∙ ap (λ x. hard called (line_of t (suc (function_row t called))) entered (frame n (suc (line_of t i)) x ∷ line_backs S rest) l vs tr) waits
              ∙ ap (λ x. hard called (line_of t (suc (function_row t called))) x (line_backs S (record { function = n; row = i } ∷ rest)) l vs tr) (S.call_opens _ called _ _ _);
          in_function = entry t ok called known;
          linked = (record { calls = e; callee = refl; top = f; others = fs; in_function = m }, lk);
          mode = ready refl refl (sym (fresh-value t (function_row t called)));
          owes = omega arith;
        };
        after_do = λ q. clash {b = false} q refl;
      }

  pub step_call : Both S (length rest + 1) (src n i rest vs tr) (step_of F (harden t) (here S n i f fs rest l vs tr))
  unfolding row_step row_lines
  step_call = by (ltb (suc (length (source_backs rest))) max_open) refl
    where
      row_is : (y : Bool) → ltb (suc (length (source_backs rest))) max_open ≡ y
          → source_step t (src n i rest vs tr) ≡ cond y (on (src called (suc (function_row t called)) (record { function = n; row = i } ∷ rest) vs tr)) (ends (TooManyOpen max_open) (src n i rest vs tr))
      row_is y ey = source-step t n i rest vs tr e m.open_is
          ∙ ap (λ y. cond y (on (src called (suc (function_row t called)) (record { function = n; row = i } ∷ rest) vs tr)) (ends (TooManyOpen max_open) (src n i rest vs tr))) ey

      line_is : step_of F (harden t) (here S n i f fs rest l vs tr) ≡ line_step_of F (harden t) (line_of t i) (call_of t i (f ∷ fs) called) (here S n i f fs rest l vs tr)
      line_is = line_step t ok S m (line_of t i) 0 _ (omega arith) (rw e (omega arith)) (rw e) _ _ l vs tr

      room : (y : Bool) → ltb (suc (length (source_backs rest))) max_open ≡ y → ltb (suc (length (line_backs S rest))) max_open ≡ y
      room y ey = ap (λ x. ltb (suc x) max_open) (backs-length S rest) ∙ ey

      by : (y : Bool) → ltb (suc (length (source_backs rest))) max_open ≡ y → Both S (length rest + 1) (src n i rest vs tr) (step_of F (harden t) (here S n i f fs rest l vs tr))
      by true ey = owing (omega arith) (both_on _ _ (row_is true ey)
          (line_is ∙ call_line_step F (harden t) n _ _ (line_backs S rest) l vs tr _ _ _ _ _ (S.steady_passes _ f fs _ _ _ _ (body_below t m) (is_call _ _)) true (room true ey)) opened)
      by false ey = both_end (TooManyOpen max_open) _ _ (row_is false ey)
          (line_is ∙ call_line_step F (harden t) n _ _ (line_backs S rest) l vs tr _ _ _ _ _ (S.steady_passes _ f fs _ _ _ _ (body_below t m) (is_call _ _)) false (room false ey))
          (record { n = n; i = i; k = line_of t i; l = l; rest = rest; c = S.at (line_of t i) (f ∷ fs) (value t f.region i); vs = vs; tr = tr; s_is = refl; h_is = refl })
          too-many-early

-- ---- a function's end
ret-line : {H : Type 0} (F : Form H) (ls : List Line) (n k : ℕ) (c : H) (rest : List (Frame H)) (l : H) (vs tr : List ℕ) (e a : ℕ) → (F.guard k (ret_line e a)).passes c l ≡ true
    → line_step_of F ls k (ret_line e a) (hard n k c rest l vs tr) ≡ leaves_of F (hard n k ((F.guard k (ret_line e a)).moves true c) rest l vs tr) rest
unfolding turn_by
ret-line F ls n k c rest l vs tr e a h = rw h

module _ (t : Table) (ok : Proper t) {H : Type 0} {F : Form H} (S : Settles t F) (n i : ℕ) (f : Open) (m : InFunction t n i f []) (l : H) (vs tr : List ℕ) (e : kind_at t i ≡ End) (w : f.part ≡ body) where
  abbrev ended : H
  ended = (F.guard (line_of t i) (ret_line (value t f.region i) (value t f.region i + 1))).moves true (S.at (line_of t i) (f ∷ []) (value t f.region i))

  line_is : (rest : List Back) → step_of F (harden t) (here S n i f [] rest l vs tr) ≡ leaves_of F (hard n (line_of t i) ended (line_backs S rest) l vs tr) (line_backs S rest)
  unfolding row_lines
  line_is rest = line_step t ok S m (line_of t i) 0 (end_line t i (f ∷ []) body) (omega arith) (rw e (omega arith)) (rw (e, w)) _ _ l vs tr
      ∙ ret-line F (harden t) n _ _ (line_backs S rest) l vs tr _ _ (S.ret_passes _ f _ _ _)

  row_is : (rest : List Back) → source_step t (src n i rest vs tr) ≡ return_row (src n i rest vs tr) (source_backs rest)
  unfolding row_step
  row_is rest = source-step t n i rest vs tr e m.open_is ∙ ap (λ y. end_row_lem i (f ∷ []) y (src n i rest vs tr)) w

  pub step-return : (rest : List Back) → Linked t n rest → Both S (length rest) (src n i rest vs tr) (step_of F (harden t) (here S n i f [] rest l vs tr))
  step-return [] lk = both_end Finished _ _ (row_is [])
      (line_is [] ∙ ap (λ y. must y (hard n (line_of t i) ended [] l vs tr) (ends Finished (hard n (line_of t i) ended [] l vs tr)))
      (S.host_agrees (zero-known lk) ended (S.ret_ends m e ∙ ap S.end lk)))
      (record { n = n; i = i; k = line_of t i; l = l; rest = []; c = ended; vs = vs; tr = tr; s_is = refl; h_is = refl }) (finish refl refl)
    where
      zero-known : n ≡ 0 → 0 < function_count t
      zero-known q = omega (arith, m.known)
  step-return (b ∷ bs) lk = both_on _ _ (row_is (b ∷ bs)) (line_is (b ∷ bs))
      (record {
        related = record {
          n = b.function;
          i = b.row;
          j = suc b.row;
          k = suc (line_of t b.row);
          w = value t lk.0.top.region b.row + 1;
          l = ended;
          rest = bs;
          vs = vs;
          tr = tr;
          f = lk.0.top;
          fs = lk.0.others;
          s_is = refl;
          h_is = ap (λ s. hard b.function (suc (line_of t b.row)) (S.at (suc (line_of t b.row)) s (value_in t b.row s + 1)) (line_backs S bs) ended vs tr) lk.0.in_function.open_is;
          in_function = lk.0.in_function;
          linked = lk.1;
          mode = backing lk.0.calls refl refl refl (S.ret_ends m e ∙ ap S.end (sym lk.0.callee));
          owes = omega arith;
        };
        after_do = λ q. clash {b = false} q refl;
      })

-- ---- ticks and backs
tick-line : {H : Type 0} (F : Form H) (ls : List Line) (n k : ℕ) (c : H) (rest : List (Frame H)) (l : H) (vs tr : List ℕ) (r e a : ℕ) → (F.guard k (tick_line r e a)).passes c l ≡ true
    → line_step_of F ls k (tick_line r e a) (hard n k c rest l vs tr) ≡ on (hard n (suc k) ((F.guard k (tick_line r e a)).moves true c) rest l vs tr)
unfolding turn_by
tick-line F ls n k c rest l vs tr r e a h = rw h

back-line : {H : Type 0} (F : Form H) (ls : List Line) (n k : ℕ) (c : H) (rest : List (Frame H)) (l : H) (vs tr : List ℕ) (r e a b : ℕ) → (F.guard k (back_line r e a b)).passes c l ≡ true
    → line_step_of F ls k (back_line r e a b) (hard n k c rest l vs tr) ≡ on (hard n (suc k) ((F.guard k (back_line r e a b)).moves true c) rest l vs tr)
unfolding turn_by
back-line F ls n k c rest l vs tr r e a b h = rw h

module _ (t : Table) (ok : Proper t) {H : Type 0} {F : Form H} (S : Settles t F) (n i : ℕ) (f : Open) (fs : List Open) (m : InFunction t n i f fs) (rest : List Back) (lk : Linked t n rest) (l : H) (vs tr : List ℕ) where
  pub step-tick : kind_at t i ≡ Do
      → (h : State H) × (step_of F (harden t) (hard n (suc (line_of t i)) (S.at (suc (line_of t i)) (f ∷ fs) (value t f.region i)) (line_backs S rest) l vs tr) ≡ on h)
      × Related S (length rest) (src n (suc i) rest vs tr) h
  unfolding row_lines
  step-tick e = (
    _,
    line_step t ok S m (suc (line_of t i)) 1 (tick_line (own_region (f ∷ fs)) (value t f.region i) (value t f.region i + 1)) (omega arith) (rw e (omega arith)) (rw e) _ _ l vs tr
        ∙ tick-line F (harden t) n _ _ _ l vs tr _ _ _ (S.steady_passes _ f fs _ _ _ _ (body_below t m) is-tick),
    ready_at S (move-to t ok m (suc i) m.within (open_next t i e m.open_is) refl) rest lk (omega (arith, line-suc t i e)) (sym (value-next t i e m.open_is)) l vs tr _
        (S.steady_moves _ f fs _ _ _ (body_below t m) (omega (arith, word_at t ok m)) (omega (arith, word_at t ok m)) is-tick),
  )

  pub step_back : kind_at t i ≡ Call → S.seen l ≡ S.end (operands_at t i).n
      → (h : State H) × (step_of F (harden t) (hard n (suc (line_of t i)) (S.at (suc (line_of t i)) (f ∷ fs) (value t f.region i + 1)) (line_backs S rest) l vs tr) ≡ on h)
      × Related S (length rest) (src n (suc i) rest vs tr) h
  unfolding row_lines
  step_back e q = (
    _,
    line_step t ok S m (suc (line_of t i)) 1 (back_of t i (f ∷ fs) (operands_at t i).n) (omega arith) (rw e (omega arith)) (rw e) _ _ l vs tr
        ∙ back-line F (harden t) n _ _ _ l vs tr _ _ _ _ (S.back_passes m e _ _ l (body_below t m) q),
    ready_at S (move-to t ok m (suc i) m.within (open_next t i e m.open_is) refl) rest lk (omega (arith, line-suc t i e)) (sym (value-next t i e m.open_is)) l vs tr _
        (S.back_moves _ f fs _ _ _ (body_below t m) (omega (arith, word_at t ok m)) (omega (arith, word_at t ok m))),
  )
