-- The two runs side by side at a do, an if and a loop. Assumes that the table is accepted.
use mathlib.Core.Path.{◌≡◌, refl, sym, ap, ◌∙◌, subst}
use mathlib.Core.Bool.{Bool, true, false, cond}
use mathlib.Core.List.{List, [], ◌∷◌, ◌++◌}
use Prim.Native.Nat.{ℕ, suc, ◌+◌, ◌-◌}
use native.Mathlib.Omega.{arith}
use lib.ListN.{length}
use borrow.Author.Tests.{ltb-true}
use Rattle.rules.specs.declared.operands.Operands.{Operands}
use Rattle.rules.specs.declared.kind.Kind.{Kind}
use Rattle.rules.specs.declared.kind.Kind.TheVariants.{Do, If, Loop}
use Rattle.rules.specs.declared.step.Step.TheVariants.{Overflow}
use Rattle.rules.specs.Row.{Table, kind_at, operands_at}
use Rattle.rules.specs.Scan.{Part, then_part, loop_body, Open, pushes, shape_of, open_after_lem, regions, open_at, body_region, end_of, else_of, has_else}
use Rattle.rules.specs.Value.{past, takes, base, value}
use Rattle.rules.specs.Line.{Line, do_line, test_line, line_at}
use Rattle.rules.specs.Harden.{line_count, line_of, test_of, row_lines, harden}
use Rattle.rules.specs.Variables.{variable, done_on, holds_on, overflows}
use Rattle.rules.specs.State.{Frame}
use Rattle.rules.specs.Run.{on, ends, outcome_of_lem}
use Rattle.rules.specs.Source.{false_row, row_step, source_step}
use Rattle.rules.specs.Form.{Form, turn_by, line_step_of, step_of}
use Rattle.rules.proofs.Accepted.{Proper}
use Rattle.rules.proofs.Scan.{Chain, chain, open_next}
use Rattle.rules.proofs.Value.{fresh-value}
use Rattle.rules.proofs.Close.{end_is, closed_is, else_is}
use Rattle.rules.proofs.Harden.{line-suc}
use Rattle.rules.proofs.Function.{InFunction, move-to}
use Rattle.rules.proofs.Words.{word-base, word_at}
use Rattle.rules.proofs.Parts.{body_below}
use Rattle.rules.proofs.Form.Settles.{Settles}
use Rattle.rules.proofs.Form.Relation.{Back, line_backs, src, hard, here, Linked, ticking, Arrives, SharedEnd, early, Both, both_on, both_end, source-step, line_step, ready-after}

test-line : {H : Type 0} (F : Form H) (ls : List Line) (n k : ℕ) (c : H) (rest : List (Frame H)) (l : H) (vs tr : List ℕ) (o : Operands) (r s t e a b d go : ℕ) → (F.guard k (test_line o r s t e a b d go)).passes c l ≡ true
    → (y : Bool) → holds_on o vs ≡ y → line_step_of F ls k (test_line o r s t e a b d go) (hard n k c rest l vs tr)
    ≡ cond y (on (hard n (suc k) ((F.guard k (test_line o r s t e a b d go)).moves true c) rest l vs tr)) (on (hard n go ((F.guard k (test_line o r s t e a b d go)).moves false c) rest l vs tr))
unfolding turn_by
test-line F ls n k c rest l vs tr o r s t e a b d go h y z = rw (h, z)

overflow-early : {d : ℕ} (i v : ℕ) → SharedEnd d (Overflow i v)
unfolding outcome_of_lem
overflow-early i v = early (omega arith) (omega arith) (omega arith)

module _ (t : Table) (ok : Proper t) {H : Type 0} {F : Form H} (S : Settles t F) (n i : ℕ) (f : Open) (fs : List Open) (m : InFunction t n i f fs) (rest : List Back) (lk : Linked t n rest) (l : H) (vs tr : List ℕ) where
  abbrev Step : ℕ → Type 0
  Step d = Both S d (src n i rest vs tr) (step_of F (harden t) (here S n i f fs rest l vs tr))

  -- what the variable of a do holds
  abbrev held : ℕ
  held = variable vs (operands_at t i).p

  pub step-do : kind_at t i ≡ Do → Step (length rest + 1)
  unfolding row_step turn_by row_lines
  step-do e = by (overflows (operands_at t i) vs) refl
    where
      row_is : (y : Bool) → overflows (operands_at t i) vs ≡ y
          → source_step t (src n i rest vs tr) ≡ cond y (ends (Overflow i held) (src n i rest vs tr)) (on (src n (suc i) rest (done_on (operands_at t i) vs) (tr ++ (i ∷ []))))
      row_is true q = source-step t n i rest vs tr e m.open_is ∙ rw q
      row_is false q = source-step t n i rest vs tr e m.open_is ∙ rw q

      line_is : (y : Bool) → overflows (operands_at t i) vs ≡ y
          → step_of F (harden t) (here S n i f fs rest l vs tr) ≡ cond y (ends (Overflow i held) (here S n i f fs rest l vs tr)) (on (hard n (suc (line_of t i)) (S.at (line_of t i) (f ∷ fs) (value t f.region i)) (line_backs S rest) l (done_on (operands_at t i) vs) (tr ++ (i ∷ []))))
      line_is true q = line_step t ok S m (line_of t i) 0 (do_line (operands_at t i) i) (omega arith) (rw e (omega arith)) (rw e) _ _ l vs tr ∙ rw q
      line_is false q = line_step t ok S m (line_of t i) 0 (do_line (operands_at t i) i) (omega arith) (rw e (omega arith)) (rw e) _ _ l vs tr ∙ rw q

      by : (y : Bool) → overflows (operands_at t i) vs ≡ y → Step (length rest + 1)
      by true q = both_end (Overflow i held) _ _ (row_is true q) (line_is true q)
          (record { n = n; i = i; k = line_of t i; l = l; rest = rest; c = S.at (line_of t i) (f ∷ fs) (value t f.region i); vs = vs; tr = tr; s_is = refl; h_is = refl }) (overflow-early i held)
      by false q = both_on _ _ (row_is false q) (line_is false q)
          (record {
            related = record {
              n = n;
              i = i;
              j = suc i;
              k = suc (line_of t i);
              w = value t f.region i;
              l = l;
              rest = rest;
              vs = done_on (operands_at t i) vs;
              tr = tr ++ (i ∷ []);
              f = f;
              fs = fs;
              s_is = refl;
              h_is = ap (λ x. hard n (suc (line_of t i)) x (line_backs S rest) l (done_on (operands_at t i) vs) (tr ++ (i ∷ []))) (S.over_do m e (value t f.region i));
              in_function = m;
              linked = lk;
              mode = ticking e refl refl refl;
              owes = refl;
            };
            after_do = λ q. refl;
          })

  above : Chain (regions t i) (f ∷ fs)
  above = subst (Chain (regions t i)) m.open_is (chain t i)

  -- what the function keeps once the test has gone this way: t, c and go of its line are given
  abbrev tested : (way : Bool) (u c go : ℕ) → H
  tested y u c go = (F.guard (line_of t i) (test_line (operands_at t i) (f.region - body_region (f ∷ fs)) (regions t i - body_region (f ∷ fs)) u (value t f.region i) (value t f.region i + 1) (base t (regions t i)) c go)
      ).moves y (S.at (line_of t i) (f ∷ fs) (value t f.region i))

  -- true: a part opens at the next row
  test_true : (k : Kind) (p : Part) → kind_at t i ≡ k → shape_of k ≡ pushes p → line_count k ≡ 1 → (u c go : ℕ)
      → Arrives S (length rest) i (src n (suc i) rest vs tr) (hard n (suc (line_of t i)) (tested true u c go) (line_backs S rest) l vs tr)
  unfolding above
  test_true k p e sh one u c go =
      let q : open_at t (suc i) ≡ record { part = p; opener = i; region = regions t i } ∷ f ∷ fs = open_next t i e m.open_is ∙ ap (λ x. open_after_lem x i (regions t i) (f ∷ fs)) sh in
      ready-after S i (move-to t ok m (suc i) m.within q refl) rest lk (omega (arith, line-suc t i e)) (sym (fresh-value t i)) l vs tr _
      (S.test_true (line_of t i) f (record { part = p; opener = i; region = regions t i }) fs _ _ _ _ _ _ _ (body_below t m) (omega (arith, above.0, body_below t m)) refl
      (omega (arith, word_at t ok m)) (omega (arith, word_at t ok m)) (word-base t ok i (omega (arith, m.within))))

  -- false: past the end of what this row opens
  test_past : (k : Kind) (p : Part) → kind_at t i ≡ k → shape_of k ≡ pushes p → takes k f.part ≡ past
      → Arrives S (length rest) i (src n (suc (end_of t i)) rest vs tr) (hard n (line_of t (suc (end_of t i))) (tested false (f.region - body_region (f ∷ fs)) (value t f.region i + past) (line_of t (suc (end_of t i)))) (line_backs S rest) l vs tr)
  test_past k p e sh tp =
      let en = end_is t i p ok m.within (ap shape_of e ∙ sh) in
      let cl = closed_is t i (end_of t i) en.ends in
      let v : value t f.region (suc (end_of t i)) ≡ value t f.region i + past
      = cl.moved_on f fs m.open_is ∙ ap (λ x. value t f.region i + takes x f.part) e ∙ ap (λ x. value t f.region i + x) tp in
      ready-after S i (move-to t ok m (suc (end_of t i)) en.inside (cl.open_after ∙ m.open_is) refl) rest lk refl (sym v) l vs tr _
      (S.test_past (line_of t i) f fs _ _ _ _ _ _ _ (body_below t m) (omega (arith, word_at t ok m)) (omega (arith, word_at t ok m)))

  -- false: to the else part
  test_else : has_else t i ≡ true
      → Arrives S (length rest) i (src n (suc (else_of t i)) rest vs tr)
      (hard n (line_of t (suc (else_of t i))) (tested false (regions t (else_of t i) - body_region (f ∷ fs)) (base t (regions t (else_of t i))) (line_of t (suc (else_of t i)))) (line_backs S rest) l vs tr)
  test_else x =
      let tu = else_is t i m.within x in
      let lt = ltb-true (else_of t i) (length t) x in
      let q : open_at t (suc (else_of t i)) ≡ record { part = tu.part; opener = i; region = regions t (else_of t i) } ∷ f ∷ fs
      = tu.open_after ∙ ap (λ y. record { part = tu.part; opener = i; region = regions t (else_of t i) } ∷ y) m.open_is in
      let ch = subst (Chain (regions t (suc (else_of t i)))) q (chain t (suc (else_of t i))) in
      ready-after S i (move-to t ok m (suc (else_of t i)) lt q refl) rest lk refl (sym (fresh-value t (else_of t i))) l vs tr _
      (S.test_else (line_of t i) f (record { part = tu.part; opener = i; region = regions t (else_of t i) }) fs _ _ _ _ _ _ _ (body_below t m) (omega (arith, ch.1.0, body_below t m)) refl (λ e. omega (arith, ch.1.0))
      (omega (arith, word_at t ok m)) (omega (arith, word_at t ok m)) (word-base t ok (else_of t i) (omega arith)))

  at_test : (k : Kind) (b : Bool) → kind_at t i ≡ k → line_count k ≡ 1 → line_at (row_lines t i (f ∷ fs) k) 0 ≡ test_of t i (f ∷ fs) b
      → step_of F (harden t) (here S n i f fs rest l vs tr) ≡ line_step_of F (harden t) (line_of t i) (test_of t i (f ∷ fs) b) (here S n i f fs rest l vs tr)
  at_test k b e one q = line_step t ok S m (line_of t i) 0 (test_of t i (f ∷ fs) b) (omega arith) (rw e (omega arith)) (ap (λ x. line_at (row_lines t i (f ∷ fs) x) 0) e ∙ q) _ _ l vs tr

  pub step-if : kind_at t i ≡ If → Step (length rest)
  unfolding row_step row_lines test_of false_row
  step-if e = by (has_else t i) refl (holds_on (operands_at t i) vs) refl
    where
      row_is : (y : Bool) → holds_on (operands_at t i) vs ≡ y → source_step t (src n i rest vs tr) ≡ on (src n (cond y (suc i) (false_row t i)) rest vs tr)
      row_is y ey = source-step t n i rest vs tr e m.open_is ∙ ap (λ y. on (src n (cond y (suc i) (false_row t i)) rest vs tr)) ey

      line_is : (x y : Bool) → has_else t i ≡ x → holds_on (operands_at t i) vs ≡ y
          → step_of F (harden t) (here S n i f fs rest l vs tr) ≡ line_step_of F (harden t) (line_of t i) (test_of t i (f ∷ fs) x) (here S n i f fs rest l vs tr)
      line_is x y ex ey = at_test If x e refl (ap (test_of t i (f ∷ fs)) ex)

      by : (x : Bool) → has_else t i ≡ x → (y : Bool) → holds_on (operands_at t i) vs ≡ y → Step (length rest)
      by true ex true ey = both_on _ _ (row_is true ey)
          (line_is true true ex ey ∙ test-line F (harden t) n _ _ _ l vs tr _ _ _ _ _ _ _ _ _ (S.test_passes _ f fs _ _ _ _ _ _ _ _ _ (body_below t m)) true ey)
          (test_true If then_part e refl refl _ _ _)
      by true ex false ey = both_on _ _ (row_is false ey ∙ ap (λ x. on (src n (cond x (suc (else_of t i)) (suc (end_of t i))) rest vs tr)) ex)
          (line_is true false ex ey ∙ test-line F (harden t) n _ _ _ l vs tr _ _ _ _ _ _ _ _ _ (S.test_passes _ f fs _ _ _ _ _ _ _ _ _ (body_below t m)) false ey)
          (test_else ex)
      by false ex true ey = both_on _ _ (row_is true ey)
          (line_is false true ex ey ∙ test-line F (harden t) n _ _ _ l vs tr _ _ _ _ _ _ _ _ _ (S.test_passes _ f fs _ _ _ _ _ _ _ _ _ (body_below t m)) true ey)
          (test_true If then_part e refl refl _ _ _)
      by false ex false ey = both_on _ _ (row_is false ey ∙ ap (λ x. on (src n (cond x (suc (else_of t i)) (suc (end_of t i))) rest vs tr)) ex)
          (line_is false false ex ey ∙ test-line F (harden t) n _ _ _ l vs tr _ _ _ _ _ _ _ _ _ (S.test_passes _ f fs _ _ _ _ _ _ _ _ _ (body_below t m)) false ey)
          (test_past If then_part e refl refl)

  pub step_loop : kind_at t i ≡ Loop → Step (length rest)
  unfolding row_step row_lines test_of
  step_loop e = by (holds_on (operands_at t i) vs) refl
    where
      by : (y : Bool) → holds_on (operands_at t i) vs ≡ y → Step (length rest)
      by true ey = both_on _ _ (source-step t n i rest vs tr e m.open_is ∙ ap (λ y. on (src n (cond y (suc i) (suc (end_of t i))) rest vs tr)) ey)
          (at_test Loop false e refl refl ∙ test-line F (harden t) n _ _ _ l vs tr _ _ _ _ _ _ _ _ _ (S.test_passes _ f fs _ _ _ _ _ _ _ _ _ (body_below t m)) true ey)
          (test_true Loop loop_body e refl refl _ _ _)
      by false ey = both_on _ _ (source-step t n i rest vs tr e m.open_is ∙ ap (λ y. on (src n (cond y (suc i) (suc (end_of t i))) rest vs tr)) ey)
          (at_test Loop false e refl refl ∙ test-line F (harden t) n _ _ _ l vs tr _ _ _ _ _ _ _ _ _ (S.test_passes _ f fs _ _ _ _ _ _ _ _ _ (body_below t m)) false ey)
          (test_past Loop loop_body e refl refl)
