-- The two runs side by side where a part closes: an else, and the end of an if or a loop. Assumes that the table is accepted.
use mathlib.Core.Path.{◌≡◌, refl, sym, ap, ◌∙◌, subst}
use mathlib.Core.Bool.{true, false}
use mathlib.Core.List.{List, ◌∷◌}
use Prim.Native.Nat.{ℕ, suc, ◌+◌, ◌-◌, ◌≤◌}
use native.Mathlib.Omega.{arith}
use lib.ListN.{length}
use Rattle.rules.specs.declared.kind.Kind.{Kind}
use Rattle.rules.specs.declared.kind.Kind.TheVariants.{Else, End}
use Rattle.rules.specs.Row.{Table, kind_at}
use Rattle.rules.specs.Scan.{Part, body, then_part, else_part, loop_body, Open, regions, open_at, body_region, end_of}
use Rattle.rules.specs.Value.{past, takes, value}
use Rattle.rules.specs.Line.{Line, leave_line, line_at}
use Rattle.rules.specs.Harden.{line_count, line_of, end_line, row_lines, harden}
use Rattle.rules.specs.State.{Frame}
use Rattle.rules.specs.Run.{on}
use Rattle.rules.specs.Source.{end_row_lem, row_step}
use Rattle.rules.specs.Form.{Form, turn_by, line_step_of, step_of}
use Rattle.rules.proofs.Logic.{clash}
use Rattle.rules.proofs.Accepted.{Proper}
use Rattle.rules.proofs.Scan.{Chain, chain, body-least, origin, open_next}
use Rattle.rules.proofs.Value.{AllHeld, held, Held, moved-after, moved_value}
use Rattle.rules.proofs.Close.{end_is, closed_is}
use Rattle.rules.proofs.Function.{is_body_lem, part-takes, InFunction, move-to}
use Rattle.rules.proofs.Words.{word_of, region-in}
use Rattle.rules.proofs.Form.Settles.{Settles}
use Rattle.rules.proofs.Parts.{holding}
use Rattle.rules.proofs.Form.Relation.{Back, src, hard, here, Linked, Both, both_on, source-step, line_step, ready-after}

leave-line : {H : Type 0} (F : Form H) (ls : List Line) (n k : ℕ) (c : H) (rest : List (Frame H)) (l : H) (vs tr : List ℕ) (r s e a b go : ℕ) → (F.guard k (leave_line r s e a b go)).passes c l ≡ true
    → line_step_of F ls k (leave_line r s e a b go) (hard n k c rest l vs tr) ≡ on (hard n go ((F.guard k (leave_line r s e a b go)).moves true c) rest l vs tr)
unfolding turn_by
leave-line F ls n k c rest l vs tr r s e a b go h = rw h

module _ (t : Table) (ok : Proper t) {H : Type 0} {F : Form H} (S : Settles t F) (n i : ℕ) (f h : Open) (hs : List Open) (m : InFunction t n i f (h ∷ hs)) (rest : List Back) (lk : Linked t n rest) (l : H) (vs tr : List ℕ) where
  abbrev Step : Type 0
  Step = Both S (length rest) (src n i rest vs tr) (step_of F (harden t) (here S n i f (h ∷ hs) rest l vs tr))

  part : Held t i f (h ∷ hs)
  part = (subst (AllHeld t i) m.open_is (held t i)).0

  lower : Chain f.region (h ∷ hs)
  lower = (subst (Chain (regions t i)) m.open_is (chain t i)).1

  -- the region around, past the whole construct
  past_value : (j : ℕ) → value t h.region j ≡ value t h.region f.opener + takes (kind_at t f.opener) h.part → value t h.region f.opener + past ≡ value t h.region j
  past_value j v = sym (v ∙ ap (λ x. value t h.region f.opener + x) (part-takes t ok i f h hs h.part m.within m.open_is))

  -- row i leaves its part for row j, where the region around has value a
  leave-to : (k : Kind) (j a : ℕ) → kind_at t i ≡ k → j ≤ length t → open_at t j ≡ h ∷ hs → a ≡ value t h.region j → line_count k ≡ 1
      → line_at (row_lines t i (f ∷ h ∷ hs) k) 0 ≡ leave_line (f.region - body_region (h ∷ hs)) (h.region - body_region (h ∷ hs)) (value t f.region i) a (holding t f (h ∷ hs)) (line_of t j)
      → row_step t i (f ∷ h ∷ hs) k (src n i rest vs tr) ≡ on (src n j rest vs tr) → Step
  unfolding lower part
  leave-to k j a e jl q av one ln sr =
      let zh : body_region (h ∷ hs) ≤ h.region = body-least f.region h hs lower in
      let h-in : h.region ≤ length t = omega (arith, lower.0, region-in t m) in
      both_on _ _ (source-step t n i rest vs tr e m.open_is ∙ sr)
      (line_step t ok S m (line_of t i) 0 _ (omega arith) (rw e (omega arith)) (ap (λ x. line_at (row_lines t i (f ∷ h ∷ hs) x) 0) e ∙ ln) _ _ l vs tr
      ∙ leave-line F (harden t) n _ _ _ l vs tr _ _ _ _ _ _ (S.leave_passes _ f h hs _ _ _ _ zh lower))
      (ready-after S i (move-to t ok m j jl q refl) rest lk refl av l vs tr _ (S.leave_moves _ f h hs _ a _ zh lower
      (omega (arith, word_of t ok h.region f.opener h-in (omega (arith, part.before, m.within)))) (omega (arith, av, word_of t ok h.region j h-in jl))))

  pub step-else : kind_at t i ≡ Else → Step
  unfolding row_step row_lines part
  step-else e =
      let en = end_is t f.opener (origin f.part) ok (omega (arith, part.before, m.within)) part.by in
      let cl = closed_is t f.opener (end_of t f.opener) en.ends in
      leave-to Else (suc (end_of t f.opener)) (value t h.region f.opener + past) e en.inside (cl.open_after ∙ part.outer)
      (past_value (suc (end_of t f.opener)) (cl.moved_on h hs part.outer)) refl refl refl

  -- the end of an if: on to the next row
  end-if : kind_at t i ≡ End → line_at (row_lines t i (f ∷ h ∷ hs) End) 0 ≡ end_line t i (f ∷ h ∷ hs) then_part
      → row_step t i (f ∷ h ∷ hs) End (src n i rest vs tr) ≡ on (src n (suc i) rest vs tr) → Step
  end-if e ln sr = leave-to End (suc i) (value t h.region f.opener + past) e m.within (open_next t i e m.open_is)
      (past_value (suc i) (moved_value t (suc i) f.opener f h hs refl (moved-after t i f (h ∷ hs) m.open_is))) refl ln sr

  pub step_end : (p : Part) → f.part ≡ p → is_body_lem p ≡ false → kind_at t i ≡ End → Step
  unfolding row_step row_lines part
  step_end body q x e = clash refl x
  step_end then_part q x e = end-if e (ap (end_line t i (f ∷ h ∷ hs)) q) (ap (λ y. end_row_lem i (f ∷ h ∷ hs) y (src n i rest vs tr)) q)
  step_end else_part q x e = end-if e (ap (end_line t i (f ∷ h ∷ hs)) q) (ap (λ y. end_row_lem i (f ∷ h ∷ hs) y (src n i rest vs tr)) q)
  step_end loop_body q x e = leave-to End f.opener (value t h.region f.opener + 0) e (omega (arith, part.before, m.within)) part.outer (omega arith) refl
      (ap (end_line t i (f ∷ h ∷ hs)) q) (ap (λ y. end_row_lem i (f ∷ h ∷ hs) y (src n i rest vs tr)) q)
