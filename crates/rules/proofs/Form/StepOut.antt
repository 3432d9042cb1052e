-- The two runs side by side at a break and a continue. Assumes that the table is accepted.
use mathlib.Core.Logic.{◌⊎◌, inl, inr}
use mathlib.Core.Path.{◌≡◌, refl, sym, ap, ◌∙◌, subst}
use mathlib.Core.Bool.{Bool, true, false, cond}
use mathlib.Core.List.{List, [], ◌∷◌}
use Prim.Native.Nat.{ℕ, suc, ◌+◌, ◌-◌, ◌≤◌}
use native.Mathlib.Omega.{arith}
use lib.ListN.{length}
use Rattle.rules.specs.declared.kind.Kind.{Kind}
use Rattle.rules.specs.declared.kind.Kind.TheVariants.{Break, Continue}
use Rattle.rules.specs.Row.{Table, kind_at}
use Rattle.rules.specs.Scan.{Open, regions, open_at, part_of, opener_of, region_of, around, body_region, is_loop_body, from_loop, end_of}
use Rattle.rules.specs.Check.{is_outside, misplaced_in}
use Rattle.rules.specs.Value.{past, takes, value}
use Rattle.rules.specs.Line.{Line, out_line, line_at}
use Rattle.rules.specs.Harden.{line_count, line_of, own_region, opener_value, row_lines, harden}
use Rattle.rules.specs.State.{Frame}
use Rattle.rules.specs.Run.{on}
use Rattle.rules.specs.Source.{to_row, row_step}
use Rattle.rules.specs.Form.{Form, turn_by, line_step_of, step_of}
use Rattle.rules.proofs.Logic.{clash}
use Rattle.rules.proofs.Accepted.{Proper}
use Rattle.rules.proofs.Scan.{Chain, chain, body-least, origin}
use Rattle.rules.proofs.Value.{AllHeld, held}
use Rattle.rules.proofs.Close.{end_is, closed_is}
use Rattle.rules.proofs.Function.{held-takes, Formed, home, InFunction, move-to, formed-here, placed-in}
use Rattle.rules.proofs.Words.{word_of, region-in}
use Rattle.rules.proofs.Form.Settles.{Settles}
use Rattle.rules.proofs.Parts.{loop-in, body_below}
use Rattle.rules.proofs.Form.Relation.{Back, src, hard, here, Linked, Both, both_on, source-step, line_step, ready-after}

out_line_step : {H : Type 0} (F : Form H) (ls : List Line) (n k : ℕ) (c : H) (rest : List (Frame H)) (l : H) (vs tr : List ℕ) (r s t e a go : ℕ) → (F.guard k (out_line r s t e a go)).passes c l ≡ true
    → line_step_of F ls k (out_line r s t e a go) (hard n k c rest l vs tr) ≡ on (hard n go ((F.guard k (out_line r s t e a go)).moves true c) rest l vs tr)
unfolding turn_by
out_line_step F ls n k c rest l vs tr r s t e a go h = rw h

-- ---- the parts from the innermost loop body on keep what is known of all
pub record Stack (t : Table) (j z o : ℕ) (fs : List Open) : Type 0 where
  pub all_held : AllHeld t j fs
  pub well_formed : Formed t fs
  pub same_body : body_region fs ≡ z
  pub same_home : home fs ≡ o

stack-under : (t : Table) (j z o : ℕ) (f h : Open) (hs : List Open) → Stack t j z o (f ∷ h ∷ hs) → Stack t j z o (h ∷ hs)
stack-under t j z o f h hs p =
    record { all_held = p.all_held.1; well_formed = p.well_formed.1; same_body = p.same_body; same_home = p.same_home }

pub loop-stack : (t : Table) (j z o : ℕ) (fs : List Open) (l : Open) (gs : List Open) → Stack t j z o fs → from_loop fs ≡ l ∷ gs → Stack t j z o (l ∷ gs) × (is_loop_body l.part ≡ true)
loop-stack t j z o [] l gs p e = clash {b = true} refl cc
loop-stack t j z o (f ∷ []) l gs p e = by (is_loop_body f.part) refl e
  where
    by : (d : Bool) → is_loop_body f.part ≡ d → cond d (f ∷ []) [] ≡ l ∷ gs → Stack t j z o (l ∷ gs) × (is_loop_body l.part ≡ true)
    by true b q = (subst (Stack t j z o) q p, ap (λ x. is_loop_body (part_of x)) (sym q) ∙ b)
    by false b q = clash {b = true} refl cc
loop-stack t j z o (f ∷ h ∷ hs) l gs p e = by (is_loop_body f.part) refl e (λ q. loop-stack t j z o (h ∷ hs) l gs (stack-under t j z o f h hs p) q)
  where
    by : (d : Bool) → is_loop_body f.part ≡ d → cond d (f ∷ h ∷ hs) (from_loop (h ∷ hs)) ≡ l ∷ gs
        → (from_loop (h ∷ hs) ≡ l ∷ gs → Stack t j z o (l ∷ gs) × (is_loop_body l.part ≡ true)) → Stack t j z o (l ∷ gs) × (is_loop_body l.part ≡ true)
    by true b q ih = (subst (Stack t j z o) q p, ap (λ x. is_loop_body (part_of x)) (sym q) ∙ b)
    by false b q ih = ih q

pub whole-stack : (t : Table) → Proper t → {n i : ℕ} {f : Open} {fs : List Open} → InFunction t n i f fs → Stack t i (body_region (f ∷ fs)) (home (f ∷ fs)) (f ∷ fs)
whole-stack t ok {n} {i} m =
    record { all_held = subst (AllHeld t i) m.open_is (held t i); well_formed = formed-here t ok m; same_body = refl; same_home = refl }

module _ (t : Table) (ok : Proper t) {H : Type 0} {F : Form H} (S : Settles t F) (n i : ℕ) (f : Open) (fs : List Open) (m : InFunction t n i f fs) (rest : List Back) (lk : Linked t n rest) (l : H) (vs tr : List ℕ) where
  abbrev Step : Type 0
  Step = Both S (length rest) (src n i rest vs tr) (step_of F (harden t) (here S n i f fs rest l vs tr))

  -- row i leaves the loop body lf for row j, where the region around the loop has value a
  out-to : (k : Kind) → ((kind_at t i ≡ Break) ⊎ (kind_at t i ≡ Continue)) → (lf h : Open) (hs : List Open) (j a : ℕ) → kind_at t i ≡ k → from_loop (f ∷ fs) ≡ lf ∷ h ∷ hs → Stack t i (body_region (f ∷ fs)) (home (f ∷ fs)) (lf ∷ h ∷ hs)
      → j ≤ length t → open_at t j ≡ h ∷ hs → a ≡ value t h.region j → line_count k ≡ 1
      → line_at (row_lines t i (f ∷ fs) k) 0 ≡ out_line (own_region (f ∷ fs)) (h.region - body_region (f ∷ fs)) (lf.region - body_region (f ∷ fs)) (value t f.region i) a (line_of t j)
      → row_step t i (f ∷ fs) k (src n i rest vs tr) ≡ on (src n j rest vs tr) → Step
  out-to k out lf h hs j a e fl p jl q av one ln sr =
      let ch : Chain (suc f.region) (f ∷ fs) = (omega arith, (subst (Chain (regions t i)) m.open_is (chain t i)).1) in
      let il = loop-in (f ∷ fs) (suc f.region) lf (h ∷ hs) fl ch in
      let zh : body_region (f ∷ fs) ≤ h.region = rw p.same_body at (body-least lf.region h hs il.rest) in
      both_on _ _ (source-step t n i rest vs tr e m.open_is ∙ sr)
      (line_step t ok S m (line_of t i) 0 _ (omega arith) (rw e (omega arith)) (ap (λ x. line_at (row_lines t i (f ∷ fs) x) 0) e ∙ ln) _ _ l vs tr
      ∙ out_line_step F (harden t) n _ _ _ l vs tr _ _ _ _ _ _ (S.out_passes m out _ _ _ _ _ (body_below t m)))
      (ready-after S i (move-to t ok m j jl q p.same_home) rest lk refl av l vs tr _
      (S.out_moves m out lf h hs a _ fl ch zh p.same_body
      (omega (arith, av, word_of t ok h.region j (omega (arith, il.low, il.rest.0, region-in t m)) jl))))

  -- a break or a continue stands in a loop, and the loop stands in a function
  in-loop : (gs : List Open) → from_loop (f ∷ fs) ≡ gs → is_outside gs ≡ false
      → ((lf h : Open) (hs : List Open) → from_loop (f ∷ fs) ≡ lf ∷ h ∷ hs → Stack t i (body_region (f ∷ fs)) (home (f ∷ fs)) (lf ∷ h ∷ hs) → Step) → Step
  in-loop [] q x go = clash refl x
  in-loop (lf ∷ []) q x go =
      let p = loop-stack t i _ _ (f ∷ fs) lf [] (whole-stack t ok m) q in
      clash p.1 (ap is_loop_body p.0.well_formed.0)
  in-loop (lf ∷ h ∷ hs) q x go = go lf h hs q (loop-stack t i _ _ (f ∷ fs) lf (h ∷ hs) (whole-stack t ok m) q).0

  pub step-break : kind_at t i ≡ Break → Step
  unfolding row_step row_lines misplaced_in
  step-break e = in-loop (from_loop (f ∷ fs)) refl (placed-in t ok i m.within e m.open_is) (λ lf h hs q p. by lf h hs q p)
    where
      by : (lf h : Open) (hs : List Open) → from_loop (f ∷ fs) ≡ lf ∷ h ∷ hs → Stack t i (body_region (f ∷ fs)) (home (f ∷ fs)) (lf ∷ h ∷ hs) → Step
      by lf h hs q p =
          let hd = p.all_held.0 in
          let en = end_is t lf.opener (origin lf.part) ok (omega (arith, hd.before, m.within)) hd.by in
          let cl = closed_is t lf.opener (end_of t lf.opener) en.ends in
          let tp : takes (kind_at t lf.opener) h.part ≡ past = held-takes t i lf (h ∷ hs) h.part hd p.well_formed.0 in
          out-to Break (inl e) lf h hs (suc (end_of t lf.opener)) (value t h.region lf.opener + past) e q p en.inside (cl.open_after ∙ hd.outer)
          (sym (cl.moved_on h hs hd.outer ∙ ap (λ x. value t h.region lf.opener + x) tp)) refl
          (ap (λ y. out_line (own_region (f ∷ fs)) (region_of (around y) - body_region (f ∷ fs)) (region_of y - body_region (f ∷ fs)) (value t f.region i) (opener_value t y + past) (line_of t (suc (end_of t (opener_of y))))) q)
          (ap (λ y. on (to_row (suc (end_of t (opener_of y))) (src n i rest vs tr))) q)

  pub step-continue : kind_at t i ≡ Continue → Step
  unfolding row_step row_lines misplaced_in
  step-continue e = in-loop (from_loop (f ∷ fs)) refl (placed-in t ok i m.within e m.open_is) (λ lf h hs q p. by lf h hs q p)
    where
      by : (lf h : Open) (hs : List Open) → from_loop (f ∷ fs) ≡ lf ∷ h ∷ hs → Stack t i (body_region (f ∷ fs)) (home (f ∷ fs)) (lf ∷ h ∷ hs) → Step
      by lf h hs q p =
          let hd = p.all_held.0 in
          out-to Continue (inr e) lf h hs lf.opener (value t h.region lf.opener + 0) e q p (omega (arith, hd.before, m.within)) hd.outer (omega arith) refl
          (ap (λ y. out_line (own_region (f ∷ fs)) (region_of (around y) - body_region (f ∷ fs)) (region_of y - body_region (f ∷ fs)) (value t f.region i) (opener_value t y + 0) (line_of t (opener_of y))) q)
          (ap (λ y. on (to_row (opener_of y) (src n i rest vs tr))) q)
