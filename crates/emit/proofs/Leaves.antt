-- The lines of else, end, break and continue rows, from what the code reads of the row. Assumes nothing.
use mathlib.Core.Path.{◌≡◌, refl, sym, ap, ◌∙◌}
use mathlib.Core.Bool.{Bool, true, false}
use mathlib.Core.List.{List, [], ◌∷◌}
use Prim.Native.Nat.{ℕ, suc, ◌+◌, ◌-◌, ◌<◌}
use native.Mathlib.Nat.{add-zero}
use native.Mathlib.Omega.{arith}
use lib.ListN.{length}
use Rattle.rules.specs.declared.kind.Kind.TheVariants.{Else, End, Break, Continue}
use Rattle.rules.specs.Row.{Table, table_of, kind_at}
use Rattle.rules.specs.Scan.{Part, body, then_part, else_part, loop_body, Open, open_at, regions, part_of, opener_of, region_of, body_region, around, is_loop_body, from_loop, local, end_of}
use Rattle.rules.specs.Value.{value}
use Rattle.rules.specs.Check.{is_outside}
use Rattle.rules.specs.Line.{leave_line, out_line, ret_line}
use Rattle.rules.specs.Harden.{line_of, opener_value, leave_of, out_of, end_line, row_lines}
use Rattle.rules.proofs.Logic.{clash}
use Rattle.rules.proofs.Scan.{chain}
use Rattle.rules.proofs.Accepted.{proper, table-length}
use Rattle.rules.proofs.Function.{formed, is_body_lem, placed-in}
use Rattle.layout.specs.declared.scope.Scope.{Scope}
use Rattle.layout.specs.declared.spot.Spot.{Spot}
use Rattle.layout.specs.Scope.{Surveyed}
use Rattle.layout.specs.Number.{value_of}
use Rattle.layout.specs.Spot.{Inside, InLoop, SpotIs, child_of_lem, in_body, is_loop_lem, OpenerIs, LoopIs}
use Rattle.layout.proofs.Around.{outer, same_body, from-loop}
use Rattle.layout.proofs.Parts.{then-within, body-part, not_body, part-not-body, part-loop}
use Rattle.line.specs.declared.Line as Declared
use Rattle.line.specs.Line.{struct}
use Rattle.emit.specs.Emit.{row_line}
use Rattle.emit.proofs.RowLines.{line-of}

same-leave : {r s e a b g r' s' e' a' b' g' : ℕ} → r ≡ r' → s ≡ s' → e ≡ e' → a ≡ a' → b ≡ b' → g ≡ g'
    → struct (leave_line r s e a b g) ≡ struct (leave_line r' s' e' a' b' g')
same-leave r= s= e= a= b= g= = rw (r=, s=, e=, a=, b=, g=)

same_out : {r s t e a g r' s' t' e' a' g' : ℕ} → r ≡ r' → s ≡ s' → t ≡ t' → e ≡ e' → a ≡ a' → g ≡ g'
    → struct (out_line r s t e a g) ≡ struct (out_line r' s' t' e' a' g')
same_out r= s= t= e= a= g= = rw (r=, s=, t=, e=, a=, g=)

-- ---- the part that row i stands in lies in another, and row o opened it
record Within (bs : List ℕ) (i o : ℕ) : Type 0 where
  pub open_is : open_at (table_of bs) o ≡ around (open_at (table_of bs) i)
  pub some : is_outside (open_at (table_of bs) o) ≡ false
  pub body_is : body_region (open_at (table_of bs) o) ≡ body_region (open_at (table_of bs) i)

within : {bs : List ℕ} {i o : ℕ} → Inside bs i → OpenerIs bs i o → is_outside (around (open_at (table_of bs) i)) ≡ false → Within bs i o
within {bs} {i} {o} n p e =
    let a : open_at (table_of bs) o ≡ around (open_at (table_of bs) i) = ap (open_at (table_of bs)) p.is ∙ outer (table_of bs) i n.within in
    record { open_is = a; some = ap is_outside a ∙ e; body_is = ap body_region a ∙ by (open_at (table_of bs) i) e }
  where
    by : (fs : List Open) → is_outside (around fs) ≡ false → body_region (around fs) ≡ body_region fs
    by [] c = refl
    by (f ∷ fs) c = same_body f fs c

module _ {bs : List ℕ} {i o : ℕ} {u : Spot} (s : SpotIs bs o u) (w : Within bs i o) where
  around-r : u.r ≡ local (open_at (table_of bs) i) (region_of (around (open_at (table_of bs) i)))
  around-r =
      s.r_is ∙ ap (λ x. region_of (open_at (table_of bs) o) - x) w.body_is
      ∙ ap (λ x. region_of x - body_region (open_at (table_of bs) i)) w.open_is

  around-e : o ≡ opener_of (open_at (table_of bs) i) → u.e ≡ opener_value (table_of bs) (open_at (table_of bs) i)
  unfolding value_of
  around-e q =
      s.e_is ∙ ap (λ x. value (table_of bs) (region_of x) o) w.open_is
      ∙ ap (λ x. value (table_of bs) (region_of (around (open_at (table_of bs) i))) x) q

-- the leave of row i, whose opener is row o: the offset d and the line g that it goes to are left open
leave-is : {bs : List ℕ} {i o a g : ℕ} {h u : Spot} (d : ℕ) → Within bs i o → OpenerIs bs i o → SpotIs bs i h → SpotIs bs o u → a ≡ u.e + d
    → struct (leave_line h.r u.r h.e a (u.e + 1) g) ≡ struct (leave_of (table_of bs) i (open_at (table_of bs) i) d g)
unfolding value_of
leave-is d w p h u q =
    let e = around-e u w p.is in
    same-leave h.r_is (around-r u w) h.e_is (q ∙ ap (λ x. x + d) e) (ap (λ x. x + 1) e) refl

-- ---- else rows
module _ {bs : List ℕ} {m : List Scope} {i o : ℕ} (s : Surveyed bs m) (n : Inside bs i) (e : kind_at (table_of bs) i ≡ Else) (p : OpenerIs bs i o) where
  else-within : Within bs i o
  else-within =
      let ok = proper bs s.accepted in
      let l : i < length (table_of bs) = omega (arith, table-length bs, n.row) in
      within n p (then-within (table_of bs) (open_at (table_of bs) i) (formed (table_of bs) ok i (omega arith)) (placed-in (table_of bs) ok i l e refl))

  pub else_inside : Inside bs o
  else_inside = record { row = p.opens.row; within = else-within.some }

  pub else-line : {g : ℕ} {h u : Spot} {l : Declared.Line} → SpotIs bs i h → SpotIs bs o u → g ≡ line_of (table_of bs) (suc (end_of (table_of bs) o))
      → l ≡ struct (leave_line h.r u.r h.e (u.e + 2) (u.e + 1) g) → l ≡ struct (row_line (table_of bs) i 0)
  unfolding row_lines
  else-line a b w q =
      q ∙ leave-is 2 else-within p a b refl
      ∙ ap (λ x. struct (leave_of (table_of bs) i (open_at (table_of bs) i) 2 x)) (w ∙ ap (λ x. line_of (table_of bs) (suc (end_of (table_of bs) x))) p.is)
      ∙ ap struct (line-of (table_of bs) i 0 e)

-- ---- end rows
-- a loop's end; an if's, whether its then or its else part ends
loop-end-line : (t : Table) (i : ℕ) (fs : List Open) (p : Part) → is_loop_body p ≡ true → leave_of t i fs 0 (line_of t (opener_of fs)) ≡ end_line t i fs p
loop-end-line t i fs body e = clash e refl
loop-end-line t i fs then_part e = clash e refl
loop-end-line t i fs else_part e = clash e refl
loop-end-line t i fs loop_body e = refl

if-end-line : (t : Table) (i : ℕ) (fs : List Open) (p : Part) → is_body_lem p ≡ false → is_loop_body p ≡ false → leave_of t i fs 2 (line_of t (suc i)) ≡ end_line t i fs p
if-end-line t i fs body a b = clash refl a
if-end-line t i fs then_part a b = refl
if-end-line t i fs else_part a b = refl
if-end-line t i fs loop_body a b = clash refl b

pub ret-is : {bs : List ℕ} {m : List Scope} {i : ℕ} {b : Bool} {h : Spot} {l : Declared.Line} → Surveyed bs m → Inside bs i → kind_at (table_of bs) i ≡ End
    → b ≡ in_body (table_of bs) i → b ≡ true → SpotIs bs i h → l ≡ struct (ret_line h.e (h.e + 1)) → l ≡ struct (row_line (table_of bs) i 0)
unfolding row_lines value_of in_body
ret-is {bs} {m} {i} s n e d c a q =
    let k = body-part (table_of bs) (regions (table_of bs) i) (open_at (table_of bs) i) (formed (table_of bs) (proper bs s.accepted) i (omega (arith, table-length bs, n.row))) (chain (table_of bs) i) n.within (sym d ∙ c) in
    q ∙ rw a.e_is (ap (λ x. struct (end_line (table_of bs) i (open_at (table_of bs) i) x)) (sym k)) ∙ ap struct (line-of (table_of bs) i 0 e)

module _ {bs : List ℕ} {i o : ℕ} {b : Bool} (n : Inside bs i) (d : b ≡ in_body (table_of bs) i) (c : b ≡ false) (p : OpenerIs bs i o) where
  end-within : Within bs i o
  unfolding in_body
  end-within = within n p (not_body (open_at (table_of bs) i) n.within (sym d ∙ c))

  pub end-inside : Inside bs o
  end-inside = record { row = p.opens.row; within = end-within.some }

  pub loop-end : {g : ℕ} {k : Bool} {h u : Spot} {l : Declared.Line} → kind_at (table_of bs) i ≡ End → k ≡ is_loop_lem (kind_at (table_of bs) o) → k ≡ true
      → SpotIs bs i h → SpotIs bs o u → g ≡ line_of (table_of bs) o → l ≡ struct (leave_line h.r u.r h.e u.e (u.e + 1) g)
      → l ≡ struct (row_line (table_of bs) i 0)
  unfolding row_lines
  loop-end e x y a v w q =
      q ∙ leave-is 0 end-within p a v (sym (add-zero _))
      ∙ ap (λ z. struct (leave_of (table_of bs) i (open_at (table_of bs) i) 0 z)) (w ∙ ap (line_of (table_of bs)) p.is)
      ∙ ap struct (loop-end-line (table_of bs) i (open_at (table_of bs) i) (part_of (open_at (table_of bs) i)) (sym (part-loop n p x) ∙ y))
      ∙ ap struct (line-of (table_of bs) i 0 e)

  pub if-end : {m : List Scope} {g : ℕ} {k : Bool} {h u : Spot} {l : Declared.Line} → Surveyed bs m → kind_at (table_of bs) i ≡ End → k ≡ is_loop_lem (kind_at (table_of bs) o)
      → k ≡ false → SpotIs bs i h → SpotIs bs o u → g ≡ line_of (table_of bs) (suc i)
      → l ≡ struct (leave_line h.r u.r h.e (u.e + 2) (u.e + 1) g) → l ≡ struct (row_line (table_of bs) i 0)
  unfolding row_lines in_body
  if-end s e x y a v w q =
      let f = part-not-body (table_of bs) (open_at (table_of bs) i) (formed (table_of bs) (proper bs s.accepted) i (omega (arith, table-length bs, n.row))) (not_body (open_at (table_of bs) i) n.within (sym d ∙ c)) in
      q ∙ leave-is 2 end-within p a v refl ∙ ap (λ z. struct (leave_of (table_of bs) i (open_at (table_of bs) i) 2 z)) w
      ∙ ap struct (if-end-line (table_of bs) i (open_at (table_of bs) i) (part_of (open_at (table_of bs) i)) f (sym (part-loop n p x) ∙ y))
      ∙ ap struct (line-of (table_of bs) i 0 e)

-- ---- break and continue rows
pub loop-inside : {bs : List ℕ} {i : ℕ} → InLoop bs i → Inside bs i
loop-inside {bs} {i} n = record { row = n.row; within = from-loop (open_at (table_of bs) i) n.within }

module _ {bs : List ℕ} {i o t : ℕ} {h u : Spot} (p : LoopIs bs i o) (a : SpotIs bs i h) (b : SpotIs bs o u)
    (c : t ≡ child_of_lem (table_of bs) o) where
  out_is : {x g : ℕ} (d : ℕ) → x ≡ u.e + d
      → struct (out_line h.r u.r t h.e x g) ≡ struct (out_of (table_of bs) i (open_at (table_of bs) i) d g)
  unfolding value_of child_of_lem
  out_is d q =
      same_out a.r_is
      (b.r_is ∙ ap (λ x. region_of (open_at (table_of bs) o) - x) p.same_body ∙ ap (λ x. region_of x - body_region (open_at (table_of bs) i)) p.open_is)
      (c ∙ ap (λ x. regions (table_of bs) o - x) p.same_body ∙ ap (λ x. x - body_region (open_at (table_of bs) i)) (sym p.region_is)) a.e_is
      (q ∙ ap (λ x. x + d) (b.e_is ∙ ap (λ x. value (table_of bs) (region_of x) o) p.open_is ∙ ap (λ x. value (table_of bs) (region_of (around (from_loop (open_at (table_of bs) i)))) x) p.is))
      refl

  pub break-line : {g : ℕ} {l : Declared.Line} → kind_at (table_of bs) i ≡ Break → g ≡ line_of (table_of bs) (suc (end_of (table_of bs) o))
      → l ≡ struct (out_line h.r u.r t h.e (u.e + 2) g) → l ≡ struct (row_line (table_of bs) i 0)
  unfolding row_lines
  break-line e w q =
      q ∙ out_is 2 refl
      ∙ ap (λ x. struct (out_of (table_of bs) i (open_at (table_of bs) i) 2 x)) (w ∙ ap (λ x. line_of (table_of bs) (suc (end_of (table_of bs) x))) p.is)
      ∙ ap struct (line-of (table_of bs) i 0 e)

  pub continue-line : {g : ℕ} {l : Declared.Line} → kind_at (table_of bs) i ≡ Continue → g ≡ line_of (table_of bs) o
      → l ≡ struct (out_line h.r u.r t h.e u.e g) → l ≡ struct (row_line (table_of bs) i 0)
  unfolding row_lines
  continue-line e w q =
      q ∙ out_is 0 (sym (add-zero _)) ∙ ap (λ x. struct (out_of (table_of bs) i (open_at (table_of bs) i) 0 x)) (w ∙ ap (line_of (table_of bs)) p.is)
      ∙ ap struct (line-of (table_of bs) i 0 e)
