-- The lines of do, if and loop rows, from what the code reads of the row. Assumes nothing.
use mathlib.Core.Path.{◌≡◌, refl, sym, ap, ◌∙◌, subst}
use mathlib.Core.Bool.{false}
use mathlib.Core.List.{List, [], ◌∷◌}
use Prim.Native.Nat.{ℕ, suc, ◌+◌, ◌-◌, ◌≤◌, ◌<◌}
use native.Mathlib.Omega.{arith}
use lib.ListN.{length, get_or}
use borrow.Author.Tests.{ltb-true}
use Rattle.rules.specs.declared.operands.Operands.{Operands}
use Rattle.rules.specs.declared.kind.Kind.{Kind}
use Rattle.rules.specs.declared.kind.Kind.TheVariants.{Do, If, Else, Loop}
use Rattle.rules.specs.Row.{Table, table_of, kind_at, operands_at}
use Rattle.rules.specs.Scan.{Open, open_at, regions, body_region, opener_of, local, end_of, else_of}
use Rattle.rules.specs.Value.{base}
use Rattle.rules.specs.Check.{is_outside, misplaced_in}
use Rattle.rules.specs.Line.{do_line, tick_line, test_line, line_at}
use Rattle.rules.specs.Harden.{line_of, test_of, row_lines}
use Rattle.rules.specs.Links.{is_opening, else_link}
use Rattle.rules.proofs.Logic.{clash}
use Rattle.rules.proofs.Scan.{Chain, chain, body-least}
use Rattle.rules.proofs.Value.{AllHeld, held}
use Rattle.rules.proofs.Accepted.{proper, table-length}
use Rattle.rules.proofs.Close.{Turned, else_is}
use Rattle.rules.proofs.Function.{placed-in}
use Rattle.rules.proofs.RegionBound.{else-bound}
use Rattle.layout.specs.declared.scope.Scope.{Scope}
use Rattle.layout.specs.declared.spot.Spot.{Spot}
use Rattle.layout.specs.Scope.{Surveyed}
use Rattle.layout.specs.Number.{value_of}
use Rattle.layout.specs.Spot.{Inside, Opens, Grows, SpotIs, child_of_lem, Elses}
use Rattle.layout.proofs.Survey.{some-open}
use Rattle.layout.proofs.Around.{same_body}
use Rattle.layout.proofs.Parts.{no-else, an_else}
use Rattle.layout.proofs.Spots.{grows}
use Rattle.line.specs.declared.Line as Declared
use Rattle.line.specs.Line.{struct}
use Rattle.emit.specs.Emit.{row_line, plain_test_lem, else_test_lem, TurnsAt}

-- line ph of a row whose kind is known
pub line-of : (t : Table) (i ph : ℕ) {k : Kind} → kind_at t i ≡ k → line_at (row_lines t i (open_at t i) k) ph ≡ row_line t i ph
unfolding row_line
line-of t i ph e = ap (λ x. line_at (row_lines t i (open_at t i) x) ph) (sym e)

-- ---- do rows
pub do-is : (bs : List ℕ) (i : ℕ) {o : Operands} {l : Declared.Line} → kind_at (table_of bs) i ≡ Do → o ≡ operands_at (table_of bs) i
    → l ≡ struct (do_line o i) → l ≡ struct (row_line (table_of bs) i 0)
unfolding row_lines
do-is bs i k e q = q ∙ ap (λ o. struct (do_line o i)) e ∙ ap struct (line-of (table_of bs) i 0 k)

pub tick_is : {bs : List ℕ} {i : ℕ} {h : Spot} {l : Declared.Line} → SpotIs bs i h → kind_at (table_of bs) i ≡ Do
    → l ≡ struct (tick_line h.r h.e (h.e + 1)) → l ≡ struct (row_line (table_of bs) i 1)
unfolding row_lines value_of
tick_is {bs} {i} s k q = q ∙ rw (s.r_is, s.e_is) (ap struct (line-of (table_of bs) i 1 k))

pub ruleset dos = (do-is, tick_is)

-- ---- the two tests
same_test : {o o' : Operands} {r s t e a b c g r' s' t' e' a' b' c' g' : ℕ} → o ≡ o' → r ≡ r' → s ≡ s' → t ≡ t' → e ≡ e' → a ≡ a' → b ≡ b' → c ≡ c'
    → g ≡ g' → struct (test_line o r s t e a b c g) ≡ struct (test_line o' r' s' t' e' a' b' c' g')
same_test {o} {o'} {r} {s} {t} {e} {a} {b} {c} {g} p r= s= t= e= a= b= c= g= =
    ap (λ x. struct (test_line x r s t e a b c g)) p ∙ rw (r=, s=, t=, e=, a=, b=, c=, g=)

pub plain-is : {bs : List ℕ} {i s b g : ℕ} {o : Operands} {h : Spot} {l : Declared.Line} → o ≡ operands_at (table_of bs) i → SpotIs bs i h
    → s ≡ child_of_lem (table_of bs) i → b ≡ base (table_of bs) (regions (table_of bs) i) → g ≡ line_of (table_of bs) (suc (end_of (table_of bs) i))
    → l ≡ struct (test_line o h.r s h.r h.e (h.e + 1) b (h.e + 2) g) → l ≡ struct (plain_test_lem (table_of bs) i)
unfolding plain_test_lem test_of value_of child_of_lem
plain-is {bs} {i} e h c b g q =
    q ∙ same_test e h.r_is c h.r_is h.e_is (ap (λ x. x + 1) h.e_is) b (ap (λ x. x + 2) h.e_is) g

pub else-test-is : {bs : List ℕ} {i x s t b c g : ℕ} {o : Operands} {h : Spot} {l : Declared.Line} → o ≡ operands_at (table_of bs) i → SpotIs bs i h
    → TurnsAt bs i x → s ≡ child_of_lem (table_of bs) i → t ≡ child_of_lem (table_of bs) x → b ≡ base (table_of bs) (regions (table_of bs) i)
    → c ≡ base (table_of bs) (regions (table_of bs) x) → g ≡ line_of (table_of bs) (suc x)
    → l ≡ struct (test_line o h.r s t h.e (h.e + 1) b c g) → l ≡ struct (else_test_lem (table_of bs) i)
unfolding else_test_lem test_of value_of child_of_lem
else-test-is {bs} {i} {x} e h u s t b c g q =
    let t' = t ∙ ap (λ y. regions (table_of bs) x - y) u.same_body ∙ ap (λ y. local (open_at (table_of bs) i) (regions (table_of bs) y)) u.is in
    let c' = c ∙ ap (λ y. base (table_of bs) (regions (table_of bs) y)) u.is in
    let g' = g ∙ ap (λ y. line_of (table_of bs) (suc y)) u.is in
    q ∙ same_test e h.r_is s t' h.e_is (ap (λ y. y + 1) h.e_is) b c' g'

-- ---- loop rows
pub loop-opens : {bs : List ℕ} {i : ℕ} → Inside bs i → kind_at (table_of bs) i ≡ Loop → Opens bs i
loop-opens o e = record { row = o.row; opening = ap is_opening e }

pub loop-grows : {bs : List ℕ} {m : List Scope} {i : ℕ} → Surveyed bs m → Inside bs i → kind_at (table_of bs) i ≡ Loop → Grows bs i
loop-grows s o e = grows s o e refl

pub loop-line : (bs : List ℕ) (i : ℕ) {l : Declared.Line} → kind_at (table_of bs) i ≡ Loop → l ≡ struct (plain_test_lem (table_of bs) i) → l ≡ struct (row_line (table_of bs) i 0)
unfolding row_lines plain_test_lem
loop-line bs i e q = q ∙ ap struct (line-of (table_of bs) i 0 e)

pub ruleset loops = (loop-opens, loop-grows, loop-line)

-- ---- if rows
pub if-opens : {bs : List ℕ} {i : ℕ} → Inside bs i → kind_at (table_of bs) i ≡ If → Opens bs i
if-opens o e = record { row = o.row; opening = ap is_opening e }

pub if-grows : {bs : List ℕ} {m : List Scope} {i : ℕ} → Surveyed bs m → Inside bs i → kind_at (table_of bs) i ≡ If → Grows bs i
if-grows s o e = grows s o e refl

module _ {bs elses : List ℕ} {i x : ℕ} (ls : Elses bs elses) (o : Inside bs i) (e : kind_at (table_of bs) i ≡ If) (q : x ≡ get_or elses i 0) where
  link-is : x ≡ else_link (table_of bs) i
  link-is = q ∙ ls.each i (omega (arith, table-length bs, o.row)) e

  pub if-plain : {l : Declared.Line} → x ≡ 0 → l ≡ struct (plain_test_lem (table_of bs) i) → l ≡ struct (row_line (table_of bs) i 0)
  unfolding row_lines plain_test_lem
  if-plain z w =
      w ∙ ap (λ b. struct (test_of (table_of bs) i (open_at (table_of bs) i) b)) (sym (no-else (table_of bs) i (sym link-is ∙ z)))
      ∙ ap struct (line-of (table_of bs) i 0 e)

  pub if_else : {l : Declared.Line} → (x ≡ 0 → ⊥) → l ≡ struct (else_test_lem (table_of bs) i) → l ≡ struct (row_line (table_of bs) i 0)
  unfolding row_lines else_test_lem
  if_else z w =
      w ∙ ap (λ b. struct (test_of (table_of bs) i (open_at (table_of bs) i) b)) (sym (an_else (table_of bs) i (λ y. z (link-is ∙ y))).0)
      ∙ ap struct (line-of (table_of bs) i 0 e)

  pub if-turns : {m : List Scope} → Surveyed bs m → (x ≡ 0 → ⊥) → TurnsAt bs i x
  unfolding misplaced_in
  if-turns s z =
      let a = an_else (table_of bs) i (λ y. z (link-is ∙ y)) in
      let w : x ≡ else_of (table_of bs) i = link-is ∙ a.1 in
      let n : i < length (table_of bs) = omega (arith, table-length bs, o.row) in
      let l : x < length (table_of bs) = omega (arith, ltb-true (else_of (table_of bs) i) (length (table_of bs)) a.0) in
      let u : Turned (table_of bs) i x = subst (Turned (table_of bs) i) (sym w) (else_is (table_of bs) i n a.0) in
      let f = some-open (open_at (table_of bs) i) o.within in
      by (open_at (table_of bs) x) refl (placed-in (table_of bs) (proper bs s.accepted) x l u.kind_is refl) w l u f.0 f.1 f.2
      (subst (λ y. local (f.0 ∷ f.1) (regions (table_of bs) y) < 64) (sym w) (else-bound (table_of bs) (proper bs s.accepted) i n a.0 f.2))
    where
      by : (gs : List Open) → open_at (table_of bs) x ≡ gs → misplaced_in Else gs ≡ false → x ≡ else_of (table_of bs) i → x < length (table_of bs) → Turned (table_of bs) i x
          → (f : Open) (fs : List Open) → open_at (table_of bs) i ≡ f ∷ fs → local (f ∷ fs) (regions (table_of bs) x) < 64 → TurnsAt bs i x
      by [] y c w l u f fs g k = clash refl c
      by (h ∷ hs) y c w l u f fs g k =
          let a : AllHeld (table_of bs) x (h ∷ hs) = subst (AllHeld (table_of bs) x) y (held (table_of bs) x) in
          let t : open_at (table_of bs) i ≡ hs = ap (open_at (table_of bs)) (sym u.opener_is ∙ ap opener_of y) ∙ a.0.outer in
          let v : body_region (open_at (table_of bs) x) ≡ body_region (open_at (table_of bs) i)
          = ap body_region y ∙ sym (same_body h hs (ap is_outside (sym t) ∙ o.within)) ∙ ap body_region (sym t) in
          let c : Chain (regions (table_of bs) x) (h ∷ hs) = subst (Chain (regions (table_of bs) x)) y (chain (table_of bs) x) in
          let d = body-least (regions (table_of bs) x) h hs c in
          let b : body_region (open_at (table_of bs) x) ≤ regions (table_of bs) x = omega (arith, c.0, d, ap body_region y) in
          record {
            is = w;
            grows = record { row = omega (arith, table-length bs); near = record { low = b; high = omega (arith, k, ap body_region g, v, b) } };
            same_body = v;
          }

pub ruleset ifs = (if-opens, if-grows, if-plain, if_else, if-turns)
