-- Every value that a line names is below the base that a region after the last would have. Assumes that the table is accepted.
use mathlib.Core.Path.{◌≡◌, refl, sym, ap, ◌∙◌, subst}
use mathlib.Core.Bool.{Bool, true, false}
use mathlib.Core.List.{List, [], ◌∷◌}
use Prim.Native.Nat.{ℕ, zero, suc, ◌+◌, ◌≤◌, ◌<◌}
use native.Mathlib.Nat.{le_refl, not-suc-le-zero}
use native.Mathlib.Decide.{le_ind}
use native.Mathlib.Omega.{arith}
use lib.ListN.{length}
use borrow.Author.Tests.{ltb-true}
use Rattle.rules.specs.declared.kind.Kind.{Kind}
use Rattle.rules.specs.declared.kind.Kind.TheVariants.{Function, Do, If, Else, Loop, End, Break, Continue, Call, Unknown}
use Rattle.rules.specs.Row.{Table, kind_at, operands_at}
use Rattle.rules.specs.Scan.{Part, body, then_part, else_part, loop_body, Open, shape_of, regions_after, regions, opener_of, region_of, around, from_loop, local, end_of, else_of, has_else, function_count, function_row}
use Rattle.rules.specs.Value.{past, takes, base, value, value_in}
use Rattle.rules.specs.Check.{is_then, misplaced_in}
use Rattle.rules.specs.Line.{Line, out_line, line_at}
use Rattle.rules.specs.Harden.{line_count, line_of, row_lines, own_region, test_of, opener_value, leave_of, out_of, end_line, end_value, harden}
use Rattle.rules.specs.Figures.{values_in, highest, highest_value}
use Rattle.std.proofs.lemmas.Bool.{not-false}
use Rattle.rules.proofs.Logic.{clash}
use Rattle.rules.proofs.Accepted.{Proper}
use Rattle.rules.proofs.Scan.{Chain, chain, regions-mono, regions-next}
use Rattle.rules.proofs.Value.{taken_mono, base-pos, value-next, Held, AllHeld, held}
use Rattle.rules.proofs.Close.{else_is}
use Rattle.rules.proofs.Harden.{line-at}
use Rattle.rules.proofs.Function.{is_body_lem, held-takes, placed-in, function-at, InFunction, formed-here, function-end, callee_known}
use Rattle.rules.proofs.Place.{LineOf}
use Rattle.rules.proofs.RegionBound.{LoopAround, loop-around}
use Rattle.rules.proofs.FunctionLine.{placed}

-- ---- the highest of numbers that are all below m
abbrev Below : ℕ → List ℕ → Type 0
Below m [] = Unit {0}
Below m (x ∷ xs) = (x < m) × Below m xs

below_two : {m a b : ℕ} → a < m → b < m → Below m (a ∷ b ∷ [])
below_two p q = (p, (q, tt))

below-three : {m a b c : ℕ} → a < m → b < m → c < m → Below m (a ∷ b ∷ c ∷ [])
below-three p q r = (p, below_two q r)

below-four : {m a b c d : ℕ} → a < m → b < m → c < m → d < m → Below m (a ∷ b ∷ c ∷ d ∷ [])
below-four p q r s = (p, below-three q r s)

highest-below : {m : ℕ} → 0 < m → (xs : List ℕ) → Below m xs → highest xs < m
highest-below z [] b = z
highest-below z (x ∷ xs) b = omega (arith, b.0, highest-below z xs b.1)

lines-below : {m : ℕ} → 0 < m → (ls : List Line) → ((k : ℕ) → k < length ls → Below m (values_in (line_at ls k))) → highest_value ls < m
unfolding highest_value
lines-below z [] b = z
lines-below z (l ∷ ls) b =
    omega (arith, highest-below z (values_in l) (b 0 (omega arith)), lines-below z ls (λ k h. b (suc k) (omega arith)))

-- ---- a region's values and its base
pub base-next : (t : Table) (g : ℕ) → base t (suc g) ≡ suc (value t g (length t))
unfolding base value
base-next t g = omega arith

base-grows : (t : Table) {g : ℕ} (h : ℕ) → g ≤ h → base t g ≤ base t h
unfolding base
base-grows t {g} h l = le_ind (λ m. base t g ≤ base t m) (le_refl _) (λ m b p. omega arith) h l

value_grows : (t : Table) (g i : ℕ) → i ≤ length t → value t g i ≤ value t g (length t)
unfolding value
value_grows t g i l = omega (arith, taken_mono t g {i = i} (length t) l)

base-first : (t : Table) (g : ℕ) → base t g ≤ value t g (length t)
unfolding value
base-first t g = omega arith

-- ---- below the top
abbrev top : Table → ℕ
top t = base t (regions t (length t))

value-below : (t : Table) (g i : ℕ) → g < regions t (length t) → i ≤ length t → value t g i < top t
value-below t g i l h = omega (arith, base-next t g, base-grows t {g = suc g} (regions t (length t)) l, value_grows t g i h)

base-below : (t : Table) (g : ℕ) → g < regions t (length t) → base t g < top t
base-below t g l = omega (arith, base-next t g, base-grows t {g = suc g} (regions t (length t)) l, base-first t g)

-- the region that row i opens
opened-below : (t : Table) (i : ℕ) {k : Kind} → i < length t → kind_at t i ≡ k → regions_after (shape_of k) (regions t i) ≡ suc (regions t i)
    → base t (regions t i) < top t
opened-below t i l e s = base-below t (regions t i) (omega (arith, regions-next t i e ∙ s, regions-mono t {i = suc i} (length t) l))

-- the row that opened a part, past what it opened
opener-below : (t : Table) (i : ℕ) (f h : Open) (hs : List Open) → Held t i f (h ∷ hs) → is_body_lem f.part ≡ false → h.region < regions t (length t)
    → i ≤ length t → value t h.region f.opener + past < top t
opener-below t i f h hs m b l r =
    omega
    (arith, value-next t f.opener refl m.outer, held-takes t i f (h ∷ hs) h.part m b, value-below t h.region (suc f.opener) l (omega (arith, m.before)))

-- ---- row i of function n, where the parts f ∷ fs are open
module _ (t : Table) (ok : Proper t) (n i : ℕ) (f : Open) (fs : List Open) (m : InFunction t n i f fs) where
  region_low : f.region < regions t (length t)
  region_low =
      omega (arith, (subst (Chain (regions t i)) m.open_is (chain t i)).0, regions-mono t {i = i} (length t) (omega (arith, m.within)))

  own_below : (k : Kind) → kind_at t i ≡ k → value_in t i (f ∷ fs) + takes k f.part < top t
  own_below k e = omega (arith, value-next t i e m.open_is, value-below t f.region (suc i) region_low m.within)

  out_below : LoopAround t i f fs → (d go : ℕ) → d ≤ past → Below (top t) (values_in (out_of t i (f ∷ fs) d go))
  out_below l d go h =
      subst
      (λ x. Below (top t) (values_in (out_line (own_region (f ∷ fs)) (local (f ∷ fs) (region_of (around x))) (local (f ∷ fs) (region_of x)) (value_in t i (f ∷ fs)) (opener_value t x + d) go)))
      (sym l.from_it) (below_two (omega (arith, own_below (kind_at t i) refl)) (omega (arith, w)))
    where
      w : value t l.next.region l.it.opener + past < top t
      w = opener-below t i l.it l.next l.others l.holds (ap is_body_lem l.is_loop) (omega (arith, l.next_below, l.not_above, region_low))
          (omega (arith, m.within))

  test_below : (b : Bool) (k : Kind) → kind_at t i ≡ k → takes k f.part ≡ past → regions_after (shape_of k) (regions t i) ≡ suc (regions t i)
      → (b ≡ true → has_else t i ≡ true) → Below (top t) (values_in (test_of t i (f ∷ fs) b))
  unfolding test_of
  test_below true k e p s u =
      below-four (omega (arith, own_below k e)) (omega (arith, own_below k e)) (opened-below t i m.within e s)
      (opened-below t (else_of t i) (ltb-true (else_of t i) (length t) (u refl)) (else_is t i m.within (u refl)).kind_is refl)
  test_below false k e p s u =
      below-four (omega (arith, own_below k e)) (omega (arith, own_below k e)) (opened-below t i m.within e s) (omega (arith, own_below k e))

-- ---- row i closes a part that has others around it
leave-below : (t : Table) (ok : Proper t) (n i : ℕ) (f h : Open) (hs : List Open) (m : InFunction t n i f (h ∷ hs)) → (d go : ℕ) → d ≤ past
    → Below (top t) (values_in (leave_of t i (f ∷ h ∷ hs) d go))
leave-below t ok n i f h hs m d go l =
    below-three (omega (arith, own_below t ok n i f (h ∷ hs) m (kind_at t i) refl)) (omega (arith, w)) (omega (arith, w))
  where
    w : value t h.region f.opener + past < top t
    w = opener-below t i f h hs (subst (AllHeld t i) m.open_is (held t i)).0 (formed-here t ok m).0
        (omega (arith, (subst (Chain (regions t i)) m.open_is (chain t i)).1.0, region_low t ok n i f (h ∷ hs) m)) (omega (arith, m.within))

end_below : (t : Table) (ok : Proper t) (n i : ℕ) (f h : Open) (hs : List Open) (m : InFunction t n i f (h ∷ hs)) → (p : Part) → is_body_lem p ≡ false
    → Below (top t) (values_in (end_line t i (f ∷ h ∷ hs) p))
end_below t ok n i f h hs m body b = clash refl b
end_below t ok n i f h hs m then_part b = leave-below t ok n i f h hs m past (line_of t (suc i)) (le_refl _)
end_below t ok n i f h hs m else_part b = leave-below t ok n i f h hs m past (line_of t (suc i)) (le_refl _)
end_below t ok n i f h hs m loop_body b = leave-below t ok n i f h hs m 0 (line_of t f.opener) (omega arith)

-- ---- the end of a function
ret-below : (t : Table) (ok : Proper t) (n i : ℕ) (f : Open) (m : InFunction t n i f []) → kind_at t i ≡ End → Below (top t) (values_in (end_line t i (f ∷ []) f.part))
ret-below t ok n i f m e =
    let w : value_in t i (f ∷ []) + 1 < top t = omega (arith, own_below t ok n i f [] m End e, ap (takes End) (formed-here t ok m).0) in
    subst (λ p. Below (top t) (values_in (end_line t i (f ∷ []) p))) (sym (formed-here t ok m).0) (below_two (omega arith) w)

end-value-below : (t : Table) → Proper t → (n : ℕ) → n < function_count t → end_value t n < top t
unfolding end_value
end-value-below t ok n l =
    let a = function-at t ok n l in
    let e = function-end t ok n l in
    let j = end_of t (function_row t n) in
    omega (
      arith,
      value-next t j e.1.kind_is e.1.open_is,
      ap (takes End) e.1.is_body,
      ap (λ x. value t x j) e.1.region_is,
      ap (λ x. value t x (suc j)) e.1.region_is,
      value-below t (regions t (function_row t n)) (suc j)
          (omega (arith, regions-next t (function_row t n) a.kind_is, regions-mono t {i = suc (function_row t n)} (length t) a.within)) e.1.within,
    )

-- ---- each line
module _ (t : Table) (ok : Proper t) where
  row_below : (n i : ℕ) (f : Open) (fs : List Open) → InFunction t n i f fs → (k : Kind) → kind_at t i ≡ k → (ph : ℕ) → ph < line_count k
      → Below (top t) (values_in (line_at (row_lines t i (f ∷ fs) k) ph))
  unfolding row_lines misplaced_in
  row_below n i f fs m Function e ph l = absurd (not-suc-le-zero l)
  row_below n i f fs m Do e zero l = tt
  row_below n i f fs m Do e (suc zero) l =
      below_two (omega (arith, own_below t ok n i f fs m Do e)) (omega (arith, own_below t ok n i f fs m Do e))
  row_below n i f fs m Do e (suc (suc x)) l = absurd (omega arith)
  row_below n i f fs m If e zero l = test_below t ok n i f fs m (has_else t i) If e refl refl (λ u. u)
  row_below n i f fs m If e (suc x) l = absurd (omega arith)
  row_below n i f [] m Else e zero l =
      clash (ap is_then (sym (formed-here t ok m).0) ∙ not-false _ (placed-in t ok i m.within e m.open_is)) refl
  row_below n i f (h ∷ hs) m Else e zero l = leave-below t ok n i f h hs m past (line_of t (suc (end_of t f.opener))) (le_refl _)
  row_below n i f fs m Else e (suc x) l = absurd (omega arith)
  row_below n i f fs m Loop e zero l = test_below t ok n i f fs m false Loop e refl refl (λ u. clash u refl)
  row_below n i f fs m Loop e (suc x) l = absurd (omega arith)
  row_below n i f [] m End e zero l = ret-below t ok n i f m e
  row_below n i f (h ∷ hs) m End e zero l = end_below t ok n i f h hs m f.part (formed-here t ok m).0
  row_below n i f fs m End e (suc x) l = absurd (omega arith)
  row_below n i f fs m Break e zero l =
      out_below t ok n i f fs m (loop-around t ok i (omega (arith, m.within)) m.open_is (placed-in t ok i m.within e m.open_is)) past
      (line_of t (suc (end_of t (opener_of (from_loop (f ∷ fs)))))) (le_refl _)
  row_below n i f fs m Break e (suc x) l = absurd (omega arith)
  row_below n i f fs m Continue e zero l =
      out_below t ok n i f fs m (loop-around t ok i (omega (arith, m.within)) m.open_is (placed-in t ok i m.within e m.open_is)) 0
      (line_of t (opener_of (from_loop (f ∷ fs)))) (omega arith)
  row_below n i f fs m Continue e (suc x) l = absurd (omega arith)
  row_below n i f fs m Call e zero l =
      let c = (operands_at t i).n in
      let a = function-at t ok c (callee_known t ok i m.within e) in
      below-three (omega (arith, own_below t ok n i f fs m Call e)) (omega (arith, own_below t ok n i f fs m Call e))
      (opened-below t (function_row t c) a.within a.kind_is refl)
  row_below n i f fs m Call e (suc zero) l =
      below-three (omega (arith, own_below t ok n i f fs m Call e)) (omega (arith, own_below t ok n i f fs m Call e))
      (end-value-below t ok (operands_at t i).n (callee_known t ok i m.within e))
  row_below n i f fs m Call e (suc (suc x)) l = absurd (omega arith)
  row_below n i f fs m Unknown e ph l = absurd (not-suc-le-zero l)

  line-below : (n k : ℕ) → LineOf t n k → Below (top t) (values_in (line_at (harden t) k))
  line-below n k s =
      let m = s.in_function in
      let i = s.row in
      subst (λ l. Below (top t) (values_in l))
      (sym (ap (line_at (harden t)) s.is ∙ line-at t i s.ph m.within s.ph_lt ∙ ap (λ gs. line_at (row_lines t i gs (kind_at t i)) s.ph) m.open_is))
      (row_below n i s.top s.others m (kind_at t i) refl s.ph s.ph_lt)

  -- ---- all lines
  pub values-below : highest_value (harden t) < top t
  values-below =
      lines-below (base-pos t (regions t (length t))) (harden t) (λ k l. let a = placed t ok k l in line-below a.number k a.line)
