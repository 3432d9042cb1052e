-- The first line of a row of an accepted table stands for exactly that row.
use mathlib.Core.Logic.{◌⊎◌, inl, inr}
use mathlib.Core.Path.{◌≡◌, refl, sym, ap, ◌∙◌, subst}
use mathlib.Core.Bool.{Bool, true, false, cond, ◌&&◌}
use mathlib.Core.List.{List, [], ◌∷◌}
use Prim.Native.Nat.{ℕ, suc, ◌+◌, ◌-◌, ◌≤◌, ◌<◌}
use native.Mathlib.Nat.{eq-or-lt_of_le}
use native.Mathlib.Omega.{arith}
use lib.ListN.{length}
use lib.Dec.{ltb}
use borrow.Author.Tests.{eqb-true, eq-eqb, ne_eqb, ltb-true, lt-ltb, le-ltb}
use Rattle.rules.specs.declared.operands.Operands.{Operands}
use Rattle.rules.specs.declared.kind.Kind.{Kind}
use Rattle.rules.specs.declared.kind.Kind.TheVariants.{Function, Do, If, Else, Loop, End, Break, Continue, Call, Unknown}
use Rattle.rules.specs.Row.{Row, Table, row_at, kind_at, operands_at, is_unused, uses_none_lem, uses_function_lem, fields_fit_lem}
use Rattle.rules.specs.Scan.{Part, body, then_part, else_part, loop_body, Open, pushes, shape_of, open_at, part_of, opener_of, is_loop_body, from_loop, end_of, else_of, has_else}
use Rattle.rules.specs.Check.{is_outside, misplaced_in}
use Rattle.rules.specs.Line.{no_operands, line_at}
use Rattle.rules.specs.Harden.{line_count, line_of, test_of, end_line, row_lines, harden}
use Rattle.rules.specs.ReadBack.{bare, call_on, leaves_to_lem, row_for}
use Rattle.rules.proofs.Logic.{clash, and_left, and_right}
use Rattle.rules.proofs.Accepted.{Proper}
use Rattle.rules.proofs.Scan.{origin}
use Rattle.rules.proofs.Value.{Held, AllHeld, held}
use Rattle.rules.proofs.Close.{NoOpener, not_past, end_is, closed_is, else_is}
use Rattle.rules.proofs.Harden.{line-mono, line-suc, line-next, line-at}
use Rattle.rules.proofs.Function.{callee_known, not-unknown}
use Rattle.rules.proofs.Place.{callee}

-- ---- the operands of a row that uses none, or only a function's number
unused-three : (o : Operands) → uses_function_lem o ≡ true → (o.op ≡ 0) × (o.p ≡ 0) × (o.q ≡ 0)
unused-three o e =
    let a : is_unused o.op && is_unused o.p ≡ true = and_left _ _ e in (
      eqb-true o.op 0 (and_left _ _ a),
      eqb-true o.p 0 (and_right (is_unused o.op) _ a),
      eqb-true o.q 0 (and_right (is_unused o.op && is_unused o.p) _ e),
    )

pub operands-with : (o : Operands) {n : ℕ} → uses_function_lem o ≡ true → o.n ≡ n → o ≡ call_on n
operands-with o e q =
    let u = unused-three o e in
    λ i. record { op = u.0 i; p = u.1 i; q = u.2 i; n = q i }

pub none-used : (o : Operands) → uses_none_lem o ≡ true → o ≡ no_operands
none-used o e = operands-with o (and_left _ _ e) (eqb-true o.n 0 (and_right (uses_function_lem o) _ e))

pub fits_in : (t : Table) → Proper t → (i : ℕ) {k : Kind} → i < length t → kind_at t i ≡ k → fields_fit_lem k (operands_at t i) ≡ true
fits_in t ok i l e = sym (ap (λ x. fields_fit_lem x (operands_at t i)) e) ∙ (ok.rows i l).fits

-- the row of a kind and operands that are those of row i
pub row_is : (t : Table) (i : ℕ) {k : Kind} {o : Operands} → kind_at t i ≡ k → operands_at t i ≡ o
    → ◌≡◌ {A = List Row} (record { kind = k; operands = o } ∷ []) (row_at t i ∷ [])
row_is t i e q = λ x. record { kind = sym e x; operands = sym q x } ∷ []

-- the innermost loop is one of the open parts
loop-held : (t : Table) (i : ℕ) (fs : List Open) (f : Open) (hs : List Open) → AllHeld t i fs → from_loop fs ≡ f ∷ hs → Held t i f hs
loop-held t i [] f hs g e = clash {b = true} refl cc
loop-held t i (h ∷ fs) f hs g e = by (is_loop_body h.part) e (λ q. loop-held t i fs f hs g.1 q)
  where
    by : (b : Bool) → cond b (h ∷ fs) (from_loop fs) ≡ f ∷ hs → (from_loop fs ≡ f ∷ hs → Held t i f hs) → Held t i f hs
    by true q ih = (subst (AllHeld t i) q g).0
    by false q ih = ih q

loop-opener : (fs : List Open) (f : Open) (hs : List Open) → from_loop fs ≡ f ∷ hs → NoOpener f.opener fs → ⊥
loop-opener [] f hs e k = clash {b = true} refl cc
loop-opener (h ∷ fs) f hs e k = by (is_loop_body h.part) e (λ q. loop-opener fs f hs q k.1)
  where
    by : (b : Bool) → cond b (h ∷ fs) (from_loop fs) ≡ f ∷ hs → (from_loop fs ≡ f ∷ hs → ⊥) → ⊥
    by true q ih = k.0 (ap opener_of q)
    by false q ih = ih q

-- ---- the closing line of an if goes on, that of a loop goes back
closes_if : (p : Part) → origin p ≡ then_part → (t : Table) (j k : ℕ) (fs : List Open) → k < line_of t (suc j) → leaves_to_lem k (end_line t j fs p) ≡ false
closes_if body q t j k fs l = refl
closes_if then_part q t j k fs l = ne_eqb (line_of t (suc j)) k (omega arith)
closes_if else_part q t j k fs l = ne_eqb (line_of t (suc j)) k (omega arith)
closes_if loop_body q t j k fs l = clash {b = true} refl cc

closes-loop : (p : Part) → origin p ≡ loop_body → (t : Table) (j k : ℕ) (fs : List Open) → line_of t (opener_of fs) ≡ k → leaves_to_lem k (end_line t j fs p) ≡ true
closes-loop body q t j k fs l = clash {b = true} refl cc
closes-loop then_part q t j k fs l = clash {b = true} refl cc
closes-loop else_part q t j k fs l = clash {b = true} refl cc
closes-loop loop_body q t j k fs l = eq-eqb (line_of t (opener_of fs)) k l

-- ---- the line before the first line after what row i opens
record LastLine (t : Table) (i : ℕ) (p : Part) : Type 0 where
  last : Part
  line_is : line_at (harden t) (line_of t (suc (end_of t i)) - 1) ≡ end_line t (end_of t i) (open_at t (end_of t i)) last
  opened_as : origin last ≡ p
  after_row : line_of t i < line_of t (suc (end_of t i))
  opener_is : opener_of (open_at t (end_of t i)) ≡ i

last_line : (t : Table) → Proper t → (i : ℕ) (p : Part) → i < length t → shape_of (kind_at t i) ≡ pushes p → LastLine t i p
unfolding row_lines
last_line t ok i p l s =
    let en = end_is t i p ok l s in
    let cl = closed_is t i (end_of t i) en.ends in
    let q : line_of t (suc (end_of t i)) - 1 ≡ line_of t (end_of t i) + 0 = omega (arith, line-suc t (end_of t i) cl.kind_is) in
    let hd : AllHeld t (end_of t i) (cl.it ∷ open_at t i) = subst (AllHeld t (end_of t i)) cl.open_is (held t (end_of t i)) in
    record {
      last = cl.it.part;
      line_is = ap (line_at (harden t)) q ∙ line-at t (end_of t i) 0 en.inside (rw cl.kind_is (omega arith))
          ∙ ap (λ k. line_at (row_lines t (end_of t i) (open_at t (end_of t i)) k) 0) cl.kind_is
          ∙ ap (end_line t (end_of t i) (open_at t (end_of t i))) (ap part_of cl.open_is);
      opened_as = cc (hd.0.by, ap (λ x. shape_of (kind_at t x)) cl.opened, s);
      after_row = omega (arith, line-mono t {i = i} (end_of t i) (omega (arith, en.after_it)), line-suc t (end_of t i) cl.kind_is);
      opener_is = ap opener_of cl.open_is ∙ cl.opened;
    }

-- ---- what the first line of row i stands for
module _ (t : Table) (ok : Proper t) (i : ℕ) (f : Open) (fs : List Open) (l : i < length t) (st : open_at t i ≡ f ∷ fs) where
  for-if : kind_at t i ≡ If → (b : Bool) → has_else t i ≡ b → row_for (harden t) (line_of t i) (test_of t i (f ∷ fs) b) ≡ row_at t i ∷ []
  unfolding row_for test_of row_lines
  for-if e true b =
      let tu = else_is t i l b in
      let last = last_line t ok i then_part l (ap shape_of e) in
      let x : line_of t (suc (else_of t i)) - 1 ≡ line_of t (else_of t i) + 0 = omega (arith, line-suc t (else_of t i) tu.kind_is) in
      rw (ap (line_at (harden t)) x ∙ line-at t (else_of t i) 0 (ltb-true _ _ b) (rw tu.kind_is (omega arith)) ∙ ap (λ k. line_at (row_lines t (else_of t i) (open_at t (else_of t i)) k) 0) tu.kind_is)
      (ap (λ y. record { kind = cond y Loop If; operands = operands_at t i } ∷ [])
      (ne_eqb (line_of t (suc (end_of t (opener_of (open_at t (else_of t i)))))) (line_of t i) (omega (arith, ap (λ y. line_of t (suc (end_of t y))) tu.opener_is, last.after_row)))
      ∙ row_is t i e refl)
  for-if e false b =
      let last = last_line t ok i then_part l (ap shape_of e) in
      rw (last.line_is, closes_if last.last last.opened_as t (end_of t i) (line_of t i) (open_at t (end_of t i)) last.after_row) (row_is t i e refl)

  for-loop : kind_at t i ≡ Loop → row_for (harden t) (line_of t i) (test_of t i (f ∷ fs) false) ≡ row_at t i ∷ []
  unfolding row_for test_of
  for-loop e =
      let last = last_line t ok i loop_body l (ap shape_of e) in
      rw (last.line_is, closes-loop last.last last.opened_as t (end_of t i) (line_of t i) (open_at t (end_of t i)) (ap (line_of t) last.opener_is)) (row_is t i e refl)

  held-here : AllHeld t i (f ∷ fs)
  held-here = subst (AllHeld t i) st (held t i)

  -- row i stands before the end of a part that is open at it, if it is no end row
  before_end : (o : ℕ) (p : Part) → o < i → shape_of (kind_at t o) ≡ pushes p → (NoOpener o (f ∷ fs) → ⊥) → (kind_at t i ≡ End → ⊥)
      → suc (line_of t i + line_count (kind_at t i)) ≤ line_of t (suc (end_of t o))
  before_end o p b s has ne =
      let en = end_is t o p ok (omega arith) s in
      let cl = closed_is t o (end_of t o) en.ends in
      let np = not_past t ok o i p (omega arith) s (λ x. has (subst (NoOpener o) st x)) in
      omega (arith, line-next t i (end_of t o) (strict (eq-or-lt_of_le np) cl.kind_is), line-suc t (end_of t o) cl.kind_is)
    where
      strict : (i ≡ end_of t o) ⊎ (i < end_of t o) → kind_at t (end_of t o) ≡ End → i < end_of t o
      strict (inl x) r = absurd (ne (ap (kind_at t) x ∙ r))
      strict (inr x) r = x

  for-else : kind_at t i ≡ Else → row_for (harden t) (line_of t i) (line_at (row_lines t i (f ∷ fs) Else) 0) ≡ row_at t i ∷ []
  unfolding row_for row_lines fields_fit_lem
  for-else e =
      let hd = held-here.0 in
      let b = before_end f.opener (origin f.part) hd.before hd.by (λ x. x.0 refl) (λ x. cc) in
      ap (λ y. bare (cond y Else End) ∷ []) (lt-ltb (suc (line_of t i)) (line_of t (suc (end_of t f.opener))) (omega (arith, b, ap line_count e)))
      ∙ row_is t i e (none-used _ (fits_in t ok i l e))

  for-end : kind_at t i ≡ End → (p : Part) → row_for (harden t) (line_of t i) (end_line t i (f ∷ fs) p) ≡ row_at t i ∷ []
  unfolding row_for fields_fit_lem
  for-end e p = is-bare p ∙ row_is t i e (none-used _ (fits_in t ok i l e))
    where
      is-bare : (p : Part) → row_for (harden t) (line_of t i) (end_line t i (f ∷ fs) p) ≡ bare End ∷ []
      is-bare body = refl
      is-bare then_part = ap (λ y. bare (cond y Else End) ∷ []) (le-ltb (suc (line_of t i)) (line_of t (suc i)) (omega (arith, line-suc t i e)))
      is-bare else_part = ap (λ y. bare (cond y Else End) ∷ []) (le-ltb (suc (line_of t i)) (line_of t (suc i)) (omega (arith, line-suc t i e)))
      is-bare loop_body = ap (λ y. bare (cond y Else End) ∷ [])
          (le-ltb (suc (line_of t i)) (line_of t f.opener) (omega (arith, line-mono t {i = f.opener} i (omega (arith, held-here.0.before)))))

  -- the innermost loop that is open at row i
  loop-here : (gs : List Open) → from_loop (f ∷ fs) ≡ gs → is_outside gs ≡ false → (h : Open) × (hs : List Open) × (from_loop (f ∷ fs) ≡ h ∷ hs) × Held t i h hs
  loop-here [] q x = clash refl x
  loop-here (h ∷ hs) q x = (h, hs, q, loop-held t i (f ∷ fs) h hs held-here q)

  for-break : kind_at t i ≡ Break → is_outside (from_loop (f ∷ fs)) ≡ false → row_for (harden t) (line_of t i) (line_at (row_lines t i (f ∷ fs) Break) 0) ≡ row_at t i ∷ []
  unfolding row_for row_lines fields_fit_lem
  for-break e x =
      let lp = loop-here (from_loop (f ∷ fs)) refl x in
      let b = before_end lp.0.opener (origin lp.0.part) lp.3.before lp.3.by (λ y. loop-opener (f ∷ fs) lp.0 lp.1 lp.2 y) (λ y. cc) in
      ap (λ y. bare (cond (ltb (line_of t i) (line_of t (suc (end_of t (opener_of y))))) Break Continue) ∷ []) lp.2
      ∙ ap (λ y. bare (cond y Break Continue) ∷ []) (lt-ltb (line_of t i) (line_of t (suc (end_of t lp.0.opener))) (omega (arith, b)))
      ∙ row_is t i e (none-used _ (fits_in t ok i l e))

  for-continue : kind_at t i ≡ Continue → is_outside (from_loop (f ∷ fs)) ≡ false → row_for (harden t) (line_of t i) (line_at (row_lines t i (f ∷ fs) Continue) 0) ≡ row_at t i ∷ []
  unfolding row_for row_lines fields_fit_lem
  for-continue e x =
      let lp = loop-here (from_loop (f ∷ fs)) refl x in
      ap (λ y. bare (cond (ltb (line_of t i) (line_of t (opener_of y))) Break Continue) ∷ []) lp.2
      ∙ ap (λ y. bare (cond y Break Continue) ∷ []) (le-ltb (line_of t i) (line_of t lp.0.opener) (line-mono t {i = lp.0.opener} i (omega (arith, lp.3.before))))
      ∙ row_is t i e (none-used _ (fits_in t ok i l e))

  for-call : kind_at t i ≡ Call → row_for (harden t) (line_of t i) (line_at (row_lines t i (f ∷ fs) Call) 0) ≡ row_at t i ∷ []
  unfolding row_for row_lines fields_fit_lem
  for-call e =
      ap (λ y. record { kind = Call; operands = call_on y } ∷ []) (callee t ok (operands_at t i).n (callee_known t ok i l e))
      ∙ row_is t i e (operands-with _ (fits_in t ok i l e) refl)

  pub row-for : (k : Kind) → kind_at t i ≡ k → misplaced_in k (f ∷ fs) ≡ false → row_for (harden t) (line_of t i) (line_at (row_lines t i (f ∷ fs) k) 0) ≡ row_at t i ∷ []
  unfolding row_for row_lines misplaced_in
  row-for Function e p = clash refl p
  row-for Do e p = row_is t i e refl
  row-for If e p = for-if e (has_else t i) refl
  row-for Else e p = for-else e
  row-for Loop e p = for-loop e
  row-for End e p = for-end e f.part
  row-for Break e p = for-break e p
  row-for Continue e p = for-continue e p
  row-for Call e p = for-call e
  row-for Unknown e p = absurd (not-unknown t ok i l e)
