-- What each line of a row may hold: its regions, its values, its next line and its go keep within the bounds.
-- Assumes that the table is accepted.
use mathlib.Core.Path.{◌≡◌, refl, sym, ap, ◌∙◌, subst}
use mathlib.Core.Bool.{Bool, true, false}
use mathlib.Core.List.{List, [], ◌∷◌}
use Prim.Native.Nat.{ℕ, suc, ◌+◌, ◌≤◌, ◌<◌}
use native.Mathlib.Nat.{le_refl, add-zero}
use native.Mathlib.Omega.{arith}
use lib.ListN.{length}
use borrow.Author.Tests.{ltb-true}
use Rattle.rules.specs.declared.kind.Kind.{Kind}
use Rattle.rules.specs.declared.kind.Kind.TheVariants.{End, Call}
use Rattle.rules.specs.Limits.{max_regions}
use Rattle.rules.specs.Row.{Table, kind_at, operands_at}
use Rattle.rules.specs.Scan.{Part, body, then_part, else_part, loop_body, Open, pushes, shape_of, regions, open_at, opener_of, region_of, around, from_loop, local, is_end_lem, end_of, else_of, has_else, function_count, function_row}
use Rattle.rules.specs.Value.{past, value, value_in}
use Rattle.rules.specs.Line.{out_line}
use Rattle.rules.specs.Harden.{line_count, line_of, own_region, test_of, opener_value, leave_of, out_of, end_line, end_value, call_of, back_of, harden}
use Rattle.rules.specs.Function.{start_of}
use Rattle.rules.specs.Bounds.{Word, VariablesIn, LineIn, Fits}
use Rattle.rules.proofs.Logic.{clash}
use Rattle.rules.proofs.Accepted.{Proper}
use Rattle.rules.proofs.Scan.{Chain, chain, open_next, origin}
use Rattle.rules.proofs.Value.{Held, AllHeld, held}
use Rattle.rules.proofs.Close.{end_is, closed_is, Turned, else_is}
use Rattle.rules.proofs.Harden.{line-suc}
use Rattle.rules.proofs.Function.{is_body_lem, home, FunctionAt, function-at, InFunction, move-to, entry, formed-here, function-end, end_same, callee_known}
use Rattle.rules.proofs.Place.{start_is, finish-is, callee}
use Rattle.rules.proofs.ValueBound.{regions-bound}
use Rattle.rules.proofs.Words.{word_of, word-base, word_at, region-in}
use Rattle.rules.proofs.RegionBound.{own-bound, around-below, around-bound, opened-bound, else-bound, local-bound, LoopAround}
use Rattle.rules.proofs.FunctionLine.{line_in, first-in, next_in}

end-word : (t : Table) → Proper t → (n : ℕ) → n < function_count t → Word (end_value t n)
unfolding end_value
end-word t ok n l =
    let a = function-at t ok n l in
    let e = function-end t ok n l in
    omega
    (arith, word_of t ok (regions t (function_row t n)) (end_of t (function_row t n)) (omega (arith, regions-bound t (function_row t n), a.within)) (omega (arith, e.1.within)))

-- ---- row i of function n, where the parts f ∷ fs are open
module _ (t : Table) (ok : Proper t) (n i : ℕ) (f : Open) (fs : List Open) (m : InFunction t n i f fs) where
  in_rows : i ≤ length t
  in_rows = omega (arith, m.within)

  all_held : AllHeld t i (f ∷ fs)
  all_held = subst (AllHeld t i) m.open_is (held t i)

  around-low : region_of fs ≤ length t
  around-low = omega (arith, around-below f fs (regions t i) (subst (Chain (regions t i)) m.open_is (chain t i)), region-in t m)

  pub own-region : own_region (f ∷ fs) < max_regions
  own-region = own-bound t ok i in_rows m.open_is

  pub own_value : value_in t i (f ∷ fs) + 2 < 65536
  own_value = omega (arith, word_at t ok m)

  opener-value : opener_value t (f ∷ fs) + 2 < 65536
  opener-value = omega (arith, word_of t ok (region_of fs) f.opener around-low (omega (arith, all_held.0.before, m.within)))

  -- the lines that follow
  pub line-two : (k : Kind) → kind_at t i ≡ k → 1 < line_count k → LineIn (harden t) n (suc (line_of t i + 0))
  line-two k e l = subst (LineIn (harden t) n) (omega arith) (line_in t ok m 1 (omega (arith, ap line_count e)))

  pub line_after : (k : Kind) (ph : ℕ) → kind_at t i ≡ k → is_end_lem k ≡ false → line_count k ≡ suc ph → LineIn (harden t) n (suc (line_of t i + ph))
  line_after k ph e h c = subst (LineIn (harden t) n) (omega (arith, line-suc t i e)) (next_in t ok m (λ x. clash (ap is_end_lem (sym e ∙ x)) h))

  -- the row after the end of what row o of the function opens
  past_end : (o : ℕ) (p : Part) (h : Open) (hs : List Open) → o < length t → shape_of (kind_at t o) ≡ pushes p → open_at t o ≡ h ∷ hs
      → home (h ∷ hs) ≡ home (f ∷ fs) → LineIn (harden t) n (line_of t (suc (end_of t o)))
  past_end o p h hs l s q e =
      let a = end_is t o p ok l s in
      first-in t ok (move-to t ok m (suc (end_of t o)) a.inside ((closed_is t o (end_of t o) a.ends).open_after ∙ q) e)

  -- ---- a leave and an out
  leave_fits : (k d go : ℕ) → d ≤ 2 → LineIn (harden t) n go → Fits (harden t) n k (leave_of t i (f ∷ fs) d go)
  leave_fits k d go l a = (
    own-region,
    around-bound t ok i in_rows m.open_is,
    omega (arith, own_value),
    omega (arith, opener-value),
    omega (arith, opener-value),
    a,
  )

  out-fits : LoopAround t i f fs → (k d go : ℕ) → d ≤ 2 → LineIn (harden t) n go → Fits (harden t) n k (out_of t i (f ∷ fs) d go)
  out-fits l k d go h a =
      subst
      (λ x. Fits (harden t) n k (out_line (own_region (f ∷ fs)) (local (f ∷ fs) (region_of (around x))) (local (f ∷ fs) (region_of x)) (value_in t i (f ∷ fs)) (opener_value t x + d) go))
      (sym l.from_it) (
        own-region,
        local-bound t ok i in_rows m.open_is l.next.region (omega (arith, l.next_below, l.not_above, c)),
        omega (arith, l.not_above),
        omega (arith, own_value),
        omega (arith, w),
        a,
      )
    where
      c : f.region < regions t i
      c = (subst (Chain (regions t i)) m.open_is (chain t i)).0

      w : value t l.next.region l.it.opener + 2 < 65536
      w = omega
          (arith, word_of t ok l.next.region l.it.opener (omega (arith, l.next_below, l.not_above, region-in t m)) (omega (arith, l.holds.before, in_rows)))

  -- ---- rows that test
  pub test_fits : (b : Bool) (p : Part) (k : Kind) → kind_at t i ≡ k → is_end_lem k ≡ false → line_count k ≡ 1 → shape_of k ≡ pushes p → (b ≡ true → has_else t i ≡ true)
      → VariablesIn (operands_at t i) → Fits (harden t) n (line_of t i + 0) (test_of t i (f ∷ fs) b)
  unfolding test_of
  test_fits true p k e h c s u v = (
    v,
    own-region,
    opened-bound t ok i m.within e s m.open_is,
    else-bound t ok i m.within (u refl) m.open_is,
    omega (arith, own_value),
    omega (arith, own_value),
    word-base t ok i in_rows,
    word-base t ok (else_of t i) (omega (arith, l)),
    line_after k 0 e h c,
    first-in t ok (move-to t ok m (suc (else_of t i)) l (a.open_after ∙ ap (λ x. record { part = a.part; opener = i; region = regions t (else_of t i) } ∷ x) m.open_is) refl),
  )
    where
      a : Turned t i (else_of t i)
      a = else_is t i m.within (u refl)

      l : else_of t i < length t
      l = ltb-true (else_of t i) (length t) (u refl)
  test_fits false p k e h c s u v = (
    v,
    own-region,
    opened-bound t ok i m.within e s m.open_is,
    own-region,
    omega (arith, own_value),
    omega (arith, own_value),
    word-base t ok i in_rows,
    omega (arith, own_value),
    line_after k 0 e h c,
    past_end i p f fs m.within (ap shape_of e ∙ s) m.open_is refl,
  )

  -- ---- rows that call
  pub call_fits : kind_at t i ≡ Call → Fits (harden t) n (line_of t i + 0) (call_of t i (f ∷ fs) (operands_at t i).n)
  call_fits e = (
    own-region,
    omega (arith, own_value),
    omega (arith, own_value),
    word-base t ok (function_row t c) (omega (arith, a.within)),
    subst (λ x. LineIn (harden t) x (line_of t (suc (function_row t c)))) (sym (callee t ok c l)) (first-in t ok (entry t ok c l)),
    ap (start_of (harden t)) (callee t ok c l) ∙ start_is t ok c l ∙ sym (line-suc t (function_row t c) a.kind_is ∙ add-zero _),
    line-two Call e (omega arith),
  )
    where
      c : ℕ
      c = (operands_at t i).n

      l : (operands_at t i).n < function_count t
      l = callee_known t ok i m.within e

      a : FunctionAt t (operands_at t i).n (function_row t (operands_at t i).n)
      a = function-at t ok (operands_at t i).n l

  pub back_fits : kind_at t i ≡ Call → Fits (harden t) n (line_of t i + 1) (back_of t i (f ∷ fs) (operands_at t i).n)
  back_fits e = (
    own-region,
    omega (arith, own_value),
    omega (arith, own_value),
    end-word t ok (operands_at t i).n (callee_known t ok i m.within e),
    line_after Call 1 e refl refl,
  )

-- ---- the end of a function
pub ret-fits : (t : Table) (ok : Proper t) (n i : ℕ) (f : Open) (m : InFunction t n i f []) → kind_at t i ≡ End
    → Fits (harden t) n (line_of t i + 0) (end_line t i (f ∷ []) f.part)
ret-fits t ok n i f m e = subst (λ p. Fits (harden t) n (line_of t i + 0) (end_line t i (f ∷ []) p)) (sym (formed-here t ok m).0) (
  omega (arith, own_value t ok n i f [] m),
  omega (arith, own_value t ok n i f [] m),
  finish-is t ok n m.known ∙ ap (λ x. line_of t (suc x)) (sym (end_same t ok m e)) ∙ omega (arith, line-suc t i e),
)

-- ---- row i closes a part that has others around it
module _ (t : Table) (ok : Proper t) (n i : ℕ) (f h : Open) (hs : List Open) (m : InFunction t n i f (h ∷ hs)) where
  opener_is : Held t i f (h ∷ hs)
  opener_is = (all_held t ok n i f (h ∷ hs) m).0

  after-end : kind_at t i ≡ End → LineIn (harden t) n (line_of t (suc i))
  after-end e = first-in t ok (move-to t ok m (suc i) m.within (open_next t i e m.open_is) refl)

  pub end_fits : kind_at t i ≡ End → (p : Part) → is_body_lem p ≡ false → Fits (harden t) n (line_of t i + 0) (end_line t i (f ∷ h ∷ hs) p)
  end_fits e body b = clash refl b
  end_fits e then_part b = leave_fits t ok n i f (h ∷ hs) m (line_of t i + 0) past (line_of t (suc i)) (le_refl _) (after-end e)
  end_fits e else_part b = leave_fits t ok n i f (h ∷ hs) m (line_of t i + 0) past (line_of t (suc i)) (le_refl _) (after-end e)
  end_fits e loop_body b =
      leave_fits t ok n i f (h ∷ hs) m (line_of t i + 0) 0 (line_of t f.opener) (omega arith)
      (first-in t ok (move-to t ok m f.opener (omega (arith, opener_is.before, m.within)) opener_is.outer refl))

  pub else-fits : Fits (harden t) n (line_of t i + 0) (leave_of t i (f ∷ h ∷ hs) past (line_of t (suc (end_of t f.opener))))
  else-fits =
      leave_fits t ok n i f (h ∷ hs) m (line_of t i + 0) past (line_of t (suc (end_of t f.opener))) (le_refl _)
      (past_end t ok n i f (h ∷ hs) m f.opener (origin f.part) h hs (omega (arith, opener_is.before, m.within)) opener_is.by opener_is.outer refl)

-- ---- breaks and continues
module _ (t : Table) (ok : Proper t) (n i : ℕ) (f : Open) (fs : List Open) (m : InFunction t n i f fs) (l : LoopAround t i f fs) where
  pub break-fits : Fits (harden t) n (line_of t i + 0) (out_of t i (f ∷ fs) past (line_of t (suc (end_of t (opener_of (from_loop (f ∷ fs)))))))
  break-fits =
      out-fits t ok n i f fs m l (line_of t i + 0) past (line_of t (suc (end_of t (opener_of (from_loop (f ∷ fs)))))) (le_refl _)
      (subst (λ x. LineIn (harden t) n (line_of t (suc (end_of t (opener_of x))))) (sym l.from_it)
      (past_end t ok n i f fs m l.it.opener (origin l.it.part) l.next l.others (omega (arith, l.holds.before, m.within)) l.holds.by l.holds.outer l.same_home))

  pub continue-fits : Fits (harden t) n (line_of t i + 0) (out_of t i (f ∷ fs) 0 (line_of t (opener_of (from_loop (f ∷ fs)))))
  continue-fits =
      out-fits t ok n i f fs m l (line_of t i + 0) 0 (line_of t (opener_of (from_loop (f ∷ fs)))) (omega arith)
      (subst (λ x. LineIn (harden t) n (line_of t (opener_of x))) (sym l.from_it)
      (first-in t ok (move-to t ok m l.it.opener (omega (arith, l.holds.before, m.within)) l.holds.outer l.same_home)))
