-- The most regions that a function has are what the running count over the rows comes to. Assumes that the table is accepted.
use mathlib.Core.Logic.{◌⊎◌, inl, inr}
use mathlib.Core.Path.{◌≡◌, refl, sym, ap, ◌∙◌, subst}
use mathlib.Core.Bool.{Bool, true, false}
use Prim.Native.Nat.{ℕ, zero, suc, ◌-◌, ◌≤◌, ◌<◌, max}
use native.Mathlib.Nat.{le_refl, eq-or-lt_of_le}
use native.Mathlib.Decide.{le_ind}
use native.Mathlib.Omega.{arith}
use lib.ListN.{length}
use Rattle.rules.specs.declared.sums.Sums.{Sums}
use Rattle.rules.specs.declared.kind.Kind.{Kind}
use Rattle.rules.specs.declared.kind.Kind.TheVariants.{Function}
use Rattle.rules.specs.Row.{Table, kind_at}
use Rattle.rules.specs.Scan.{shape_of, regions_after, regions, is_function_lem, functions, function_count, function_row, end_of}
use Rattle.rules.specs.Function.{function_at}
use Rattle.rules.specs.Harden.{harden}
use Rattle.rules.specs.Figures.{most_in, most_regions, opened_by, counted}
use Rattle.rules.proofs.Accepted.{Proper}
use Rattle.rules.proofs.Scan.{regions-mono, regions-next}
use Rattle.rules.proofs.Value.{Silent, a_function}
use Rattle.rules.proofs.Function.{function-at, function-zero, functions-mono, some-function, opens-function, not-silent, is-function, function-end, after_it, somewhere}
use Rattle.rules.proofs.Place.{lines_all, function-outside, functions-next, functions-home}
use Rattle.rules.proofs.FunctionLine.{row-of-function}
use Rattle.rules.proofs.Figures.Sums.{sums_at, sums-start, sums_next, after_more, opened-more}
use Rattle.rules.proofs.Figures.FunctionRegions.{own_regions, regions-in}

-- ---- the functions follow each other
module _ (t : Table) (ok : Proper t) (n : ℕ) (known : n < function_count t) where
  past_end : functions t (suc (end_of t (function_row t n))) ≡ suc n
  past_end =
      functions-next t (end_of t (function_row t n)) (function-end t ok n known).1.kind_is
      ∙ functions-home t ok n known (end_of t (function_row t n)) (after_it t ok n known) (le_refl _)

  next-opens : suc (end_of t (function_row t n)) < length t → kind_at t (suc (end_of t (function_row t n))) ≡ Function
  next-opens l = opens-function t ok (suc (end_of t (function_row t n))) l (function-end t ok n known).1.open_after

  next-function : suc n < function_count t → function_row t (suc n) ≡ suc (end_of t (function_row t n))
  next-function h = by (eq-or-lt_of_le (function-end t ok n known).1.within)
    where
      by : (suc (end_of t (function_row t n)) ≡ length t) ⊎ (suc (end_of t (function_row t n)) < length t)
          → function_row t (suc n) ≡ suc (end_of t (function_row t n))
      by (inl e) = absurd (omega (arith, ap (functions t) (sym e), past_end))
      by (inr l) = ap (function_row t) (sym past_end) ∙ row-of-function t (suc (end_of t (function_row t n))) l (next-opens l)

  last-function : function_count t ≡ suc n → length t ≡ suc (end_of t (function_row t n))
  last-function h = by (eq-or-lt_of_le (function-end t ok n known).1.within)
    where
      by : (suc (end_of t (function_row t n)) ≡ length t) ⊎ (suc (end_of t (function_row t n)) < length t)
          → length t ≡ suc (end_of t (function_row t n))
      by (inl e) = sym e
      by (inr l) = absurd (omega (arith, functions-mono t {i = suc (suc (end_of t (function_row t n)))} (length t) l, past_end, functions-next t (suc (end_of t (function_row t n))) (next-opens l)))

-- ---- the running count
-- the count s inside a function: before it the most was m and g regions were opened, now r are
record Running (m g r : ℕ) (s : Sums) : Type 0 where
  opened_is : s.opened ≡ r - g
  most_is : s.most ≡ max m (r - g)

running-next : (m g r x : ℕ) (k : Kind) (s : Sums) → g ≤ r → is_function_lem k ≡ false → x ≡ regions_after (shape_of k) r → Running m g r s → Running m g x (counted k s)
running-next m g r x k s h e q p =
    let o = opened-more k s.opened e in
    let w : opened_by k s.opened ≡ x - g = omega (arith, o, q, p.opened_is, after_more (shape_of k) r) in
    record { opened_is = w; most_is = omega (arith, w, p.most_is, q, after_more (shape_of k) r) }

module _ (t : Table) (ok : Proper t) (n : ℕ) (known : n < function_count t) where
  running-first : Running (sums_at t (function_row t n)).most (regions t (function_row t n)) (regions t (suc (function_row t n))) (sums_at t (suc (function_row t n)))
  running-first =
      let a = function-at t ok n known in
      let r : regions t (suc (function_row t n)) ≡ suc (regions t (function_row t n)) = regions-next t (function_row t n) a.kind_is in
      subst (Running (sums_at t (function_row t n)).most (regions t (function_row t n)) (regions t (suc (function_row t n))))
      (sym (sums_next t (function_row t n) ∙ ap (λ k. counted k (sums_at t (function_row t n))) a.kind_is))
      (record { opened_is = omega (arith, r); most_is = omega (arith, r) })

  no_function : (j : ℕ) → suc (function_row t n) ≤ j → j ≤ end_of t (function_row t n) → is_function_lem (kind_at t j) ≡ false
  no_function j h l = by (is_function_lem (kind_at t j)) refl
    where
      by : (b : Bool) → is_function_lem (kind_at t j) ≡ b → b ≡ false
      by true e =
          let m = (somewhere t ok n known j h l).in_function in
          absurd (not-silent t ok j m.within m.open_is (subst Silent (sym (is-function (kind_at t j) e)) a_function))
      by false e = refl

  running : (j : ℕ) → suc (function_row t n) ≤ j → j ≤ suc (end_of t (function_row t n))
      → Running (sums_at t (function_row t n)).most (regions t (function_row t n)) (regions t j) (sums_at t j)
  running j h =
      le_ind (λ x. x ≤ suc (end_of t (function_row t n)) → Running (sums_at t (function_row t n)).most (regions t (function_row t n)) (regions t x) (sums_at t x))
      (λ b. running-first)
      (λ x l ih b.
      subst (Running (sums_at t (function_row t n)).most (regions t (function_row t n)) (regions t (suc x))) (sym (sums_next t x))
      (running-next (sums_at t (function_row t n)).most (regions t (function_row t n)) (regions t x) (regions t (suc x)) (kind_at t x) (sums_at t x)
      (regions-mono t {i = function_row t n} x (omega arith)) (no_function x l (omega arith)) (regions-next t x refl) (ih (omega arith)))) j h

  -- past its end
  most-past : (sums_at t (suc (end_of t (function_row t n)))).most ≡ max (sums_at t (function_row t n)).most (own_regions t n)
  most-past =
      omega
      (arith, (running (suc (end_of t (function_row t n))) (omega (arith, after_it t ok n known)) (le_refl _)).most_is, regions-next t (end_of t (function_row t n)) (function-end t ok n known).1.kind_is)

-- ---- function by function
most-more : (t : Table) → Proper t → (n : ℕ) → n < function_count t → (sums_at t (function_row t n)).most ≡ most_in (harden t) n
    → (sums_at t (suc (end_of t (function_row t n)))).most ≡ most_in (harden t) (suc n)
unfolding most_in
most-more t ok n k e = omega (arith, most-past t ok n k, regions-in t ok n k, e)

most-before : (t : Table) → Proper t → (n : ℕ) → n < function_count t → (sums_at t (function_row t n)).most ≡ most_in (harden t) n
unfolding most_in
most-before t ok zero k = ap (λ o. (sums_at t o).most) (function-zero t ok) ∙ ap (λ s. s.most) (sums-start t)
most-before t ok (suc n) k =
    ap (λ o. (sums_at t o).most) (next-function t ok n (omega arith) k) ∙ most-more t ok n (omega arith) (most-before t ok n (omega arith))

most-all : (t : Table) → Proper t → (c : ℕ) → function_count t ≡ c → most_in (harden t) c ≡ (sums_at t (length t)).most
most-all t ok zero e = absurd (omega (arith, some-function t ok))
most-all t ok (suc n) e =
    let k : n < function_count t = omega arith in
    sym (most-more t ok n k (most-before t ok n k)) ∙ ap (λ o. (sums_at t o).most) (sym (last-function t ok n k e))

pub most-regions : (t : Table) → Proper t → most_regions (harden t) ≡ (sums_at t (length t)).most
most-regions t ok =
    ap (most_in (harden t)) (ap (function_at (harden t)) (lines_all t) ∙ function-outside t ok (length t) (le_refl _) ok.closed)
    ∙ most-all t ok (function_count t) refl
