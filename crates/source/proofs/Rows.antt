-- The rows that a run goes to are rows of the table, in a function. Assumes that the table is accepted.
use mathlib.Core.Logic.{◌⊎◌, inl, inr}
use mathlib.Core.Path.{◌≡◌, refl, ap, ◌∙◌, subst}
use mathlib.Core.Bool.{Bool, true, false, cond}
use mathlib.Core.List.{List, [], ◌∷◌}
use Prim.Native.Nat.{ℕ, suc, ◌≤◌, ◌<◌}
use native.Mathlib.Nat.{eq-or-lt_of_le}
use native.Mathlib.Omega.{arith}
use lib.ListN.{length}
use borrow.Author.Tests.{ltb-true}
use Rattle.rules.specs.declared.kind.Kind.{Kind}
use Rattle.rules.specs.declared.kind.Kind.TheVariants.{If, Else, End, Break, Continue, Call}
use Rattle.rules.specs.Verdict.{Accepted}
use Rattle.rules.specs.Row.{Table, table_of, kind_at, operands_at}
use Rattle.rules.specs.Scan.{Part, Open, pushes, closes, stays, shape_of, open_after_lem, regions, open_at, part_of, opener_of, around, from_loop, end_of, else_of, has_else, function_row}
use Rattle.rules.specs.Check.{is_outside, misplaced_in, verdict_of}
use Rattle.rules.specs.Links.{is_opening}
use Rattle.rules.specs.Source.{false_row}
use Rattle.rules.proofs.Logic.{clash}
use Rattle.rules.proofs.Scan.{open_next, opening-pushes}
use Rattle.rules.proofs.Value.{held}
use Rattle.rules.proofs.Accepted.{Proper, proper, table-length}
use Rattle.rules.proofs.Close.{end_is, closed_is, else_is}
use Rattle.rules.proofs.Function.{Formed, formed, is_body_lem, placed-in, callee_known, entry, some-function, function-zero}
use Rattle.layout.specs.Spot.{Inside}
use Rattle.layout.proofs.Around.{pushes-opening, outer, opened-by, not-outermost, loop-at}
use Rattle.layout.proofs.Parts.{then-within}

-- a part that is no body lies in another
within : (t : Table) (fs : List Open) → Formed t fs → is_body_lem (part_of fs) ≡ false → is_outside (around fs) ≡ false
within t [] g e = clash refl e
within t (f ∷ fs) g e = not-outermost t f fs g e

after-end : (i g : ℕ) (fs : List Open) → open_after_lem closes i g fs ≡ around fs
after-end i g [] = refl
after-end i g (f ∷ fs) = refl

module _ (bs : List ℕ) (a : verdict_of bs ≡ Accepted) where
  abbrev t : Table
  t = table_of bs

  ok : Proper t
  ok = proper bs a

  -- the table ends where nothing is open
  inside-at : (j : ℕ) → j ≤ length t → is_outside (open_at t j) ≡ false → Inside bs j
  unfolding ok
  inside-at j l w = by (eq-or-lt_of_le l)
    where
      by : (j ≡ length t) ⊎ (j < length t) → Inside bs j
      by (inl x) = clash (ap (λ y. is_outside (open_at t y)) x ∙ ap is_outside ok.closed) w
      by (inr x) = record { row = omega (arith, table-length bs); within = w }

  -- row 0 is a function's
  pub not_first : {j : ℕ} → Inside bs j → j ≡ 0 → ⊥
  unfolding open_at
  not_first {j} n e = clash refl (subst (λ k. is_outside (open_at t k) ≡ false) e n.within)

  pub first-inside : Inside bs 1
  first-inside =
      let m = entry t ok 0 (some-function t ok) in
      subst (Inside bs) (ap suc (function-zero t ok)) (record { row = omega (arith, m.within, table-length bs); within = ap is_outside m.open_is })

  module _ {i : ℕ} (n : Inside bs i) where
    in_table : i < length t
    in_table = omega (arith, n.row, table-length bs)

    formed-here : Formed t (open_at t i)
    formed-here = formed t ok i (omega (arith, in_table))

    -- ---- the next row
    pub stays-inside : (k : Kind) → kind_at t i ≡ k → shape_of k ≡ stays → Inside bs (suc i)
    stays-inside k e s =
        inside-at (suc i) in_table (ap is_outside (open_next t i e refl ∙ ap (λ x. open_after_lem x i (regions t i) (open_at t i)) s) ∙ n.within)

    pub pushes-inside : (k : Kind) (p : Part) → kind_at t i ≡ k → shape_of k ≡ pushes p → Inside bs (suc i)
    pushes-inside k p e s =
        inside-at (suc i) in_table (ap is_outside (open_next t i e refl ∙ ap (λ x. open_after_lem x i (regions t i) (open_at t i)) s))

    pub passes-inside : kind_at t i ≡ End → is_body_lem (part_of (open_at t i)) ≡ false → Inside bs (suc i)
    passes-inside e b =
        inside-at (suc i) in_table (ap is_outside (open_next t i e refl ∙ after-end i (regions t i) (open_at t i)) ∙ within t (open_at t i) formed-here b)

    -- ---- past the end of what this row opens; the else part of its if
    pub past-inside : is_opening (kind_at t i) ≡ true → Inside bs (suc (end_of t i))
    past-inside o =
        let s = opening-pushes (kind_at t i) o in
        let e = end_is t i s.0 ok in_table s.1 in
        inside-at (suc (end_of t i)) e.inside (ap is_outside (closed_is t i (end_of t i) e.ends).open_after ∙ n.within)

    pub false-inside : kind_at t i ≡ If → Inside bs (false_row t i)
    unfolding false_row
    false-inside e = by (has_else t i) refl
      where
        by : (b : Bool) → has_else t i ≡ b → Inside bs (cond b (suc (else_of t i)) (suc (end_of t i)))
        by true x = inside-at (suc (else_of t i)) (ltb-true (else_of t i) (length t) x) (ap is_outside (else_is t i in_table x).open_after)
        by false x = past-inside (ap is_opening e)

    -- ---- the row that opened the part that this row stands in, and past its end
    opener-inside : is_outside (around (open_at t i)) ≡ false → Inside bs (opener_of (open_at t i))
    opener-inside w =
        inside-at (opener_of (open_at t i)) (omega (arith, (opened-by t i (open_at t i) (held t i) n.within).0, in_table)) (ap is_outside (outer t i n.within) ∙ w)

    pub repeats-inside : is_body_lem (part_of (open_at t i)) ≡ false → Inside bs (opener_of (open_at t i))
    repeats-inside b = opener-inside (within t (open_at t i) formed-here b)

    -- ---- the row of a loop around this row
    loop-row : is_outside (from_loop (open_at t i)) ≡ false → Inside bs (opener_of (from_loop (open_at t i)))
    loop-row w =
        let l = loop-at t ok i (omega (arith, in_table)) w in
        inside-at (opener_of (from_loop (open_at t i))) (omega (arith, l.before, in_table)) (ap is_outside l.open_is ∙ l.within)

    pub continue-inside : kind_at t i ≡ Continue → Inside bs (opener_of (from_loop (open_at t i)))
    unfolding misplaced_in
    continue-inside e = loop-row (placed-in t ok i in_table e refl)

    -- ---- the row after that of the function that this row calls
    pub callee-inside : kind_at t i ≡ Call → Inside bs (suc (function_row t (operands_at t i).n))
    callee-inside e =
        let m = entry t ok (operands_at t i).n (callee_known t ok i in_table e) in
        record { row = omega (arith, m.within, table-length bs); within = ap is_outside m.open_is }

  pub else_inside : {i : ℕ} → Inside bs i → kind_at t i ≡ Else → Inside bs (suc (end_of t (opener_of (open_at t i))))
  else_inside {i} n e =
      past-inside (opener-inside n (then-within t (open_at t i) (formed-here n) (placed-in t ok i (in_table n) e refl)))
      (opened-by t i (open_at t i) (held t i) n.within).1

  pub break_inside : {i : ℕ} → Inside bs i → kind_at t i ≡ Break → Inside bs (suc (end_of t (opener_of (from_loop (open_at t i)))))
  unfolding misplaced_in
  break_inside {i} n e =
      let w = placed-in t ok i (in_table n) e refl in
      past-inside (loop-row n w) (pushes-opening (kind_at t (opener_of (from_loop (open_at t i)))) (loop-at t ok i (omega (arith, in_table n)) w).pushes_it)
