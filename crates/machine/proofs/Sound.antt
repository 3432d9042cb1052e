-- What the machine runs is sound: told of every accepted table, and so of all bytes that are a hardened table. Assumes nothing.
use mathlib.Core.Path.{◌≡◌, refl, sym, ap, ◌∙◌, subst}
use mathlib.Core.Bool.{Bool, true, false, cond}
use mathlib.Core.List.{List}
use Prim.Native.Nat.{ℕ, zero, suc, ◌-◌, ◌<◌}
use native.Mathlib.Nat.{le_refl, not-suc-le-zero}
use native.Mathlib.Omega.{arith}
use lib.Dec.{eqb}
use lib.ListN.{length}
use borrow.Author.Tests.{eqb-true}
use Rattle.rules.specs.Bytes.{AreBytes}
use Rattle.rules.specs.Row.{Table, table_of}
use Rattle.rules.specs.Scan.{function_count, function_row, end_of}
use Rattle.rules.specs.Line.{Line, lines_in, line_at, is_ret}
use Rattle.rules.specs.Harden.{harden}
use Rattle.rules.specs.Function.{function_at, start_of, finish_of, a_of_ret, ret_value}
use Rattle.rules.specs.Bounds.{Within}
use Rattle.rules.specs.ReadBack.{is_hardened_lem}
use Rattle.rules.proofs.Search.{Found, hit, miss, found, first-now}
use Rattle.rules.proofs.Accepted.{Proper, proper}
use Rattle.rules.proofs.Harden.{line-mono}
use Rattle.rules.proofs.Function.{some-function, function-end}
use Rattle.rules.proofs.Place.{function-at-next, function-outside, lines_all, finish-is, start-finish, line-of}
use Rattle.rules.proofs.FunctionLine.{line-number, placed}
use Rattle.rules.proofs.Bounds.{bounds}
use Rattle.rules.proofs.Reading.{lines_of, recognises}
use Rattle.line.specs.declared.Line as Declared
use Rattle.line.specs.declared.kind.LineKind.{LineKind}
use Rattle.line.specs.declared.kind.LineKind.TheVariants.{Do, Tick, Test, Leave, Out, Call, Back, Ret}
use Rattle.line.specs.Read.{line_kind_at, struct_at, as_line}
use Rattle.machine.specs.Stands.{Inside, Sound}
use Rattle.line.proofs.Decode.{line_is}

-- ---- an accepted table
start-zero : (ls : List Line) → 0 < length ls → start_of ls 0 ≡ 0
unfolding start_of function_at
start-zero ls h = first-now (λ k. eqb (function_at ls k) 0) (length ls) 0 h refl

module _ (t : Table) (ok : Proper t) (w : Within (harden t)) where
  count_is : function_at (harden t) (length (harden t)) ≡ function_count t
  count_is = ap (function_at (harden t)) (lines_all t) ∙ function-outside t ok (length t) (le_refl _) ok.closed

  counted : {n : ℕ} → n < function_at (harden t) (length (harden t)) → n < function_count t
  counted h = omega (arith, count_is)

  sound-table : Sound (harden t)
  sound-table =
      record {
        within = w;
        first =
            record {
              known = omega (arith, count_is, some-function t ok);
              not_before = omega (arith, start-zero (harden t) w.some_line);
              not_after = omega arith;
            };
        known = λ k l. let a = placed t ok k l in omega (arith, a.counted, count_is, a.line.in_function.known);
        numbered =
            λ f k i l.
            let a = line-of t ok f k (counted i.known) i.not_before l in
            ap (function_at (harden t)) a.is ∙ line-number t ok a.in_function a.ph a.ph_lt;
        ordered = λ f l. start-finish t ok f (counted l);
        finish_in =
            λ f l.
            omega
            (arith, finish-is t ok f (counted l), lines_all t, line-mono t {i = suc (end_of t (function_row t f))} (length t) (function-end t ok f (counted l)).1.within);
      }

-- ---- bytes that are a hardened table
pub sound : (bs : List ℕ) → AreBytes bs → is_hardened_lem bs ≡ true → Sound (lines_in bs)
sound bs w h =
    let g = (recognises bs w).0 h in
    subst Sound (sym (lines_of g.rows) ∙ ap lines_in g.hardens)
    (sound-table (table_of g.rows) (proper g.rows g.accepted) (bounds g.rows g.are_bytes g.accepted))

-- ---- the last line of function 0 is a ret
module _ (ls : List Line) (so : Sound ls) where
  pub some-place : 0 < finish_of ls 0
  unfolding function_at
  some-place = (so.within.each_inside 0 so.within.some_line).not_after

  reached : 0 < function_at ls (finish_of ls 0)
  unfolding start_of
  reached = by (finish_of ls 0) (found (λ k. eqb (function_at ls k) 1) (length ls) 0)
    where
      by : (r : ℕ) → Found (λ k. eqb (function_at ls k) 1) (length ls) 0 r → 0 < function_at ls r
      by r (hit e a b f) = omega (arith, eqb-true (function_at ls r) 1 e)
      by r (miss q f) = subst (λ x. 0 < function_at ls x) (let e : length ls ≡ r = omega arith in e) so.first.known

  last-ret : is_ret (line_at ls (finish_of ls 0 - 1)) ≡ true
  last-ret = by (finish_of ls 0) refl
    where
      ret-by : (b : Bool) → 0 < cond b 1 0 → b ≡ true
      ret-by true h = refl
      ret-by false h = absurd (not-suc-le-zero h)

      by : (r : ℕ) → finish_of ls 0 ≡ r → is_ret (line_at ls (r - 1)) ≡ true
      by zero e = absurd (let z : ⊥ = omega (arith, some-place) in z)
      by (suc k) e =
          let l : k < length ls = omega (arith, so.finish_in 0 so.first.known) in
          let i : Inside ls 0 k = record { known = so.first.known; not_before = omega (arith, so.first.not_before); not_after = omega arith } in
          let n = so.numbered 0 k i (omega arith) in
          let q : suc k - 1 ≡ k = omega arith in
          subst (λ x. is_ret (line_at ls x) ≡ true) (sym q)
          (ret-by (is_ret (line_at ls k)) (omega (arith, n, function-at-next ls k l, subst (λ x. 0 < function_at ls x) e reached)))

-- so that its a is the word that the fields have
ret_a : (kd : LineKind) (l : Declared.Line) → is_ret (as_line kd l) ≡ true → l.a ≡ a_of_ret (as_line kd l)
ret_a Do l e = cc
ret_a Tick l e = cc
ret_a Test l e = cc
ret_a Leave l e = cc
ret_a Out l e = cc
ret_a Call l e = cc
ret_a Back l e = cc
ret_a Ret l e = refl

pub home-in : (bs : List ℕ) → Sound (lines_in bs) → finish_of (lines_in bs) 0 - 1 < length (lines_in bs)
home-in bs so = omega (arith, some-place (lines_in bs) so, so.finish_in 0 so.first.known)

pub home_is : (bs : List ℕ) → Sound (lines_in bs) → (struct_at bs (finish_of (lines_in bs) 0 - 1)).a ≡ ret_value (lines_in bs) 0
home_is bs so =
    let k = finish_of (lines_in bs) 0 - 1 in
    let e = line_is bs k (home-in bs so) in
    ret_a (line_kind_at bs k) (struct_at bs k) (subst (λ x. is_ret x ≡ true) e (last-ret (lines_in bs) so)) ∙ ap a_of_ret (sym e)
