-- What the pass over the lines has found when it comes to a line, and that one more line keeps it so. Assumes a hardened table.
use mathlib.Core.Logic.{◌⊎◌, inl, inr}
use mathlib.Core.Path.{◌≡◌, refl, sym, ap, ◌∙◌, subst}
use mathlib.Core.Bool.{Bool, true, false, cond}
use mathlib.Core.List.{List}
use Prim.Native.Nat.{ℕ, suc, ◌+◌, ◌≤◌, ◌<◌}
use native.Mathlib.Nat.{eq-or-lt_of_le}
use native.Mathlib.Omega.{arith}
use lib.Dec.{eqb}
use lib.ListN.{length, get_or, set, length-set}
use lib.Seq.{get_or-set_same, get_or-set_other}
use borrow.Author.Tests.{eq-eqb, ne_eqb}
use Rattle.rules.specs.Line.{Line, lines_in, line_at, is_ret}
use Rattle.rules.specs.Function.{function_at, start_of}
use Rattle.rules.proofs.Search.{first_is}
use Rattle.rules.proofs.Place.{function-at-next, function-at-mono}
use Rattle.line.specs.Read.{line_kind_at, struct_at, ends_function_lem}
use Rattle.machine.specs.Map.{Passed, passed, passed_of}
use Rattle.machine.specs.Stands.{Sound, Located}
use Rattle.line.proofs.Decode.{line_is, ends-ret}

pub record Surveyed (ls : List Line) (starts owners : List ℕ) (f k : ℕ) : Type 0 where
  pub function_is : f ≡ function_at ls k
  pub line_in : k ≤ length ls
  pub starts_are : (n : ℕ) → n ≤ f → get_or starts n 0 ≡ start_of ls n
  pub owners_are : (j : ℕ) → j < k → get_or owners j 0 ≡ function_at ls j
  pub starts_long : length starts ≡ 33
  pub owners_long : length owners ≡ 2049

-- the next line after a ret is the first of the next function
start-after : (ls : List Line) (k : ℕ) → k < length ls → function_at ls (suc k) ≡ suc (function_at ls k) → start_of ls (suc (function_at ls k)) ≡ suc k
unfolding start_of
start-after ls k l e =
    first_is (λ j. eqb (function_at ls j) (suc (function_at ls k))) (length ls) 0 (suc k) (omega arith) (omega arith) (λ b. eq-eqb _ _ e)
    (λ j a b. ne_eqb _ _ (lower j (function-at-mono ls {k = j} k (omega arith) (omega arith))))
  where
    lower : (j : ℕ) → function_at ls j ≤ function_at ls k → function_at ls j ≡ suc (function_at ls k) → ⊥
    lower j a b = omega arith

pub surveyed-start : (ls : List Line) → Sound ls → (starts owners : List ℕ) → length starts ≡ 33 → length owners ≡ 2049 → Surveyed ls (set starts 0 0) owners 0 0
unfolding function_at
surveyed-start ls so starts owners a b =
    record {
      function_is = refl;
      line_in = omega arith;
      starts_are = λ n h. subst (λ x. get_or (set starts 0 0) x 0 ≡ start_of ls x) (let e : 0 ≡ n = omega arith in e)
          (get_or-set_same starts 0 0 0 (omega arith) ∙ let e : 0 ≡ start_of ls 0 = omega (arith, so.first.not_before) in e);
      owners_are = λ j h. absurd (let z : ⊥ = omega arith in z);
      starts_long = simp length-set a;
      owners_long = b;
    }

module _ (ls : List Line) (so : Sound ls) (starts owners : List ℕ) (f k : ℕ) (l : k < length ls) (s : Surveyed ls starts owners f k) where
  pub function-few : f < 32
  function-few = omega (arith, s.function_is, so.known k l, so.within.few_functions)

  owned : (j : ℕ) → j < k + 1 → get_or (set owners k f) j 0 ≡ function_at ls j
  owned j h = by (eq-or-lt_of_le (let z : j ≤ k = omega arith in z))
    where
      by : (j ≡ k) ⊎ (j < k) → get_or (set owners k f) j 0 ≡ function_at ls j
      by (inl e) =
          subst (λ x. get_or (set owners k f) x 0 ≡ function_at ls x) (sym e)
          (get_or-set_same owners k f 0 (omega (arith, s.owners_long, so.within.few_lines)) ∙ s.function_is)
      by (inr q) = get_or-set_other owners k j f 0 (λ e. omega arith) ∙ s.owners_are j q

  started : function_at ls (suc k) ≡ suc (function_at ls k) → (n : ℕ) → n ≤ f + 1 → get_or (set starts (f + 1) (k + 1)) n 0 ≡ start_of ls n
  started r n h = by (eq-or-lt_of_le h)
    where
      by : (n ≡ f + 1) ⊎ (n < f + 1) → get_or (set starts (f + 1) (k + 1)) n 0 ≡ start_of ls n
      by (inl e) =
          let q : suc (function_at ls k) ≡ f + 1 = omega (arith, s.function_is) in
          subst (λ x. get_or (set starts (f + 1) (k + 1)) x 0 ≡ start_of ls x) (sym e)
          (get_or-set_same starts (f + 1) (k + 1) 0 (omega (arith, s.starts_long, function-few)) ∙ let z : k + 1 ≡ suc k = omega arith in z
          ∙ sym (start-after ls k l r) ∙ ap (start_of ls) q)
      by (inr q) = get_or-set_other starts (f + 1) n (k + 1) 0 (λ e. omega arith) ∙ s.starts_are n (omega arith)

  next-number : (b : Bool) → is_ret (line_at ls k) ≡ b → function_at ls (suc k) ≡ function_at ls k + cond b 1 0
  next-number b e = function-at-next ls k l ∙ ap (λ x. function_at ls k + cond x 1 0) e

  pub next-by : (b : Bool) → is_ret (line_at ls k) ≡ b → (x : Passed) → x ≡ cond b (passed (f + 1) (set starts (f + 1) (k + 1))) (passed f starts)
      → Surveyed ls x.starts (set owners k f) x.function (k + 1)
  next-by true e x q =
      let r = next-number true e in
      subst (λ y. Surveyed ls y.starts (set owners k f) y.function (k + 1)) (sym q)
      (record {
        function_is = let z : f + 1 ≡ function_at ls (suc k) = omega (arith, s.function_is, r) in z ∙ ap (function_at ls) (let i : suc k ≡ k + 1 = omega arith in i);
        line_in = omega arith;
        starts_are = started (omega (arith, r));
        owners_are = owned;
        starts_long = simp length-set s.starts_long;
        owners_long = simp length-set s.owners_long;
      })
  next-by false e x q =
      let r = next-number false e in
      subst (λ y. Surveyed ls y.starts (set owners k f) y.function (k + 1)) (sym q)
      (record {
        function_is = let z : f ≡ function_at ls (suc k) = omega (arith, s.function_is, r) in z ∙ ap (function_at ls) (let i : suc k ≡ k + 1 = omega arith in i);
        line_in = omega arith;
        starts_are = s.starts_are;
        owners_are = owned;
        starts_long = s.starts_long;
        owners_long = simp length-set s.owners_long;
      })

-- line k is passed
pub surveyed-next : (bs : List ℕ) → Sound (lines_in bs) → (starts owners : List ℕ) (f k : ℕ) → k < length (lines_in bs) → Surveyed (lines_in bs) starts owners f k
    → (g : ℕ) (ss : List ℕ) → passed g ss ≡ passed_of (line_kind_at bs k) k f starts → Surveyed (lines_in bs) ss (set owners k f) g (k + 1)
unfolding passed_of
surveyed-next bs so starts owners f k l s g ss e =
    next-by (lines_in bs) so starts owners f k l s (ends_function_lem (line_kind_at bs k)) (ap is_ret (line_is bs k l) ∙ ends-ret (line_kind_at bs k) (struct_at bs k)) (passed g ss) e

pub located : (ls : List Line) (starts owners : List ℕ) (f k : ℕ) → Surveyed ls starts owners f k → length ls ≤ k → Located ls starts owners
located ls starts owners f k s h =
    let e : k ≡ length ls = omega (arith, s.line_in) in
    record {
      start_is = λ n l. s.starts_are n (let z : function_at ls (length ls) ≡ f = ap (function_at ls) (sym e) ∙ sym s.function_is in omega arith);
      owner_is = λ j l. s.owners_are j (omega arith);
    }
