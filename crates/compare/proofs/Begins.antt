-- Two traces compared in parts. Assumes nothing.
use mathlib.Core.Path.{◌≡◌, refl, sym, ap, ◌∙◌}
use mathlib.Core.Bool.{Bool, true, false, ◌&&◌}
use mathlib.Core.List.{List, [], ◌∷◌, ◌++◌}
use Prim.Native.Nat.{ℕ, suc, ◌+◌, ◌-◌, ◌≤◌, ◌<◌}
use native.Mathlib.Omega.{arith}
use lib.Dec.{eqb, leb}
use lib.ListN.{length, take, drop, length-drop}
use lib.Pointwise.{pointwise}
use lib.Seq.{take-length, drop-drop}
use borrow.Author.Tests.{eq-eqb, ne_eqb, eqb-true, eqb-false, le-leb, leb-true}
use Rattle.rules.specs.Bytes.{same}
use Rattle.rules.proofs.Logic.{and_left, and_right}
use Rattle.compare.specs.Compared.{begins, goes_on_lem}

and_assoc : (a b c : Bool) → a && (b && c) ≡ (a && b) && c
and_assoc true b c = refl
and_assoc false b c = refl

and-false : (a : Bool) → a && false ≡ false
and-false true = refl
and-false false = refl

-- the same as one that begins with the first part and goes on with the second
pub same_parts : (x y r : List ℕ) → same (x ++ y) r ≡ begins x r && same y (drop (length x) r)
unfolding same begins
same_parts [] y r = refl
same_parts (a ∷ x) y [] = refl
same_parts (a ∷ x) y (b ∷ r) = ap (λ v. eqb a b && v) (same_parts x y r) ∙ and_assoc (eqb a b) (begins x r) (same y (drop (length x) r))

-- one that begins with it and is no longer
pub same_length : (x r : List ℕ) → same x r ≡ begins x r && eqb (length x) (length r)
unfolding same begins
same_length [] [] = refl
same_length [] (b ∷ r) = sym (ne_eqb 0 (suc (length r)) (λ e. omega arith))
same_length (a ∷ x) [] = refl
same_length (a ∷ x) (b ∷ r) = ap (λ v. eqb a b && v) (same_length x r ∙ ap (λ v. begins x r && v) (lengths (length x) (length r))) ∙ and_assoc (eqb a b) (begins x r) (eqb (suc (length x)) (suc (length r)))
  where
    lengths : (m n : ℕ) → eqb m n ≡ eqb (suc m) (suc n)
    lengths m n = by (eqb m n) refl
      where
        by : (v : Bool) → eqb m n ≡ v → v ≡ eqb (suc m) (suc n)
        by true e = sym (eq-eqb (suc m) (suc n) (ap suc (eqb-true m n e)))
        by false e = sym (ne_eqb (suc m) (suc n) (λ q. eqb-false m n e (omega arith)))

pub begins-fits : (x r : List ℕ) → begins x r ≡ true → length x ≤ length r
unfolding begins
begins-fits [] r e = omega arith
begins-fits (a ∷ x) [] e = absurd (let z : ◌≡◌ {A = ℕ} 0 1 = cc in omega arith)
begins-fits (a ∷ x) (b ∷ r) e = by (eqb a b) e (λ q. begins-fits x r q)
  where
    by : (v : Bool) → v && begins x r ≡ true → (begins x r ≡ true → length x ≤ length r) → suc (length x) ≤ suc (length r)
    by true q ih = omega (arith, ih q)
    by false q ih = absurd (let z : ◌≡◌ {A = ℕ} 0 1 = cc in omega arith)

pub begins-short : (x r : List ℕ) → length r < length x → begins x r ≡ false
begins-short x r h = by (begins x r) refl
  where
    by : (v : Bool) → begins x r ≡ v → v ≡ false
    by true e = absurd (let z : ⊥ = omega (arith, begins-fits x r e) in z)
    by false e = refl

-- ---- from row `at` of the known trace on, which is not past its end as long as all was the same
module _ (known : List ℕ) (at : ℕ) (ok : Bool) (within : ok ≡ true → at ≤ length known) (x : List ℕ) where
  -- what is known to go on with it holds it
  goes_by : (a : Bool) → ok ≡ a → (b : Bool) → begins x (drop at known) ≡ b → a && b ≡ a && goes_on_lem x known at
  goes_by false p b q = refl
  goes_by true p false q = sym (ap (λ v. leb (at + length x) (length known) && v) q ∙ and-false (leb (at + length x) (length known)))
  goes_by true p true q = sym (ap (λ v. v && begins x (drop at known)) (le-leb (at + length x) (length known) (omega (arith, within p, begins-fits x (drop at known) q, length-drop at known))) ∙ q)

  goes : ok && begins x (drop at known) ≡ ok && goes_on_lem x known at
  goes = goes_by ok refl (begins x (drop at known)) refl

  pub in_parts : (y : List ℕ) → ok && same (x ++ y) (drop at known) ≡ (ok && goes_on_lem x known at) && same y (drop (at + length x) known)
  in_parts y =
      ap (λ v. ok && v) (same_parts x y (drop at known)) ∙ and_assoc ok (begins x (drop at known)) (same y (drop (length x) (drop at known)))
      ∙ ap (λ v. v && same y (drop (length x) (drop at known))) goes ∙ ap (λ v. (ok && goes_on_lem x known at) && same y v) (drop-drop (length x) at known)

  pub to_the_end : ok && same x (drop at known) ≡ (ok && goes_on_lem x known at) && eqb (at + length x) (length known)
  to_the_end =
      ap (λ v. ok && v) (same_length x (drop at known)) ∙ and_assoc ok (begins x (drop at known)) (eqb (length x) (length (drop at known)))
      ∙ ap (λ v. v && eqb (length x) (length (drop at known))) goes ∙ lengths (ok && goes_on_lem x known at) refl
    where
      lengths : (v : Bool) → ok && goes_on_lem x known at ≡ v → v && eqb (length x) (length (drop at known)) ≡ v && eqb (at + length x) (length known)
      lengths false e = refl
      lengths true e = by (eqb (length x) (length (drop at known))) refl
        where
          low : at ≤ length known
          low = within (and_left ok (goes_on_lem x known at) e)

          by : (w : Bool) → eqb (length x) (length (drop at known)) ≡ w → w ≡ eqb (at + length x) (length known)
          by true q = sym (eq-eqb (at + length x) (length known) (omega (arith, low, eqb-true (length x) (length (drop at known)) q, length-drop at known)))
          by false q = sym (ne_eqb (at + length x) (length known) (λ r. eqb-false (length x) (length (drop at known)) q (omega (arith, low, length-drop at known))))

  pub still-within : ok && goes_on_lem x known at ≡ true → at + length x ≤ length known
  still-within e = leb-true (at + length x) (length known) (and_left (leb (at + length x) (length known)) (begins x (drop at known)) (and_right ok (goes_on_lem x known at) e))

-- ---- as the slice's own test has it
starts-begins : (x r : List ℕ) → pointwise eqb x (take (length x) r) ≡ begins x r
unfolding begins
starts-begins [] r = refl
starts-begins (a ∷ x) [] = refl
starts-begins (a ∷ x) (b ∷ r) = ap (λ v. eqb a b && v) (starts-begins x r)

-- a slice to the end
pub from_there : (tr : List ℕ) (at : ℕ) → take (length tr - at) (drop at tr) ≡ drop at tr
from_there tr at = ap (λ n. take n (drop at tr)) (sym (length-drop at tr)) ∙ take-length (drop at tr)

pub starts_on : (x known : List ℕ) (at : ℕ) → at ≤ length known → pointwise eqb x (take (length x) (take (length known - at) (drop at known))) ≡ goes_on_lem x known at
starts_on x known at h = ap (λ y. pointwise eqb x (take (length x) y)) (from_there known at) ∙ starts-begins x (drop at known) ∙ goes known at true (λ e. h) x
