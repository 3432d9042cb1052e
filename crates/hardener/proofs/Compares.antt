-- Comparing bytes. Assumes nothing.
use mathlib.Core.Path.{◌≡◌, refl, sym, ap, ◌∙◌}
use mathlib.Core.Logic.{◌≢◌}
use mathlib.Core.Bool.{Bool, true, false, ◌&&◌}
use mathlib.Core.List.{List, [], ◌∷◌}
use Prim.Native.Nat.{ℕ, zero, suc, ◌+◌, ◌<◌}
use native.Mathlib.Nat.{not-suc-le-zero}
use native.Mathlib.Omega.{arith}
use lib.Dec.{eqb}
use lib.ListN.{length, get_or, take}
use lib.Seq.{take-length}
use Rattle.rules.specs.Bytes.{same}
use Rattle.rules.proofs.Encode.{same-is}

and_assoc : (a b c : Bool) → (a && b) && c ≡ a && (b && c)
and_assoc true b c = refl
and_assoc false b c = refl

and-true : (a : Bool) → a ≡ a && true
and-true true = refl
and-true false = refl

pub same_none : (xs ys : List ℕ) → true ≡ same (take 0 xs) (take 0 ys)
unfolding same
same_none xs ys = refl

same-suc : (xs ys : List ℕ) (k : ℕ) → k < length xs → k < length ys
    → same (take k xs) (take k ys) && eqb (get_or xs k 0) (get_or ys k 0) ≡ same (take (suc k) xs) (take (suc k) ys)
unfolding same
same-suc [] ys k h g = absurd (not-suc-le-zero h)
same-suc (x ∷ xs) [] k h g = absurd (not-suc-le-zero g)
same-suc (x ∷ xs) (y ∷ ys) zero h g = and-true (eqb x y)
same-suc (x ∷ xs) (y ∷ ys) (suc k) h g =
    and_assoc (eqb x y) (same (take k xs) (take k ys)) (eqb (get_or xs k 0) (get_or ys k 0))
    ∙ ap (λ b. eqb x y && b) (same-suc xs ys k (omega arith) (omega arith))

pub same_next : {so_far so-far' : Bool} (xs ys : List ℕ) {k : ℕ} → so_far ≡ same (take k xs) (take k ys) → k < length xs → length xs ≡ length ys
    → so-far' ≡ so_far && eqb (get_or xs k 0) (get_or ys k 0) → so-far' ≡ same (take (k + 1) xs) (take (k + 1) ys)
same_next xs ys {k} s h l e =
    let q : suc k ≡ k + 1 = omega arith in
    e ∙ ap (λ b. b && eqb (get_or xs k 0) (get_or ys k 0)) s ∙ same-suc xs ys k h (omega arith) ∙ ap (λ j. same (take j xs) (take j ys)) q

pub same-all : {so_far : Bool} (xs ys : List ℕ) {k : ℕ} → so_far ≡ same (take k xs) (take k ys) → k ≡ length xs → length xs ≡ length ys → so_far ≡ same xs ys
same-all xs ys {k} s h l =
    s ∙ ap (λ j. same (take j xs) (take j ys)) h ∙ ap (λ x. same x (take (length xs) ys)) (take-length xs)
    ∙ ap (λ j. same xs (take j ys)) l ∙ ap (same xs) (take-length ys)

pub not_same : (xs ys : List ℕ) → length xs ≢ length ys → false ≡ same xs ys
not_same xs ys n = by (same xs ys) refl
  where
    by : (b : Bool) → same xs ys ≡ b → false ≡ same xs ys
    by true e = absurd (n (ap length (same-is xs ys e)))
    by false e = sym e
