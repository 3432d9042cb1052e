-- A byte as a digit, by where it stands among the digits. Assumes nothing.
use Prim.Native.Nat.{ℕ, ◌-◌, ◌<◌}
use mathlib.Core.Path.{◌≡◌, refl}
use mathlib.Core.Bool.{Bool, true, false, cond, ◌&&◌, ◌||◌, false≢true}
use native.Mathlib.Omega.{arith}
use borrow.Author.Tests.{leb-true}
use lib.Dec.{leb}
use Rattle.std.specs.Prelude.{Some, None}
use Rattle.text.specs.Hex.{digit_of_lem, is_digit, digit_value}

-- ---- what a byte is that was read as a digit, or as none
small_by : (b : ℕ) (p q r s : Bool) → leb b 57 ≡ q → leb b 102 ≡ s → ((p && q) || (r && s)) ≡ true → cond q (b - 48) (b - 87) < 16
small_by b p true r s e k h = omega (arith, leb-true b 57 e)
small_by b p false r true e k h = omega (arith, leb-true b 102 k)
small_by b true false true false e k h = absurd (false≢true h)
small_by b true false false false e k h = absurd (false≢true h)
small_by b false false true false e k h = absurd (false≢true h)
small_by b false false false false e k h = absurd (false≢true h)

digit-small : (b : ℕ) → is_digit b ≡ true → digit_value b < 16
digit-small b h = small_by b (leb 48 b) (leb b 57) (leb 97 b) (leb b 102) refl refl h

pub value_of : (b v : ℕ) → Some v ≡ digit_of_lem b → (is_digit b ≡ true) × (v ≡ digit_value b)
unfolding digit_of_lem
value_of b v e = by (is_digit b) refl e
  where
    by : (t : Bool) → is_digit b ≡ t → Some v ≡ cond t (Some (digit_value b)) None → (is_digit b ≡ true) × (v ≡ digit_value b)
    by true q k = (q, cc)
    by false q k = absurd (let z : ◌≡◌ {A = ℕ} 0 1 = cc in omega arith)

pub other-of : (b : ℕ) → None ≡ digit_of_lem b → is_digit b ≡ false
unfolding digit_of_lem
other-of b e = by (is_digit b) refl e
  where
    by : (t : Bool) → is_digit b ≡ t → None ≡ cond t (Some (digit_value b)) None → is_digit b ≡ false
    by true q k = absurd (let z : ◌≡◌ {A = ℕ} 0 1 = cc in omega arith)
    by false q k = q

pub value-small : (b v : ℕ) → Some v ≡ digit_of_lem b → v < 16
value-small b v e = rw (value_of b v e).1 (digit-small b (value_of b v e).0)
