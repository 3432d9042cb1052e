-- A table's listing is readable, and its bytes are the table. Assumes nothing.
use Prim.Native.Nat.{ℕ, zero, suc, ◌+◌, ◌*◌, ◌/◌, ◌%◌, ◌≤◌, ◌<◌}
use mathlib.Core.Path.{◌≡◌, refl}
use mathlib.Core.Bool.{Bool, true, false, cond, ◌&&◌, false≢true}
use mathlib.Core.List.{List, [], ◌∷◌, ◌++◌, append-nil, append_assoc}
use native.Mathlib.Nat.{mul-suc, mul-zero, div-eq_of_eq-mul_right}
use native.Mathlib.Omega.{arith}
use borrow.Author.Tests.{eq-eqb, ne_eqb, le-leb, lt-leb, ltb-true, ltb-false}
use lib.Dec.{eqb, ltb}
use lib.ListN.{length, take, drop, get_or, length-drop, take-append-drop}
use lib.Seq.{length-take-le, get_or-take, get_or-drop}
use Rattle.text.specs.Hex.{is_digit, digit_value, digit, newline, hex, all_digits, spelt, split_lines, all_fit, all_spelt}
use Rattle.text.specs.Listing.{group_lines, ReadsBack}
use Rattle.text.proofs.Putting.{hex-length}

-- ---- one digit
digit-is : (v : ℕ) → v < 16 → is_digit (digit v) ≡ true
digit-is v h = by (ltb v 10) refl
  where
    by : (t : Bool) → ltb v 10 ≡ t → is_digit (cond t (48 + v) (87 + v)) ≡ true
    by true e = let k : v < 10 = ltb-true v 10 e in rw (le-leb 48 (48 + v) (omega arith), le-leb (48 + v) 57 (omega arith))
    by false e =
        let k : 10 ≤ v = ltb-false v 10 e in
        rw (le-leb 48 (87 + v) (omega arith), lt-leb (87 + v) 57 (omega arith), le-leb 97 (87 + v) (omega arith), le-leb (87 + v) 102 (omega arith))

digit-back : (v : ℕ) → v < 16 → digit_value (digit v) ≡ v
digit-back v h = by (ltb v 10) refl
  where
    by : (t : Bool) → ltb v 10 ≡ t → digit_value (cond t (48 + v) (87 + v)) ≡ v
    by true e = let k : v < 10 = ltb-true v 10 e in rw (le-leb (48 + v) 57 (omega arith)) (omega arith)
    by false e = let k : 10 ≤ v = ltb-false v 10 e in rw (lt-leb (87 + v) 57 (omega arith)) (omega arith)

digit-no-newline : (b : ℕ) → is_digit b ≡ true → eqb b newline ≡ false
digit-no-newline b h = ne_eqb b newline (λ e. false≢true (rw e at h))

-- ---- one line
abbrev pub Bytes : List ℕ → Type 0
Bytes t = (i : ℕ) → i < length t → get_or t i 0 < 256

hex-digits : (xs : List ℕ) → Bytes xs → all_digits (hex xs) ≡ true
unfolding hex all_digits
hex-digits [] h = refl
hex-digits (x ∷ xs) h =
    let small : x < 256 = h 0 (omega arith) in
    rw (digit-is (x / 16) (omega arith), digit-is (x % 16) (omega arith)) (hex-digits xs (λ i k. h (suc i) (omega arith)))

hex-spells : (xs : List ℕ) → Bytes xs → spelt (hex xs) ≡ xs
unfolding hex spelt
hex-spells [] h = refl
hex-spells (x ∷ xs) h =
    let small : x < 256 = h 0 (omega arith) in
    let whole : 16 * (x / 16) + x % 16 ≡ x = omega arith in
    rw (digit-back (x / 16) (omega arith), digit-back (x % 16) (omega arith), whole, hex-spells xs (λ i k. h (suc i) (omega arith)))

both_left : (a b : Bool) → (a && b) ≡ true → a ≡ true
both_left true b h = refl
both_left false b h = h

both_right : (a b : Bool) → (a && b) ≡ true → b ≡ true
both_right true b h = h
both_right false b h = absurd (false≢true h)

split-line : (line begun rest : List ℕ) → all_digits line ≡ true
    → split_lines begun (line ++ (newline ∷ rest)) ≡ (begun ++ line) ∷ split_lines [] rest
unfolding split_lines all_digits
split-line [] begun rest h = rw append-nil
split-line (b ∷ line) begun rest h =
    rw (
      digit-no-newline b (both_left (is_digit b) (all_digits line) h),
      split-line line (begun ++ (b ∷ [])) rest (both_right (is_digit b) (all_digits line) h),
      append_assoc,
    )

-- ---- the lines of so many groups
record Back (w : ℕ) (text t : List ℕ) : Type 0 where
  fit : all_fit (2 * w) (split_lines [] text) ≡ true
  spell : all_spelt (split_lines [] text) ≡ t

groups-back : (n w : ℕ) (t : List ℕ) → length t ≡ w * n → Bytes t → Back w (group_lines n w t) t
unfolding group_lines split_lines all_fit all_spelt
groups-back zero w [] h b = record { fit = refl; spell = refl }
groups-back zero w (x ∷ t) h b = absurd (omega (arith, mul-zero w))
groups-back (suc n) w t h b =
    let enough : w ≤ length t = omega (arith, mul-suc w n) in
    let first : Bytes (take w t) =
    λ i k. rw (get_or-take w t i 0 (omega (arith, length-take-le w t enough))) (b i (omega (arith, length-take-le w t enough))) in
    let rest : Back w (group_lines n w (drop w t)) (drop w t) =
    groups-back n w (drop w t) (simp length-drop (omega (arith, mul-suc w n)))
    (λ i k. rw get_or-drop (b (w + i) (omega (arith, length-drop w t)))) in
    let lines : split_lines [] (group_lines (suc n) w t) ≡ hex (take w t) ∷ split_lines [] (group_lines n w (drop w t)) =
    split-line (hex (take w t)) [] (group_lines n w (drop w t)) (hex-digits (take w t) first) in
    record {
      fit = rw (lines, hex-length, length-take-le w t enough, eq-eqb (2 * w) (2 * w) refl, hex-digits (take w t) first) rest.fit;
      spell = rw (lines, hex-spells (take w t) first, rest.spell) (take-append-drop w t);
    }

pub listing-back : (w n : ℕ) (table : List ℕ) → 0 < w → length table ≡ w * n → Bytes table → ReadsBack w table
listing-back w n table some whole b =
    let back : Back w (group_lines n w table) table = groups-back n w table whole b in
    let count : length table / w ≡ n = div-eq_of_eq-mul_right some whole in
    record { readable_is = rw count back.fit; bytes_are = rw count back.spell }
