-- Texts that are stored one behind the other, a line of digits, a number and a refusal. Assumes nothing.
use Prim.Native.Nat.{ℕ, suc, ◌+◌, ◌*◌, ◌/◌, ◌%◌, ◌≤◌, ◌<◌}
use mathlib.Core.Path.{◌≡◌, refl, sym, ap, ◌∙◌}
use mathlib.Core.Bool.{Bool, true, false, cond}
use mathlib.Core.List.{List, [], ◌∷◌, ◌++◌}
use native.Mathlib.Nat.{add-zero, zero-add}
use native.Mathlib.Numerals.{add-one}
use native.Mathlib.Omega.{arith}
use borrow.Author.Tests.{lt-ltb, le-ltb}
use lib.Dec.{ltb}
use lib.ListN.{length, take, drop, set, get_or, length-append}
use lib.Seq.{sets, length-sets, sets-eq, take-suc, take_all}
use Rattle.text.specs.Hex.{digit, hex, newline}
use Rattle.text.specs.Listing.{decimal, refused_word, refused_text, Written, Puts}

-- ---- one text behind the other
sets_more : (t u l : List ℕ) (i : ℕ) → sets (sets l i t) (i + length t) u ≡ sets l i (t ++ u)
sets_more [] u l i = rw add-zero
sets_more (a ∷ t) u l i =
    ap (λ (k : ℕ). sets (sets (set l i a) (suc i) t) k u) (omega arith) ∙ sets_more t u (set l i a) (suc i)

pub puts-more : {t u : List ℕ} {at : ℕ} {before between after : List ℕ} {m n : ℕ} → Puts t at before between m → Puts u m between after n
    → Puts (t ++ u) at before after n
puts-more {t} {u} {at} {before} p q =
    record {
      after_is = rw (q.after_is, p.after_is, p.next_is) (sets_more t u before at);
      next_is = rw (q.next_is, p.next_is, length-append) (omega arith);
    }

pub puts_none : {at : ℕ} {before : List ℕ} → Puts [] at before before at
puts_none = record { after_is = refl; next_is = omega arith }

pub puts-length : {t : List ℕ} {at : ℕ} {before after : List ℕ} {n : ℕ} → Puts t at before after n → length after ≡ length before
puts-length {t} {at} {before} p = rw p.after_is (length-sets before at t)

pub written : {t before after : List ℕ} {n : ℕ} → Puts t 0 before after n → length t ≤ length before → Written t before after n
written {t} {before} p h =
    record {
      text_is = p.after_is ∙ (rw zero-add at (sets-eq t before 0 (omega arith)));
      length_is = omega (arith, p.next_is);
    }

-- ---- digits
pub puts-hex : (x : ℕ) {at : ℕ} {before between after : List ℕ} {m n f g : ℕ} → f ≡ digit (x / 16) → g ≡ digit (x % 16)
    → Puts (f ∷ []) at before between m → Puts (g ∷ []) m between after n → Puts (hex (x ∷ [])) at before after n
unfolding hex
puts-hex x e k p q = rw (← e, ← k) (puts-more p q)

pub hex-more : (xs ys : List ℕ) → hex (xs ++ ys) ≡ hex xs ++ hex ys
unfolding hex
hex-more [] ys = refl
hex-more (x ∷ xs) ys = ap (λ (l : List ℕ). digit (x / 16) ∷ digit (x % 16) ∷ l) (hex-more xs ys)

pub hex-length : (xs : List ℕ) → length (hex xs) ≡ 2 * length xs
unfolding hex
hex-length [] = refl
hex-length (x ∷ xs) = omega (arith, hex-length xs)

-- the first i bytes of a group are on the line
pub record Line (group : List ℕ) (at : ℕ) (before after : List ℕ) (next i : ℕ) : Type 0 where
  pub within : i ≤ length group
  pub same_length : length after ≡ length before
  pub next_is : next ≡ at + 2 * i
  pub puts : Puts (hex (take i group)) at before after next

pub line-none : {group : List ℕ} {at : ℕ} {before : List ℕ} → Line group at before before at 0
unfolding hex
line-none = record { within = omega arith; same_length = refl; next_is = omega arith; puts = puts_none }

pub line-more : {group : List ℕ} {at : ℕ} {before between after : List ℕ} {m n i : ℕ} → Line group at before between m i
    → i < length group → Puts (hex (get_or group i 0 ∷ [])) m between after n → Line group at before after n (i + 1)
unfolding hex
line-more {group} {i = i} l h p =
    record {
      within = omega arith;
      same_length = puts-length p ∙ l.same_length;
      next_is = omega (arith, p.next_is, l.next_is);
      puts = rw (add-one, take-suc group i 0 h, hex-more) (puts-more l.puts p);
    }

pub line-all : {group : List ℕ} {at : ℕ} {before after : List ℕ} {n i : ℕ} → Line group at before after n i → length group ≤ i
    → Puts (hex group ++ (newline ∷ [])) at before (set after n 10) (n + 1)
line-all {group} {i = i} l h =
    puts-more (rw (take_all i group h) at l.puts) (record { after_is = refl; next_is = refl })

-- ---- numbers
module _ (n : ℕ) where
  pub ones : n < 10 → decimal n ≡ (48 + n) ∷ []
  unfolding decimal
  ones h = rw (lt-ltb n 10 h)

  pub tens : 10 ≤ n → n < 100 → decimal n ≡ (48 + n / 10) ∷ (48 + n % 10) ∷ []
  unfolding decimal
  tens h k = rw (le-ltb n 10 h, lt-ltb n 100 k)

  pub hundreds : 100 ≤ n → decimal n ≡ (48 + n / 100) ∷ (48 + n / 10 % 10) ∷ (48 + n % 10) ∷ []
  unfolding decimal
  hundreds h = rw (le-ltb n 10 (omega arith), le-ltb n 100 h)

  pub decimal-length : length (decimal n) ≤ 3
  unfolding decimal
  decimal-length = by (ltb n 10) (ltb n 100)
    where
      by : (t u : Bool) → length
          (cond t ((48 + n) ∷ [])
          (cond u ((48 + n / 10) ∷ (48 + n % 10) ∷ [])
          ((48 + n / 100) ∷ (48 + n / 10 % 10) ∷ (48 + n % 10) ∷ []))) ≤ 3
      by true u = omega arith
      by false true = omega arith
      by false false = omega arith

pub word-length : length refused_word ≡ 8
unfolding refused_word
word-length = refl

-- the word over a buffer's first bytes
pub put-front : {word out : List ℕ} → 8 ≤ length out → word ≡ 114 ∷ 101 ∷ 102 ∷ 117 ∷ 115 ∷ 101 ∷ 100 ∷ 32 ∷ []
    → Puts refused_word 0 out (word ++ drop 8 out) 8
unfolding refused_word
put-front {word} {out} h e =
    rw e (record { after_is = sym (sets-eq refused_word out 0 (rw word-length h)); next_is = refl })

pub refused : (n : ℕ) {before b₁ b₂ after : List ℕ} {i j k : ℕ} → 12 ≤ length before → Puts refused_word 0 before b₁ i
    → Puts (decimal n) i b₁ b₂ j → Puts (10 ∷ []) j b₂ after k → Written (refused_text n) before after k
refused n {before} h p q r =
    written (puts-more (puts-more p q) r)
    (simp (length-append, word-length) (omega (arith, decimal-length n)))
