-- What is wrong with a byte, by the code's tests of it, and a text that is looked at byte by byte. Assumes nothing.
use Rattle.std.proofs.Common.{◌≡◌, ℕ, suc, Option, Some, None, ◌+◌, ◌%◌, ◌^◌, ◌<◌, ◌≤◌, true, false, List, [], ◌∷◌, ◌++◌, length, get_or, drop, sym, refl, ap, ◌∙◌, add-one, arith, drop_of_length-le, drop-cons, le-ltb, lt-ltb, eq-eqb, ne_eqb, le-leb}
use Rattle.console.specs.declared.malformed.Seen.{Seen}
use Rattle.console.specs.declared.malformed.Wrong.{Wrong}
use Rattle.console.specs.declared.malformed.Wrong.TheVariants.{CarriageReturn, Long, Empty, Short}
use Rattle.console.specs.Malformed.{wrong_end_lem, wrong_digit_lem, wrong_byte_lem, behind_byte, is_wrong, met_at, next_seen, look_on}

-- ---- the end of a line
module _ (n d : ℕ) where
  pub end_empty : n ≡ 0 → Some Empty ≡ wrong_end_lem n d
  unfolding wrong_end_lem
  end_empty e = rw (eq-eqb n 0 e)

  pub end_short : (n ≡ 0 → ⊥) → n < d → Some Short ≡ wrong_end_lem n d
  unfolding wrong_end_lem
  end_short e h = rw (ne_eqb n 0 e, lt-ltb n d h)

  pub end-fine : (n ≡ 0 → ⊥) → d ≤ n → None ≡ wrong_end_lem n d
  unfolding wrong_end_lem
  end-fine e h = rw (ne_eqb n 0 e, le-ltb n d h)

-- ---- what should be a digit
pub digit-long : (b n d : ℕ) → d ≤ n → Some Long ≡ wrong_digit_lem b n d
unfolding wrong_digit_lem
digit-long b n d h = rw (le-leb d n h)

-- ---- any byte
module _ (b n d : ℕ) where
  pub byte-newline : {w : Option Wrong} → b ≡ 10 → w ≡ wrong_end_lem n d → w ≡ wrong_byte_lem b n d
  unfolding wrong_byte_lem
  byte-newline e k = rw (eq-eqb b 10 e) k

  pub byte-return : b ≡ 13 → Some CarriageReturn ≡ wrong_byte_lem b n d
  unfolding wrong_byte_lem
  byte-return e = rw (ne_eqb b 10 (λ z. omega arith), eq-eqb b 13 e)

  pub byte-other : {w : Option Wrong} → (b ≡ 10 → ⊥) → (b ≡ 13 → ⊥) → w ≡ wrong_digit_lem b n d → w ≡ wrong_byte_lem b n d
  unfolding wrong_byte_lem
  byte-other e f k = rw (ne_eqb b 10 e, ne_eqb b 13 f) k

-- ---- one byte on
module _ (b : ℕ) (s : Seen) {m : ℕ} where
  pub behind-newline : b ≡ 10 → m ≡ (s.line + 1) % 2 ^ 64 → record { line = m; column = 0; wrong = None } ≡ behind_byte b s
  unfolding behind_byte
  behind-newline e k = rw (eq-eqb b 10 e, k)

  pub behind-digit : (b ≡ 10 → ⊥) → m ≡ (s.column + 1) % 2 ^ 64 → record { line = s.line; column = m; wrong = None } ≡ behind_byte b s
  unfolding behind_byte
  behind-digit e k = rw (ne_eqb b 10 e, k)

module _ (d : ℕ) (s : Seen) (b : ℕ) where
  pub next-met : is_wrong s.wrong ≡ true → s ≡ next_seen d s b
  unfolding next_seen
  next-met e = rw e

  module _ (e : is_wrong s.wrong ≡ false) {w : Option Wrong} (q : w ≡ wrong_byte_lem b s.column d) where
    pub next-found : is_wrong w ≡ true → met_at w s ≡ next_seen d s b
    unfolding next_seen
    next-found f = rw (e, ← q, f)

    pub next-fine : is_wrong w ≡ false → {t : Seen} → t ≡ behind_byte b s → t ≡ next_seen d s b
    unfolding next_seen
    next-fine f k = rw (e, ← q, f) k

-- ---- a text
-- looking at a text piece by piece is looking at the whole of it
pub look-more : (d : ℕ) (s : Seen) (t u : List ℕ) → look_on d s (t ++ u) ≡ look_on d (look_on d s t) u
unfolding look_on
look-more d s [] u = refl
look-more d s (b ∷ t) u = look-more d (next_seen d s b) t u

look_one : (d : ℕ) (s : Seen) (b : ℕ) (t : List ℕ) → look_on d s (b ∷ t) ≡ look_on d (next_seen d s b) t
unfolding look_on
look_one d s b t = refl

look_none : (d : ℕ) (s : Seen) → look_on d s [] ≡ s
unfolding look_on
look_none d s = refl

-- what the loop keeps: the first i bytes are looked at
pub record Looked (text : List ℕ) (digits : ℕ) (before s : Seen) (i : ℕ) : Type 0 where
  pub inside : i ≤ length text
  pub same : look_on digits before text ≡ look_on digits s (drop i text)

pub looked-none : {text : List ℕ} {digits : ℕ} {before : Seen} → Looked text digits before before 0
looked-none = record { inside = omega arith; same = refl }

module _ {text : List ℕ} {digits : ℕ} {before s : Seen} {i : ℕ} (k : Looked text digits before s i) where
  pub looked-more : i < length text → {t : Seen} → t ≡ next_seen digits s (get_or text i 0) → Looked text digits before t (i + 1)
  looked-more h {t} e =
      record {
        inside = omega arith;
        same = k.same ∙ ap (look_on digits s) (drop-cons text i 0 h) ∙ look_one digits s (get_or text i 0) (drop (suc i) text)
            ∙ ap (λ x. look_on digits x (drop (suc i) text)) (sym e)
            ∙ ap (λ n. look_on digits t (drop n text)) (sym (add-one i));
      }

  pub looked_all : length text ≤ i → s ≡ look_on digits before text
  looked_all h = sym (k.same ∙ ap (look_on digits s) (drop_of_length-le text h) ∙ look_none digits s)
