-- The code's reader and buffer after one more byte of text, and after a text and one byte more. Assumes nothing.
use Prim.Native.Nat.{ℕ, ◌+◌, ◌≤◌, ◌<◌}
use mathlib.Core.Path.{◌≡◌, refl, sym, ap, ◌∙◌}
use mathlib.Core.Bool.{Bool, true, false, cond, and-false}
use mathlib.Core.List.{List, [], ◌∷◌, ◌++◌}
use native.Mathlib.Numerals.{add-one}
use native.Mathlib.Omega.{arith}
use borrow.Author.Tests.{eq-eqb, ne_eqb, lt-ltb, le-ltb}
use lib.Dec.{eqb}
use lib.ListN.{length, take, get_or}
use lib.Seq.{take-suc, take-nil, take_all}
use Rattle.text.specs.declared.read.Reader.{Reader}
use Rattle.std.specs.Prelude.{Some, None}
use Rattle.text.specs.Hex.{is_digit, digit_value, digit_of_lem}
use Rattle.text.specs.Reading.{Sofar, spoil, end_line, add_digit, next_byte, read_on, spoilt_reader, newline_reader}
use Rattle.text.specs.Reading.{Holds, Sane, Started, Fed, Added}
use Rattle.text.proofs.Digits.{value_of, other-of}

-- ---- which case a byte is
pub next-bad : (d : ℕ) (s : Sofar) (b : ℕ) → s.bad ≡ true → next_byte d s b ≡ s
unfolding next_byte
next-bad d s b bad = rw bad

module _ (d : ℕ) (s : Sofar) (b : ℕ) (good : s.bad ≡ false) where
  pub next-newline : b ≡ 10 → next_byte d s b ≡ end_line d s
  unfolding next_byte
  next-newline e = rw (good, eq-eqb b 10 e)

  pub next-digit : (b ≡ 10 → ⊥) → is_digit b ≡ true → s.column < d → next_byte d s b ≡ add_digit (digit_value b) s
  unfolding next_byte
  next-digit n e h = rw (good, ne_eqb b 10 n, e, lt-ltb s.column d h)

  pub next-other : (b ≡ 10 → ⊥) → is_digit b ≡ false → next_byte d s b ≡ spoil s
  unfolding next_byte
  next-other n e = rw (good, ne_eqb b 10 n, e)

  pub next-full : (b ≡ 10 → ⊥) → d ≤ s.column → next_byte d s b ≡ spoil s
  unfolding next_byte
  next-full n h = rw (good, ne_eqb b 10 n, le-ltb s.column d h, and-false)

-- ---- the reader after it
module _ {old : List ℕ} {s : Sofar} {r : Reader} {rows : List ℕ} (h : Holds old s r rows) where
  holds-spoilt : Holds old (spoil s) (spoilt_reader r) rows
  holds-spoilt =
      record {
        bad_is = refl;
        column_is = h.column_is;
        high_is = h.high_is;
        length_is = h.length_is;
        rows_are = h.rows_are;
      }

  holds_newline : (d : ℕ) → Holds old (end_line d s) (newline_reader d r) rows
  holds_newline d = by (eqb r.column d) (ap (λ (k : ℕ). eqb k d) h.column_is)
    where
      by : (t : Bool) → t ≡ eqb s.column d →
          Holds old (end_line d s)
          (cond t (record { bad = r.bad; column = 0; high = r.high; length = r.length }) (spoilt_reader r)) rows
      by true e =
          rw (← e)
          (record {
            bad_is = h.bad_is;
            column_is = refl;
            high_is = h.high_is;
            length_is = h.length_is;
            rows_are = h.rows_are;
          })
      by false e = rw (← e) holds-spoilt

sane-spoilt : (d : ℕ) (r : Reader) (rows : List ℕ) → Sane d r rows → Sane d (spoilt_reader r) rows
sane-spoilt d r rows h =
    record {
      few = h.few;
      column_fits = h.column_fits;
      high_fits = h.high_fits;
      length_fits = h.length_fits;
    }

sane-newline : (d : ℕ) (r : Reader) (rows : List ℕ) → Sane d r rows → Sane d (newline_reader d r) rows
sane-newline d r rows h = by (eqb r.column d)
  where
    by : (t : Bool) → Sane d (cond t (record { bad = r.bad; column = 0; high = r.high; length = r.length }) (spoilt_reader r)) rows
    by true =
        record {
          few = h.few;
          column_fits = omega arith;
          high_fits = h.high_fits;
          length_fits = h.length_fits;
        }
    by false = sane-spoilt d r rows h

module _ (d b : ℕ) (r : Reader) (rows : List ℕ) (sane : Sane d r rows) where
  pub fed-bad : r.bad ≡ true → Fed d (b ∷ []) r rows r rows
  unfolding read_on
  fed-bad bad = record { holds = λ old s h. rw (next-bad d s b (sym h.bad_is ∙ bad)) h; sane = sane }

  module _ (good : r.bad ≡ false) where
    good-too : {old : List ℕ} {s : Sofar} → Holds old s r rows → s.bad ≡ false
    good-too h = sym h.bad_is ∙ good

    pub fed-newline : {q : Reader} → b ≡ 10 → q ≡ newline_reader d r → Fed d (b ∷ []) r rows q rows
    unfolding read_on
    fed-newline e is =
        rw is
        (record {
          holds = λ old s h. rw (next-newline d s b (good-too h) e) (holds_newline h d);
          sane = sane-newline d r rows sane;
        })

    pub fed-full : {q : Reader} → (b ≡ 10 → ⊥) → d ≤ r.column → q ≡ spoilt_reader r → Fed d (b ∷ []) r rows q rows
    unfolding read_on
    fed-full n k is =
        rw is
        (record {
          holds = λ old s h. rw (next-full d s b (good-too h) n (omega (arith, h.column_is))) (holds-spoilt h);
          sane = sane-spoilt d r rows sane;
        })

    pub fed-other : {q : Reader} → (b ≡ 10 → ⊥) → None ≡ digit_of_lem b → q ≡ spoilt_reader r → Fed d (b ∷ []) r rows q rows
    unfolding read_on
    fed-other n e is =
        rw is
        (record {
          holds = λ old s h. rw (next-other d s b (good-too h) n (other-of b e)) (holds-spoilt h);
          sane = sane-spoilt d r rows sane;
        })

    pub fed-digit : {v : ℕ} {q : Reader} {after : List ℕ} → (b ≡ 10 → ⊥) → r.column < d → Some v ≡ digit_of_lem b
        → Added v r rows q after → Fed d (b ∷ []) r rows q after
    unfolding read_on
    fed-digit {v} {q} {after} n k e a =
        let is : (is_digit b ≡ true) × (v ≡ digit_value b) = value_of b v e in
        record {
          holds = λ old s h.
              rw (next-digit d s b (good-too h) n is.0 (omega (arith, h.column_is)), ← is.1) (a.holds old s h);
          sane = record {
            few = sane.few;
            column_fits = omega (arith, a.column_is);
            high_fits = a.high_fits;
            length_fits = a.length_fits;
          };
        }

-- ---- a text and one byte more
pub read_more : (d : ℕ) (s : Sofar) (t u : List ℕ) → read_on d s (t ++ u) ≡ read_on d (read_on d s t) u
unfolding read_on
read_more d s [] u = refl
read_more d s (b ∷ t) u = read_more d (next_byte d s b) t u

pub fed-none : {d : ℕ} {r : Reader} {rows : List ℕ} → Sane d r rows → Fed d [] r rows r rows
unfolding read_on
fed-none sane = record { holds = λ old s h. h; sane = sane }

pub fed-more : {d : ℕ} {t u : List ℕ} {r m q : Reader} {rows between after : List ℕ} → Fed d t r rows m between
    → Fed d u m between q after → Fed d (t ++ u) r rows q after
fed-more {d} {t} {u} f g =
    record { holds = λ old s h. rw (read_more d s t u) (g.holds old _ (f.holds old s h)); sane = g.sane }

-- the first i bytes of a text are read
pub record Upto (text : List ℕ) (digits : ℕ) (rows₀ : List ℕ) (r : Reader) (rows : List ℕ) (q : Reader) (i : ℕ) : Type 0 where
  pub within : i ≤ length text
  pub same_length : length rows ≡ length rows₀
  pub fed : Fed digits (take i text) r rows₀ q rows

pub upto-none : {text : List ℕ} {digits : ℕ} {rows : List ℕ} {r : Reader} → Sane digits r rows → Upto text digits rows r rows r 0
upto-none sane = record { within = omega arith; same_length = refl; fed = fed-none sane }

pub upto-more : {text : List ℕ} {digits : ℕ} {rows₀ : List ℕ} {r : Reader} {rows : List ℕ} {m : Reader} {i : ℕ} {after : List ℕ} {q : Reader}
    → Upto text digits rows₀ r rows m i → i < length text → length after ≡ length rows
    → Fed digits (get_or text i 0 ∷ []) m rows q after → Upto text digits rows₀ r after q (i + 1)
upto-more {text} {i = i} u h e f =
    record {
      within = omega arith;
      same_length = e ∙ u.same_length;
      fed = rw (add-one, take-suc text i 0 h) (fed-more u.fed f);
    }

pub upto_all : {text : List ℕ} {digits : ℕ} {rows₀ : List ℕ} {r : Reader} {rows : List ℕ} {q : Reader} {i : ℕ}
    → Upto text digits rows₀ r rows q i → length text ≤ i → Fed digits text r rows₀ q rows
upto_all {text} {i = i} u h = rw (take_all i text h) at u.fed

pub started : Started (record { bad = false; column = 0; high = 0; length = 0 })
started =
    record {
      holds = λ old.
          let none : take {A = ℕ} (length old) [] ≡ [] = take-nil (length old) in
          record {
            bad_is = refl;
            column_is = refl;
            high_is = refl;
            length_is = rw none;
            rows_are = rw none;
          };
      sane = λ digits rows few.
          record { few = few; column_fits = omega arith; high_fits = omega arith; length_fits = omega arith };
    }
