-- Reading byte by byte is reading by lines. On the way a state of reading stands for the lines so far: those that are ended spelt
-- `earlier`, and the one that is begun has digits only. Assumes nothing.
use Prim.Native.Nat.{ℕ, suc, ◌+◌, ◌*◌, ◌%◌, ◌≤◌, ◌<◌}
use mathlib.Core.Path.{◌≡◌, refl, sym, ap, subst, ◌∙◌}
use mathlib.Core.Bool.{Bool, true, false, cond, ◌&&◌, and-false, and-true, false≢true}
use mathlib.Core.List.{List, [], ◌∷◌, ◌++◌, append-nil, append_assoc}
use native.Mathlib.Omega.{arith}
use borrow.Author.Tests.{ne_eqb, eqb-true, eqb-false, ltb-true, ltb-false}
use lib.Dec.{eqb, ltb}
use lib.ListN.{length, length-append}
use Rattle.text.specs.Hex.{is_digit, digit_value, newline, all_digits, line_fits, spelt, split_lines, all_fit, all_spelt}
use Rattle.text.specs.Reading.{Sofar, at_start, spoil, add_digit, next_byte, read_on, is_good, Reads}
use Rattle.text.proofs.Feeding.{next-bad, next-newline, next-digit, next-other, next-full}

-- ---- one digit more on a line
-- the value of a last digit that no other follows
unfoldable half : List ℕ → ℕ
half [] = 0
half (b ∷ []) = digit_value b
half (b ∷ c ∷ bs) = half bs

digits_more : (p q : List ℕ) → all_digits (p ++ q) ≡ (all_digits p && all_digits q)
unfolding all_digits
digits_more [] q = refl
digits_more (b ∷ p) q = by (is_digit b) (digits_more p q)
  where
    by : (t : Bool) → all_digits (p ++ q) ≡ (all_digits p && all_digits q) → (t && all_digits (p ++ q)) ≡ (t && all_digits p && all_digits q)
    by true e = e
    by false e = refl

spelt-even : (bs : List ℕ) (b : ℕ) → length bs % 2 ≡ 0 → spelt (bs ++ (b ∷ [])) ≡ spelt bs
unfolding spelt
spelt-even [] b h = refl
spelt-even (x ∷ []) b h = absurd (omega arith)
spelt-even (x ∷ y ∷ bs) b h = ap (λ (l : List ℕ). (16 * digit_value x + digit_value y) ∷ l) (spelt-even bs b (omega arith))

half-even : (bs : List ℕ) (b : ℕ) → length bs % 2 ≡ 0 → half (bs ++ (b ∷ [])) ≡ digit_value b
unfolding half
half-even [] b h = refl
half-even (x ∷ []) b h = absurd (omega arith)
half-even (x ∷ y ∷ bs) b h = half-even bs b (omega arith)

spelt-odd : (bs : List ℕ) (b : ℕ) → (length bs % 2 ≡ 0 → ⊥) → spelt (bs ++ (b ∷ [])) ≡ spelt bs ++ ((16 * half bs + digit_value b) ∷ [])
unfolding spelt half
spelt-odd [] b h = absurd (h refl)
spelt-odd (x ∷ []) b h = refl
spelt-odd (x ∷ y ∷ bs) b h =
    ap (λ (l : List ℕ). (16 * digit_value x + digit_value y) ∷ l) (spelt-odd bs b (λ e. h (omega arith)))

-- ---- a line that no more digits mend
abbrev Unfit : (d : ℕ) → (line : List ℕ) → Type 0
Unfit d line = (e : List ℕ) → line_fits d (line ++ e) ≡ false

unfit-more : (d : ℕ) (p q : List ℕ) → Unfit d p → Unfit d (p ++ q)
unfit-more d p q u e = rw append_assoc (u (q ++ e))

unfit-other : (d : ℕ) (p : List ℕ) (b : ℕ) → is_digit b ≡ false → Unfit d (p ++ (b ∷ []))
unfolding all_digits
unfit-other d p b h e = rw (digits_more (p ++ (b ∷ [])) e, digits_more p (b ∷ []), h, and-false, and-false)

unfit-long : (d : ℕ) (p : List ℕ) (b : ℕ) → d ≤ length p → Unfit d (p ++ (b ∷ []))
unfit-long d p b h e =
    rw (ne_eqb (length ((p ++ (b ∷ [])) ++ e)) d (λ q. omega (arith, simp length-append at q)))

split-end : (p : List ℕ) (b : ℕ) → split_lines (p ++ (b ∷ [])) [] ≡ (p ++ (b ∷ [])) ∷ []
unfolding split_lines
split-end [] b = refl
split-end (x ∷ p) b = refl

unfit-lines : (d : ℕ) (text p : List ℕ) (b : ℕ) → Unfit d (p ++ (b ∷ [])) → all_fit d (split_lines (p ++ (b ∷ [])) text) ≡ false
unfolding all_fit split_lines
unfit-lines d [] p b u = rw (split-end p b, ← append-nil (p ++ (b ∷ [])), u [])
unfit-lines d (c ∷ cs) p b u = by (eqb c newline) (unfit-lines d cs (p ++ (b ∷ [])) c (unfit-more d (p ++ (b ∷ [])) (c ∷ []) u))
  where
    by : (t : Bool) → all_fit d (split_lines ((p ++ (b ∷ [])) ++ (c ∷ [])) cs) ≡ false
        → all_fit d (cond t ((p ++ (b ∷ [])) ∷ split_lines [] cs) (split_lines ((p ++ (b ∷ [])) ++ (c ∷ [])) cs)) ≡ false
    by true h = rw (← append-nil (p ++ (b ∷ [])), u [])
    by false h = h

-- ---- a state on the way, and one at the end
record Mid (s : Sofar) (earlier begun : List ℕ) : Type 0 where
  good : s.bad ≡ false
  digits : all_digits begun ≡ true
  column_is : s.column ≡ length begun
  high_is : (length begun % 2 ≡ 0 → ⊥) → s.high ≡ half begun
  bytes_are : s.bytes ≡ earlier ++ spelt begun

record Ends (d : ℕ) (s : Sofar) (earlier : List ℕ) (lines : List (List ℕ)) : Type 0 where
  good_is : is_good d s ≡ all_fit d lines
  bytes_are : all_fit d lines ≡ true → s.bytes ≡ earlier ++ all_spelt lines

stays-bad : (d : ℕ) (text : List ℕ) (s : Sofar) → s.bad ≡ true → read_on d s text ≡ s
unfolding read_on
stays-bad d [] s h = refl
stays-bad d (b ∷ text) s h = rw (next-bad d s b h) (stays-bad d text s h)

ends-bad : (d : ℕ) (text : List ℕ) (s : Sofar) (earlier : List ℕ) (lines : List (List ℕ)) → all_fit d lines ≡ false
    → Ends d (read_on d (spoil s) text) earlier lines
ends-bad d text s earlier lines h =
    rw (stays-bad d text (spoil s) refl)
    (record { good_is = sym h; bytes_are = λ e. absurd (false≢true (sym h ∙ e)) })

ends-line : (d : ℕ) (s : Sofar) (earlier line : List ℕ) (lines : List (List ℕ)) → line_fits d line ≡ true
    → Ends d s (earlier ++ spelt line) lines → Ends d s earlier (line ∷ lines)
unfolding all_fit all_spelt
ends-line d s earlier line lines h r =
    let same : all_fit d (line ∷ lines) ≡ all_fit d lines = rw h in
    record {
      good_is = r.good_is ∙ sym same;
      bytes_are = λ e. r.bytes_are (sym same ∙ e) ∙ append_assoc earlier (spelt line) (all_spelt lines);
    }

-- the text ends: the line that is begun is the last
ends_here : (d : ℕ) (s : Sofar) (earlier begun : List ℕ) → Mid s earlier begun → Ends d s earlier (split_lines begun [])
unfolding split_lines all_fit all_spelt spelt
ends_here d s earlier [] m = record { good_is = rw (m.good, m.column_is); bytes_are = λ e. m.bytes_are }
ends_here d s earlier (x ∷ bs) m =
    record {
      good_is = simp (m.good, m.column_is, m.digits, ne_eqb (suc (length bs)) 0 (λ q. omega arith), and-true);
      bytes_are = λ e. rw append-nil m.bytes_are;
    }

module _ (d : ℕ) (s : Sofar) (earlier begun : List ℕ) (m : Mid s earlier begun) (b : ℕ) where
  -- a digit more
  mid-digit : is_digit b ≡ true → Mid (add_digit (digit_value b) s) earlier (begun ++ (b ∷ []))
  unfolding all_digits
  mid-digit h = by (eqb (s.column % 2) 0) refl
    where
      line : all_digits (begun ++ (b ∷ [])) ≡ true
      line = rw (digits_more begun (b ∷ []), m.digits, h)

      column : suc s.column ≡ length (begun ++ (b ∷ []))
      column = simp length-append (omega (arith, m.column_is))

      by : (t : Bool) → eqb (s.column % 2) 0 ≡ t → Mid
          (cond t (record { bad = s.bad; column = suc s.column; high = digit_value b; bytes = s.bytes })
          (record {
            bad = s.bad;
            column = suc s.column;
            high = s.high;
            bytes = s.bytes ++ ((16 * s.high + digit_value b) ∷ []);
          })) earlier (begun ++ (b ∷ []))
      by true e =
          let even : length begun % 2 ≡ 0 = subst (λ (k : ℕ). k % 2 ≡ 0) m.column_is (eqb-true _ _ e) in
          record {
            good = m.good;
            digits = line;
            column_is = column;
            high_is = λ o. sym (half-even begun b even);
            bytes_are = rw (spelt-even begun b even) m.bytes_are;
          }
      by false e =
          let odd : length begun % 2 ≡ 0 → ⊥ = subst (λ (k : ℕ). k % 2 ≡ 0 → ⊥) m.column_is (eqb-false _ _ e) in
          record {
            good = m.good;
            digits = line;
            column_is = column;
            high_is = λ o. absurd (o (simp length-append (omega arith)));
            bytes_are = rw (spelt-odd begun b odd, m.high_is odd, m.bytes_are, append_assoc);
          }

abbrev Onward : (d : ℕ) (text : List ℕ) → Type 0
Onward d text = (s : Sofar) (earlier begun : List ℕ) → Mid s earlier begun → Ends d (read_on d s text) earlier (split_lines begun text)

module _ (d : ℕ) (s : Sofar) (earlier begun : List ℕ) (m : Mid s earlier begun) (text : List ℕ) (on : Onward d text) where
  -- the line that is begun ends
  line-ends : (t : Bool) → eqb s.column d ≡ t
      → Ends d (read_on d (cond t (record { bad = s.bad; column = 0; high = s.high; bytes = s.bytes }) (spoil s)) text) earlier
      (begun ∷ split_lines [] text)
  unfolding all_digits all_fit spelt
  line-ends true e =
      ends-line d _ earlier begun _ (rw (← m.column_is, e, m.digits))
      (on _ (earlier ++ spelt begun) []
      (record {
        good = m.good;
        digits = refl;
        column_is = refl;
        high_is = λ o. absurd (o refl);
        bytes_are = rw append-nil m.bytes_are;
      }))
  line-ends false e = ends-bad d text s earlier _ (rw (← m.column_is, e))

  -- another byte
  line-goes-on : (b : ℕ) → (b ≡ 10 → ⊥) → (t u : Bool) → is_digit b ≡ t → ltb s.column d ≡ u
      → Ends d (read_on d (next_byte d s b) text) earlier (split_lines (begun ++ (b ∷ [])) text)
  line-goes-on b n true true e f =
      rw (next-digit d s b m.good n e (ltb-true _ _ f)) (on _ earlier (begun ++ (b ∷ [])) (mid-digit d s earlier begun m b e))
  line-goes-on b n true false e f =
      rw (next-full d s b m.good n (ltb-false _ _ f))
      (ends-bad d text s earlier _ (unfit-lines d text begun b (unfit-long d begun b (omega (arith, m.column_is, ltb-false s.column d f)))))
  line-goes-on b n false u e f =
      rw (next-other d s b m.good n e)
      (ends-bad d text s earlier _ (unfit-lines d text begun b (unfit-other d begun b e)))

  one_byte : (b : ℕ) (t : Bool) → eqb b newline ≡ t
      → Ends d (read_on d (next_byte d s b) text) earlier (cond t (begun ∷ split_lines [] text) (split_lines (begun ++ (b ∷ [])) text))
  one_byte b true e = rw (next-newline d s b m.good (eqb-true _ _ e)) (line-ends (eqb s.column d) refl)
  one_byte b false e = line-goes-on b (eqb-false _ _ e) (is_digit b) (ltb s.column d) refl refl

reads_on : (d : ℕ) (text : List ℕ) → Onward d text
unfolding read_on split_lines
reads_on d [] s earlier begun m = ends_here d s earlier begun m
reads_on d (b ∷ text) s earlier begun m = one_byte d s earlier begun m text (reads_on d text) b (eqb b newline) refl

pub reads_all : (d : ℕ) (text : List ℕ) → Reads d text
unfolding all_digits spelt
reads_all d text =
    let e : Ends d (read_on d at_start text) [] (split_lines [] text) =
    reads_on d text at_start [] []
    (record { good = refl; digits = refl; column_is = refl; high_is = λ o. absurd (o refl); bytes_are = refl }) in
    record { good_is = e.good_is; bytes_are = e.bytes_are }

pub reads : (w : ℕ) → 0 < w → (text : List ℕ) → Reads (2 * w) text
reads w h text = reads_all (2 * w) text
