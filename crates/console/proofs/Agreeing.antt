-- Looking at a text finds something wrong exactly where the reader finds a malformed line. Assumes nothing.
use Rattle.std.proofs.Common.{◌≡◌, ℕ, suc, Some, None, ◌+◌, ◌*◌, ◌%◌, ◌^◌, ◌<◌, ◌≤◌, Bool, true, false, cond, ◌&&◌, ◌||◌, eqb, leb, List, [], ◌∷◌, ◌++◌, sym, refl, ap, ◌∙◌, mod-eq_of_lt, arith, eqb-true, leb-false, leb-true}
use mathlib.Core.Bool.{false≢true}
use borrow.Author.Tests.{eqb-false, lt-leb}
use Rattle.text.specs.Hex.{is_digit, digit_value, readable}
use Rattle.text.specs.Reading.{Sofar, at_start, spoil, end_line, next_byte, read_on, good_at, is_good}
use Rattle.text.proofs.Feeding.{next-bad, next-newline, next-digit, next-other, next-full}
use Rattle.text.proofs.ByLines.{reads_all}
use Rattle.console.specs.declared.malformed.Seen.{Seen}
use Rattle.console.specs.declared.malformed.Wrong.TheVariants.{Uppercase, Space, Other}
use Rattle.console.specs.Malformed.{wrong_end_lem, wrong_digit_lem, wrong_byte_lem, is_wrong, next_seen, look_on, at_first_lem}
use Rattle.console.proofs.Looking.{end_empty, end_short, end-fine, digit-long, byte-newline, byte-return, byte-other}
use Rattle.console.proofs.Looking.{behind-newline, behind-digit, next-met, next-found, next-fine}

-- a reader and what was seen, of the same text
pub record Agrees (d : ℕ) (s : Sofar) (t : Seen) : Type 0 where
  pub bad_is : s.bad ≡ is_wrong t.wrong
  pub column_is : s.bad ≡ false → s.column ≡ t.column
  pub column_fits : s.bad ≡ false → s.column ≤ d

-- no digit: which of the three does not matter
no_digit : (b n d : ℕ) → n < d → is_digit b ≡ false → is_wrong (wrong_digit_lem b n d) ≡ true
unfolding wrong_digit_lem
no_digit b n d h e = rw (lt-leb d n h, e) (by (leb 65 b && leb b 70) (eqb b 32 || eqb b 9))
  where
    by : (u v : Bool) → is_wrong (cond u (Some Uppercase) (cond v (Some Space) (Some Other))) ≡ true
    by true v = refl
    by false true = refl
    by false false = refl

some-digit : (b n d : ℕ) → n < d → is_digit b ≡ true → None ≡ wrong_digit_lem b n d
unfolding wrong_digit_lem
some-digit b n d h e = rw (lt-leb d n h, e)

no_end : (n d : ℕ) → n < d → is_wrong (wrong_end_lem n d) ≡ true
no_end n d h = by (eqb n 0) refl
  where
    by : (u : Bool) → eqb n 0 ≡ u → is_wrong (wrong_end_lem n d) ≡ true
    by true e = sym (ap is_wrong (end_empty n d (eqb-true n 0 e)))
    by false e = sym (ap is_wrong (end_short n d (eqb-false n 0 e) h))

-- ---- one byte on
agrees-by : {d : ℕ} {s s' : Sofar} {t t' : Seen} → s ≡ s' → t' ≡ t → Agrees d s' t' → Agrees d s t
agrees-by p q a = rw (p, ← q) a

end_whole : (d : ℕ) (s : Sofar) → eqb s.column d ≡ true
    → end_line d s ≡ record { bad = s.bad; column = 0; high = s.high; bytes = s.bytes }
end_whole d s e = rw e

end-other : (d : ℕ) (s : Sofar) → eqb s.column d ≡ false → end_line d s ≡ spoil s
end-other d s e = rw e

module _ (d : ℕ) (some : 0 < d) (small : d < 2 ^ 64) (s : Sofar) (t : Seen) (b : ℕ) (good : s.bad ≡ false) (fine : is_wrong t.wrong ≡ false)
    (same : s.column ≡ t.column) (fits : s.column ≤ d) where
  agrees-spoilt : is_wrong (wrong_byte_lem b t.column d) ≡ true → next_byte d s b ≡ spoil s → Agrees d (next_byte d s b) (next_seen d t b)
  agrees-spoilt w e =
      agrees-by e (next-found d t b fine refl w)
      (record { bad_is = sym w; column_is = λ z. absurd (false≢true (sym z)); column_fits = λ z. absurd (false≢true (sym z)) })

  agrees-newline : b ≡ 10 → Agrees d (next_byte d s b) (next_seen d t b)
  agrees-newline q = by (eqb s.column d) refl
    where
      byte : wrong_end_lem t.column d ≡ wrong_byte_lem b t.column d
      byte = byte-newline b t.column d q refl

      by : (u : Bool) → eqb s.column d ≡ u → Agrees d (next_byte d s b) (next_seen d t b)
      by true z =
          let full : s.column ≡ d = eqb-true s.column d z in
          let none : None ≡ wrong_end_lem t.column d = end-fine t.column d (λ y. omega arith) (omega arith) in
          agrees-by (next-newline d s b good q ∙ end_whole d s z) (next-fine d t b fine (none ∙ byte) refl (behind-newline b t q refl))
          (record { bad_is = good; column_is = λ y. refl; column_fits = λ y. omega arith })
      by false z =
          let other = eqb-false s.column d z in
          agrees-spoilt (sym (ap is_wrong byte) ∙ no_end t.column d (omega arith)) (next-newline d s b good q ∙ end-other d s z)

  agrees-digit : (b ≡ 10 → ⊥) → (b ≡ 13 → ⊥) → Agrees d (next_byte d s b) (next_seen d t b)
  agrees-digit n r = by (leb d t.column) refl (is_digit b) refl
    where
      byte : wrong_digit_lem b t.column d ≡ wrong_byte_lem b t.column d
      byte = byte-other b t.column d n r refl

      by : (u : Bool) → leb d t.column ≡ u → (v : Bool) → is_digit b ≡ v → Agrees d (next_byte d s b) (next_seen d t b)
      by true y v x =
          let full : d ≤ t.column = leb-true d t.column y in
          agrees-spoilt (sym (ap is_wrong (digit-long b t.column d full ∙ byte))) (next-full d s b good n (omega arith))
      by false y false x =
          let room : t.column < d = leb-false d t.column y in
          agrees-spoilt (sym (ap is_wrong byte) ∙ no_digit b t.column d room x) (next-other d s b good n x)
      by false y true x =
          let room : t.column < d = leb-false d t.column y in
          let more : (t.column + 1) % 2 ^ 64 ≡ t.column + 1 = mod-eq_of_lt (omega arith) in
          agrees-by (next-digit d s b good n x (omega arith))
          (next-fine d t b fine (some-digit b t.column d room x ∙ byte) refl (behind-digit b t n (sym more)))
          (told (eqb (s.column % 2) 0) room)
        where
          -- a byte's first digit, or its second
          told : (u : Bool) → t.column < d →
              Agrees d
              (cond u (record { bad = s.bad; column = suc s.column; high = digit_value b; bytes = s.bytes })
              (record { bad = s.bad; column = suc s.column; high = s.high; bytes = s.bytes ++ ((16 * s.high + digit_value b) ∷ []) }))
              (record { line = t.line; column = t.column + 1; wrong = None })
          told true h = record { bad_is = good; column_is = λ z. omega arith; column_fits = λ z. omega arith }
          told false h = record { bad_is = good; column_is = λ z. omega arith; column_fits = λ z. omega arith }

  agrees-fine : Agrees d (next_byte d s b) (next_seen d t b)
  agrees-fine = by (eqb b 10) refl (eqb b 13) refl
    where
      by : (u : Bool) → eqb b 10 ≡ u → (v : Bool) → eqb b 13 ≡ v → Agrees d (next_byte d s b) (next_seen d t b)
      by true y v x = agrees-newline (eqb-true b 10 y)
      by false y false x = agrees-digit (eqb-false b 10 y) (eqb-false b 13 x)
      by false y true x =
          let is : b ≡ 13 = eqb-true b 13 x in
          agrees-spoilt (sym (ap is_wrong (byte-return b t.column d is))) (next-other d s b good (eqb-false b 10 y) (rw is))

agrees-next : (d : ℕ) → 0 < d → d < 2 ^ 64 → (s : Sofar) (t : Seen) (b : ℕ) → Agrees d s t → Agrees d (next_byte d s b) (next_seen d t b)
agrees-next d some small s t b a = by (is_wrong t.wrong) refl
  where
    by : (u : Bool) → is_wrong t.wrong ≡ u → Agrees d (next_byte d s b) (next_seen d t b)
    by true e = agrees-by (next-bad d s b (a.bad_is ∙ e)) (next-met d t b e) a
    by false e =
        let good = a.bad_is ∙ e in
        agrees-fine d some small s t b good e (a.column_is good) (a.column_fits good)

-- ---- a text
agrees_on : (d : ℕ) → 0 < d → d < 2 ^ 64 → (text : List ℕ) (s : Sofar) (t : Seen) → Agrees d s t → Agrees d (read_on d s text) (look_on d t text)
unfolding read_on look_on
agrees_on d some small [] s t a = a
agrees_on d some small (b ∷ text) s t a = agrees_on d some small text (next_byte d s b) (next_seen d t b) (agrees-next d some small s t b a)

-- a text is readable exactly if nothing wrong is seen in it and its last line is whole, or empty
pub told-is-readable : (d : ℕ) → 0 < d → d < 2 ^ 64 → (text : List ℕ)
    → readable d text ≡ good_at d (is_wrong (look_on d at_first_lem text).wrong) (look_on d at_first_lem text).column
told-is-readable d some small text = sym (reads_all d text).good_is ∙ by (is_wrong t.wrong) refl
  where
    s : Sofar
    s = read_on d at_start text

    t : Seen
    t = look_on d at_first_lem text

    a : Agrees d s t
    a =
        agrees_on d some small text at_start at_first_lem
        (record { bad_is = refl; column_is = λ z. refl; column_fits = λ z. omega arith })

    by : (u : Bool) → is_wrong t.wrong ≡ u → is_good d s ≡ good_at d (is_wrong t.wrong) t.column
    by true e = rw (a.bad_is, e)
    by false e = rw (a.column_is (a.bad_is ∙ e), a.bad_is)
