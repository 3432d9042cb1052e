-- What the page of standard output holds after a byte, and after one text behind another. Assumes nothing.
use Rattle.std.proofs.Common.{◌≡◌, ℕ, ◌+◌, ◌-◌, ◌%◌, ◌<◌, ◌≤◌, Option, Some, None, unwrap_or, List, [], ◌∷◌, ◌++◌, length, get_or, take, drop, set, sym, refl, ap, ◌∙◌, append_assoc, append-nil, add-one, arith, length-append, length-drop, length-set, length-take-le, take_all, take-suc, drop-drop, drop_at}
use native.Mathlib.Nat.{add-mod, min-le_right}
use lib.Seq.{drop-append-le, sets, sets-eq}
use borrow.Rule.Slice.PartMut.{mid_of, put_mid, same_len_mid}
use Rattle.std.proofs.lemmas.List.{length-take, take-append-drop}
use Rattle.std.proofs.lemmas.Slice.{take-put_mid}
use Rattle.io.specs.Digits.{last_digits, IsDigitCount}
use Rattle.text.proofs.Putting.{puts_none, puts-more}
use Rattle.console.specs.Page.{Stored, Printed, Named}

whole-and-whole : (a b : ℕ) → a % 65536 ≡ 0 → b % 65536 ≡ 0 → (a + b) % 65536 ≡ 0
whole-and-whole a b e f = rw (add-mod a b 65536, e, f)

-- ---- no text
stored-none : (at : ℕ) (text : List ℕ) → at ≤ 65536 → Stored [] at text text at
stored-none at text h =
    record {
      fits = λ _. puts_none;
      no_more = omega arith;
      holds = λ l. rw (append-nil, (let z : at + 0 - at ≡ 0 = omega arith in z));
      whole = rw (let z : at + 0 - at ≡ 0 = omega arith in z);
      bounded = h;
      same_length = refl;
    }

-- what the page's type says of how much it holds
abbrev pub Within : Option ℕ → Type 0
Within held = unwrap_or held 0 ≤ 65536

pub printed-none : (held : Option ℕ) (text : List ℕ) → Within held → Printed [] held text text held
printed-none (Some at) text h = stored-none at text h
printed-none None text h = refl

-- ---- one text behind another
module _ {t u : List ℕ} {at m n : ℕ} {before between after : List ℕ} (full : at ≤ 65536) (p : Stored t at before between m)
    (q : Stored u m between after n) where
  held : length before ≡ 65536 → take n after ≡ drop (at + length (t ++ u) - n) (take at before ++ (t ++ u))
  held l =
      let few = p.no_more in
      let few-too = q.no_more in
      let long : length (take at before ++ t) ≡ at + length t =
      length-append (take at before) t ∙ ap (λ k. k + length t) (length-take-le at before (omega arith)) in
      let gone : at + length t - m + (m + length u - n) ≡ at + length (t ++ u) - n = omega (arith, length-append t u) in
      q.holds (p.same_length ∙ l) ∙ ap (λ x. drop (m + length u - n) (x ++ u)) (p.holds l)
      ∙ ap (drop (m + length u - n)) (sym (drop-append-le (at + length t - m) (take at before ++ t) u (omega arith)))
      ∙ drop-drop (m + length u - n) (at + length t - m) ((take at before ++ t) ++ u)
      ∙ ap (λ k. drop k ((take at before ++ t) ++ u)) gone
      ∙ ap (drop (at + length (t ++ u) - n)) (append_assoc (take at before) t u)

  stored-more : Stored (t ++ u) at before after n
  stored-more =
      record {
        fits = λ h.
            let first = p.fits (omega (arith, length-append t u)) in
            puts-more first (q.fits (omega (arith, first.next_is, length-append t u)));
        no_more = omega (arith, p.no_more, q.no_more, length-append t u);
        holds = held;
        whole =
            let gone : at + length (t ++ u) - n ≡ at + length t - m + (m + length u - n) =
            omega (arith, p.no_more, q.no_more, length-append t u) in
            rw gone (whole-and-whole _ _ p.whole q.whole);
        bounded = q.bounded;
        same_length = q.same_length ∙ p.same_length;
      }

pub printed-more : (t u : List ℕ) (held then next : Option ℕ) (before between after : List ℕ) → Within held
    → Printed t held before between then → Printed u then between after next → Printed (t ++ u) held before after next
printed-more t u (Some at) (Some m) (Some n) before between after h p q = stored-more h p q
printed-more t u (Some at) (Some m) None before between after h p q =
    record { too_long = omega (arith, p.no_more, q.too_long, length-append t u); same_length = q.same_length ∙ p.same_length }
printed-more t u (Some at) None None before between after h p q =
    record { too_long = omega (arith, p.too_long, length-append t u); same_length = ap length q ∙ p.same_length }
printed-more t u None None None before between after h p q = q ∙ p
printed-more t u (Some at) None (Some n) before between after h p q = absurd q
printed-more t u None (Some m) next before between after h p q = absurd p
printed-more t u None None (Some n) before between after h p q = absurd q

-- ---- one byte
front-set : (b : ℕ) (l : List ℕ) → 0 < length l → take 1 (set l 0 b) ≡ b ∷ []
front-set b [] h = absurd (let z : ⊥ = omega arith in z)
front-set b (x ∷ l) h = refl

-- the page was full, and is written out
module _ {b at : ℕ} {text : List ℕ} where
  stored-anew : at ≤ 65536 → 65536 ≤ at → Stored (b ∷ []) at text (set text 0 b) 1
  stored-anew l h =
      record {
        fits = λ k. absurd (let z : ⊥ = omega arith in z);
        no_more = omega arith;
        holds = λ full.
            front-set b text (omega arith)
            ∙ sym
            (ap (λ l. drop (at + 1 - 1) (l ++ b ∷ [])) (take_all at text (omega arith))
            ∙ drop_at text (b ∷ []) (at + 1 - 1) (omega arith));
        whole = rw (let z : at + 1 - 1 ≡ 65536 = omega arith in z);
        bounded = omega arith;
        same_length = length-set text 0 b;
      }

pub printed_anew : (b : ℕ) {at : ℕ} {held : Option ℕ} {text then : List ℕ} → held ≡ Some at → Within held → 65536 ≤ at → then ≡ text
    → Printed (b ∷ []) held text (set then 0 b) (Some 1)
printed_anew b e w h s = rw (s, e) (stored-anew (rw e at w) h)

-- ---- a text that fits, in one piece
room : (k at : ℕ) (text : List ℕ) → 0 < k → k ≡ length (mid_of at k text) → at + k ≤ length text
room k at text h e = omega (arith, e, length-take k (drop at text), min-le_right k (length (drop at text)), length-drop at text)

placed : (w text : List ℕ) (at : ℕ) → length w ≡ length (mid_of at (length w) text) → put_mid at (length w) text w ≡ sets text at w
placed [] text at e = take-append-drop at text
placed (b ∷ w) text at e =
    ap (λ l. take at text ++ ((b ∷ w) ++ l)) (drop-drop (length (b ∷ w)) at text)
    ∙ sym (append_assoc (take at text) (b ∷ w) (drop (at + length (b ∷ w)) text))
    ∙ sym (sets-eq (b ∷ w) text at (room (length (b ∷ w)) at text (omega arith) e))

stored-here : (w text : List ℕ) (at : ℕ) → at + length w ≤ 65536 → length w ≡ length (mid_of at (length w) text)
    → Stored w at text (put_mid at (length w) text w) (at + length w)
stored-here w text at h e =
    let none : at + length w - (at + length w) ≡ 0 = omega arith in
    record {
      fits = λ _. record { after_is = placed w text at e; next_is = refl };
      no_more = omega arith;
      holds = λ l. rw none (take-put_mid at (length w) text w (at + length w) refl (omega arith));
      whole = rw none;
      bounded = h;
      same_length = same_len_mid at (length w) text w e;
    }

pub printed-here : {w mid : List ℕ} {at k : ℕ} {held : Option ℕ} (text : List ℕ) → held ≡ Some at → at + length w ≤ 65536 → k ≡ length w
    → length mid ≡ length (mid_of at k text) → mid ≡ w → Printed w held text (put_mid at k text mid) (Some (at + length w))
printed-here {w} {at = at} text s h k e m = rw (s, k, m) (stored-here w text at h (rw (k, m) at e))

-- ---- what the loop keeps: the first i bytes of the word are printed
pub record Upto (word : List ℕ) (held : Option ℕ) (before after : List ℕ) (next : Option ℕ) (i : ℕ) : Type 0 where
  pub within : Within held
  pub printed : Printed (take i word) held before after next

module _ {word : List ℕ} {held then : Option ℕ} {before after : List ℕ} {i : ℕ} (u : Upto word held before after then i) where
  pub upto-more : i < length word → {more : List ℕ} {next : Option ℕ} → Printed (get_or word i 0 ∷ []) then after more next
      → Upto word held before more next (i + 1)
  upto-more h p =
      record {
        within = u.within;
        printed = rw (add-one, take-suc word i 0 h) (printed-more _ _ held then _ before after _ u.within u.printed p);
      }

-- ---- numbers
pub number-printed : {x k : ℕ} {held : Option ℕ} {d before after : List ℕ} {next : Option ℕ} → IsDigitCount 10 1 x k → d ≡ last_digits 10 k x
    → Printed d held before after next → Named [] x held before after next
number-printed {k = k} f e p = record { count = k; fewest = f; printed = rw e at p }

pub named-printed : {word : List ℕ} {x : ℕ} {held then : Option ℕ} {before between after : List ℕ} {next : Option ℕ} → Within held
    → Printed word held before between then → Named [] x then between after next → Named word x held before after next
named-printed {word} {x} {held} {then} {before} {between} {after} {next} h p q =
    record { count = q.count; fewest = q.fewest; printed = printed-more word _ held then next before between after h p q.printed }
