-- A number is read digit by digit. Assumes nothing.
use Rattle.std.proofs.Common.{◌≡◌, ℕ, zero, suc, ◌+◌, ◌-◌, ◌*◌, ◌<◌, ◌≤◌, Some, None, Bool, true, false, ◌&&◌, eqb, leb, List, [], ◌∷◌, length, get_or, drop, sym, refl, ap, ◌∙◌, add-one, arith, drop-cons, le-leb, leb-true, eqb-true}
use mathlib.Core.Bool.{and-false, false≢true}
use borrow.Author.Tests.{lt-leb}
use lib.Seq.{drop-nil}
use Rattle.console.specs.Number.{is_figure, are_figures, value_from, number_from, number_of}

figure-low : (b : ℕ) → is_figure b ≡ true → 48 ≤ b
figure-low b e = by (leb 48 b) refl e
  where
    by : (t : Bool) → leb 48 b ≡ t → t && leb b 57 ≡ true → 48 ≤ b
    by true q x = leb-true 48 b q
    by false q x = absurd (false≢true x)

-- more digits make no smaller number
grows : (v : ℕ) (bs : List ℕ) → v ≤ value_from v bs
unfolding value_from
grows v [] = omega arith
grows v (b ∷ bs) = omega (arith, grows (10 * v + (b - 48)) bs)

no-figure : (v b : ℕ) (bs : List ℕ) → is_figure b ≡ false → number_from v (b ∷ bs) ≡ None
unfolding number_from are_figures
no-figure v b bs e = rw e

one-figure : (v b : ℕ) (bs : List ℕ) → is_figure b ≡ true → number_from v (b ∷ bs) ≡ number_from (10 * v + (b - 48)) bs
unfolding number_from are_figures value_from
one-figure v b bs e = rw e

too_large : (v : ℕ) (bs : List ℕ) → 65535 < v → number_from v bs ≡ None
unfolding number_from
too_large v bs h = rw (lt-leb (value_from v bs) 65535 (omega (arith, grows v bs)), and-false)

all_read : (v : ℕ) → v ≤ 65535 → number_from v [] ≡ Some v
unfolding number_from are_figures value_from
all_read v h = rw (le-leb v 65535 h)

-- ---- what the loop keeps: the first i digits are read
pub record Read (text : List ℕ) (value i : ℕ) : Type 0 where
  pub inside : i ≤ length text
  pub small : value ≤ 65535
  pub same : number_of text ≡ number_from value (drop i text)

pub none_read : (text : List ℕ) → eqb (length text) 0 ≡ true → None ≡ number_of text
unfolding number_of
none_read [] e = refl
none_read (b ∷ bs) e = absurd (let h : suc (length bs) ≡ 0 = eqb-true _ _ e in let z : ⊥ = omega arith in z)

pub read-starts : (text : List ℕ) → eqb (length text) 0 ≡ false → Read text 0 0
unfolding number_of
read-starts [] n = absurd (false≢true (sym n))
read-starts (b ∷ bs) n = record { inside = omega arith; small = omega arith; same = refl }

module _ {text : List ℕ} {value i : ℕ} (r : Read text value i) (h : i < length text) where
  split : number_of text ≡ number_from value (get_or text i 0 ∷ drop (suc i) text)
  split = r.same ∙ ap (number_from value) (drop-cons text i 0 h)

  pub read-other : is_figure (get_or text i 0) ≡ false → None ≡ number_of text
  read-other o = sym (split ∙ no-figure value (get_or text i 0) (drop (suc i) text) o)

  module _ (o : is_figure (get_or text i 0) ≡ true) {next : ℕ} (q : next ≡ 10 * value + (get_or text i 0 - 48)) where
    after : number_of text ≡ number_from next (drop (suc i) text)
    after =
        split ∙ one-figure value (get_or text i 0) (drop (suc i) text) o
        ∙ ap (λ x. number_from x (drop (suc i) text)) (sym q)

    pub read-over : 65535 < next → None ≡ number_of text
    read-over l = sym (after ∙ too_large next (drop (suc i) text) l)

    pub read_more : next ≤ 65535 → Read text next (i + 1)
    read_more l =
        record { inside = omega arith; small = l; same = after ∙ ap (λ n. number_from next (drop n text)) (sym (add-one i)) }

drop-end : (xs : List ℕ) (n : ℕ) → length xs ≤ n → drop n xs ≡ []
drop-end [] n h = drop-nil n
drop-end (x ∷ xs) zero h = absurd (let z : ⊥ = omega arith in z)
drop-end (x ∷ xs) (suc n) h = drop-end xs n (omega arith)

pub read_all : {text : List ℕ} {value i : ℕ} → Read text value i → length text ≤ i → Some value ≡ number_of text
read_all {text} {value} {i} r h = sym (r.same ∙ ap (number_from value) (drop-end text i h) ∙ all_read value r.small)
