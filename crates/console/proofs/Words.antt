-- A word begins with a name where it has the name's bytes, one by one. Assumes nothing.
use Rattle.std.proofs.Common.{◌≡◌, ℕ, suc, ◌+◌, ◌<◌, ◌≤◌, true, false, Some, None, List, [], ◌∷◌, length, get_or, drop, sym, refl, ap, ◌∙◌, add-one, arith, drop_of_length-le, drop-cons, eq-eqb, ne_eqb}
use mathlib.Core.Bool.{and-false}
use Rattle.console.specs.Word.{begins, skip_of}

-- ---- beginning with a name
begins-more : (w n : ℕ) (ws ns : List ℕ) → w ≡ n → begins (w ∷ ws) (n ∷ ns) ≡ begins ws ns
unfolding begins
begins-more w n ws ns e = rw (eq-eqb w n e)

begins-not : (w n : ℕ) (ws ns : List ℕ) → (w ≡ n → ⊥) → begins (w ∷ ws) (n ∷ ns) ≡ false
unfolding begins
begins-not w n ws ns e = rw (ne_eqb w n e)

begins-short : (word name : List ℕ) → length word < length name → begins word name ≡ false
unfolding begins
begins-short word [] h = absurd (let z : ⊥ = omega arith in z)
begins-short [] (n ∷ ns) h = refl
begins-short (w ∷ ws) (n ∷ ns) h = rw (begins-short ws ns (omega arith), and-false)

begins-none : (word name : List ℕ) → length name ≡ 0 → begins word name ≡ true
unfolding begins
begins-none word [] e = refl
begins-none word (n ∷ ns) e = absurd (let z : ⊥ = omega arith in z)

none-skipped : (word name : List ℕ) → begins word name ≡ false → None ≡ skip_of word name
unfolding skip_of
none-skipped word name e = rw e

all-skipped : (word name : List ℕ) → begins word name ≡ true → Some (drop (length name) word) ≡ skip_of word name
unfolding skip_of
all-skipped word name e = rw e

pub skip-short : (word name : List ℕ) → length word < length name → None ≡ skip_of word name
skip-short word name h = none-skipped word name (begins-short word name h)

-- what the loop keeps: the first i bytes are the same
pub record Alike (word name : List ℕ) (i : ℕ) : Type 0 where
  pub inside : i ≤ length name
  pub fits : length name ≤ length word
  pub same : begins word name ≡ begins (drop i word) (drop i name)

pub alike-none : (word name : List ℕ) → length name ≤ length word → Alike word name 0
alike-none word name h = record { inside = omega arith; fits = h; same = refl }

module _ {word name : List ℕ} {i : ℕ} (a : Alike word name i) (h : i < length name) where
  split : begins word name ≡ begins (get_or word i 0 ∷ drop (suc i) word) (get_or name i 0 ∷ drop (suc i) name)
  split =
      a.same ∙ ap (λ l. begins l (drop i name)) (drop-cons word i 0 (omega (arith, a.fits)))
      ∙ ap (begins (get_or word i 0 ∷ drop (suc i) word)) (drop-cons name i 0 h)

  pub alike-not : (get_or word i 0 ≡ get_or name i 0 → ⊥) → None ≡ skip_of word name
  alike-not e = none-skipped word name (split ∙ begins-not (get_or word i 0) (get_or name i 0) (drop (suc i) word) (drop (suc i) name) e)

  pub alike-more : get_or word i 0 ≡ get_or name i 0 → Alike word name (i + 1)
  alike-more e =
      record {
        inside = omega arith;
        fits = a.fits;
        same = split ∙ begins-more (get_or word i 0) (get_or name i 0) (drop (suc i) word) (drop (suc i) name) e
            ∙ ap (λ n. begins (drop n word) (drop n name)) (sym (add-one i));
      }

pub alike_all : {word name : List ℕ} {i : ℕ} → Alike word name i → length name ≤ i → Some (drop (length name) word) ≡ skip_of word name
alike_all {word} {name} {i} a h =
    let end : length (drop i name) ≡ 0 = ap length (drop_of_length-le name h) in
    all-skipped word name (a.same ∙ begins-none (drop i word) (drop i name) end)
