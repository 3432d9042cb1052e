-- The numbers of the cases, looked through. Assumes nothing.
use mathlib.Core.Path.{◌≡◌, refl, sym, ap, ◌∙◌}
use mathlib.Core.Bool.{Bool, true, false, ◌||◌}
use mathlib.Core.List.{List, [], ◌∷◌}
use Prim.Native.Nat.{ℕ, suc, ◌+◌, ◌≤◌, ◌<◌}
use native.Mathlib.Numerals.{add-one}
use native.Mathlib.Decide.{le_ind}
use native.Mathlib.Omega.{arith}
use lib.Dec.{eqb}
use lib.ListN.{length, get_or}
use borrow.Author.Tests.{eq-eqb, ne_eqb}
use Rattle.rules.specs.Given.{is_among}
use Rattle.given.specs.Things.{NumbersAt, among_words}

-- the number is none of the first `done` words
pub record AmongTo (x : ℕ) (us : List ℕ) (b done : ℕ) : Type 0 where
  pub none : among_words x us b done ≡ false

pub among-start : (x : ℕ) (us : List ℕ) (b : ℕ) → AmongTo x us b 0
unfolding among_words
among-start x us b = record { none = refl }

-- a number among the first d words is one of more
among-more : (x : ℕ) (us : List ℕ) (b d : ℕ) → among_words x us b d ≡ true → (n : ℕ) → d ≤ n → among_words x us b n ≡ true
unfolding among_words
among-more x us b d e n l = le_ind (λ m. among_words x us b m ≡ true) e (λ m k h. or_right (eqb x (get_or us (b + m) 0)) h) n l
  where
    or_right : (a : Bool) {c : Bool} → c ≡ true → a || c ≡ true
    or_right true h = refl
    or_right false h = h

module _ (x : ℕ) (us : List ℕ) (b done : ℕ) where
  pub among-found : {count : ℕ} → done < count → get_or us (b + done) 0 ≡ x → true ≡ among_words x us b count
  unfolding among_words
  among-found {count} l e =
      let q : among_words x us b (suc done) ≡ true = ap (λ c. c || among_words x us b done) (eq-eqb x (get_or us (b + done) 0) (sym e)) in
      sym (among-more x us b (suc done) q count (omega arith))

  pub among-on : AmongTo x us b done → (get_or us (b + done) 0 ≡ x → ⊥) → AmongTo x us b (done + 1)
  unfolding among_words
  among-on v n =
      let q : among_words x us b (suc done) ≡ false = ap (λ c. c || among_words x us b done) (ne_eqb x (get_or us (b + done) 0) (λ e. n (sym e))) ∙ v.none in
      record { none = ap (among_words x us b) (add-one done) ∙ q }

  pub among_none : {count : ℕ} → AmongTo x us b done → done ≡ count → false ≡ among_words x us b count
  among_none v q = sym (ap (among_words x us b) (sym q) ∙ v.none)

-- the words of a switch are its numbers
pub among-words : (x : ℕ) (us : List ℕ) (b : ℕ) (ns : List ℕ) → NumbersAt us b ns → among_words x us b (length ns) ≡ is_among x ns
unfolding among_words
among-words x us b [] h = refl
among-words x us b (n ∷ ns) h =
    ap (λ m. eqb x m || among_words x us b (length ns)) h.0 ∙ ap (λ r. eqb x n || r) (among-words x us b ns h.1)
