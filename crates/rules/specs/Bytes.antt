-- Bytes, words of two bytes, and the search for the first number that passes a test.
use Rattle.std.specs.Prelude.{ℕ, zero, suc, ◌+◌, ◌*◌, ◌/◌, ◌%◌, ◌<◌, Bool, true, false, cond, ◌&&◌, List, [], ◌∷◌, eqb, get_or}

-- every number of the list is a byte: what a slice of bytes holds
pub record AreBytes (bs : List ℕ) : Type 0 where
  pub each : (i : ℕ) → get_or bs i 0 < 256

-- 01, "two bytes, low byte first"
abbrev pub low : ℕ → ℕ
low n = n % 256

abbrev pub high : ℕ → ℕ
high n = n / 256

-- the word whose low byte is byte k
abbrev pub word_at : List ℕ → ℕ → ℕ
word_at bs k = get_or bs k 0 + 256 * get_or bs (k + 1) 0

-- the two lists are the same
unfoldable pub same : List ℕ → List ℕ → Bool
same [] [] = true
same [] (y ∷ ys) = false
same (x ∷ xs) [] = false
same (x ∷ xs) (y ∷ ys) = eqb x y && same xs ys

-- the first of the numbers j, j + 1, .. j + d - 1 that passes the test, or j + d where none does
unfoldable pub first : (ℕ → Bool) → (d j : ℕ) → ℕ
first p zero j = j
first p (suc d) j =
    let later = first p d (suc j) in
    cond (p j) j later
