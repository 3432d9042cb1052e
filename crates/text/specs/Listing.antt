-- A table's listing and a refusal's line, as text (01, "A table and its listing").
use Rattle.std.specs.Prelude.{ℕ, zero, suc, ◌+◌, ◌*◌, ◌/◌, ◌%◌, ◌≤◌, ◌<◌, ◌≡◌, cond, true, List, [], ◌∷◌, ◌++◌, ltb, length, take, drop}
use Rattle.std.proofs.lemmas.List.Edits.{sets}
use Rattle.text.specs.Hex.{hex, newline, readable, bytes_in}

-- ---- the texts
-- so many groups of `width` bytes, the digits of each on a line
unfoldable pub group_lines : (count width : ℕ) → (table : List ℕ) → List ℕ
group_lines zero w t = []
group_lines (suc n) w t = hex (take w t) ++ (newline ∷ group_lines n w (drop w t))

abbrev pub listing_text : (width : ℕ) → (table : List ℕ) → List ℕ
listing_text w t = group_lines (length t / w) w t

-- a number below 1,000, without leading zeros
unfoldable pub decimal : ℕ → List ℕ
decimal n =
    cond (ltb n 10) ((48 + n) ∷ [])
    (cond (ltb n 100) ((48 + n / 10) ∷ (48 + n % 10) ∷ [])
    ((48 + n / 100) ∷ (48 + n / 10 % 10) ∷ (48 + n % 10) ∷ []))

-- `refused ` with its space
unfoldable pub refused_word : List ℕ
refused_word = 114 ∷ 101 ∷ 102 ∷ 117 ∷ 115 ∷ 101 ∷ 100 ∷ 32 ∷ []

abbrev pub refused_text : (number : ℕ) → List ℕ
refused_text n = refused_word ++ decimal n ++ (newline ∷ [])

-- ---- what the code asks and promises
-- the table is so many whole groups, and their lines fit in the buffer
pub record Listable (width : ℕ) (table out : List ℕ) : Type 0 where
  pub count : ℕ
  pub some_width : 0 < width
  pub narrow : width ≤ 100
  pub few : count ≤ 3000
  pub whole : length table ≡ width * count
  pub room : count * (2 * width + 1) ≤ length out

-- the text stands at the buffer's front, and behind it the buffer is as it was
pub record Written (text before after : List ℕ) (end : ℕ) : Type 0 where
  pub text_is : after ≡ text ++ drop (length text) before
  pub length_is : end ≡ length text

-- the text is stored from `at`, and `next` is the byte behind it
pub record Puts (text : List ℕ) (at : ℕ) (before after : List ℕ) (next : ℕ) : Type 0 where
  pub after_is : after ≡ sets before at text
  pub next_is : next ≡ at + length text

-- That a listing is read back to its table.
pub record ReadsBack (width : ℕ) (table : List ℕ) : Type 0 where
  pub readable_is : readable (2 * width) (listing_text width table) ≡ true
  pub bytes_are : bytes_in (listing_text width table) ≡ table
