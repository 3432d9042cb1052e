-- Bytes as text (01, "A table and its listing"): two lowercase hexadecimal digits a byte, so many bytes a line.
use Rattle.std.specs.Prelude.{Option, Some, None, ℕ, ◌+◌, ◌*◌, ◌-◌, ◌/◌, ◌%◌, Bool, true, cond, ◌&&◌, ◌||◌, List, [], ◌∷◌, ◌++◌, eqb, ltb, leb, length}

-- 0 to 9 and a to f
abbrev pub is_digit : ℕ → Bool
is_digit b = (leb 48 b && leb b 57) || (leb 97 b && leb b 102)

abbrev pub digit_value : ℕ → ℕ
digit_value b = cond (leb b 57) (b - 48) (b - 87)

-- the value of a byte, where it is a digit
unfoldable pub digit_of_lem : ℕ → Option ℕ
digit_of_lem b = cond (is_digit b) (Some (digit_value b)) None

abbrev pub digit : ℕ → ℕ
digit v = cond (ltb v 10) (48 + v) (87 + v)

abbrev pub newline : ℕ
newline = 10

-- ---- from bytes to text
-- the digits of these bytes, the high one first
unfoldable pub hex : List ℕ → List ℕ
hex [] = []
hex (x ∷ xs) = digit (x / 16) ∷ digit (x % 16) ∷ hex xs

-- ---- from text to bytes
-- every byte of the line is a digit, and there are so many
unfoldable pub all_digits : List ℕ → Bool
all_digits [] = true
all_digits (b ∷ bs) = is_digit b && all_digits bs

abbrev pub line_fits : (digits : ℕ) → List ℕ → Bool
line_fits d bs = eqb (length bs) d && all_digits bs

-- the bytes that a line's digits spell
unfoldable pub spelt : List ℕ → List ℕ
spelt [] = []
spelt (b ∷ []) = []
spelt (b ∷ c ∷ bs) = (16 * digit_value b + digit_value c) ∷ spelt bs

-- the lines of a text, where `begun` stands before it on the first; a last line needs no newline
unfoldable pub split_lines : (begun text : List ℕ) → List (List ℕ)
split_lines [] [] = []
split_lines (x ∷ begun) [] = (x ∷ begun) ∷ []
split_lines begun (b ∷ bs) = cond (eqb b newline) (begun ∷ split_lines [] bs) (split_lines (begun ++ (b ∷ [])) bs)

unfoldable pub all_fit : (digits : ℕ) → List (List ℕ) → Bool
all_fit d [] = true
all_fit d (l ∷ ls) = line_fits d l && all_fit d ls

unfoldable pub all_spelt : List (List ℕ) → List ℕ
all_spelt [] = []
all_spelt (l ∷ ls) = spelt l ++ all_spelt ls

-- "If any line is malformed": some line is not of so many digits
abbrev pub readable : (digits : ℕ) → (text : List ℕ) → Bool
readable d text = all_fit d (split_lines [] text)

-- the bytes of a readable text
abbrev pub bytes_in : (text : List ℕ) → List ℕ
bytes_in text = all_spelt (split_lines [] text)
