-- Small texts, read and written by computation: what is readable at four digits a line, and what is not.
use Rattle.std.specs.Prelude.{◌≡◌, refl, true, false, [], ◌∷◌}
use Rattle.text.specs.Hex.{hex, all_digits, spelt, split_lines, all_fit, all_spelt, readable, bytes_in}
use Rattle.text.specs.Listing.{group_lines, listing_text, decimal, refused_word, refused_text}

-- no text, no line
empty : readable 4 [] ≡ true
unfolding all_digits split_lines all_fit
empty = refl

-- `01af`, and the same with a newline
line : readable 4 (48 ∷ 49 ∷ 97 ∷ 102 ∷ []) ≡ true
unfolding all_digits split_lines all_fit
line = refl

ended : readable 4 (48 ∷ 49 ∷ 97 ∷ 102 ∷ 10 ∷ []) ≡ true
unfolding all_digits split_lines all_fit
ended = refl

-- `01af` and `ff00`: 1, 175, 255, 0
bytes : bytes_in (48 ∷ 49 ∷ 97 ∷ 102 ∷ 10 ∷ 102 ∷ 102 ∷ 48 ∷ 48 ∷ []) ≡ 1 ∷ 175 ∷ 255 ∷ 0 ∷ []
unfolding spelt split_lines all_spelt
bytes = refl

-- a lone newline is an empty line
newline_alone : readable 4 (10 ∷ []) ≡ false
unfolding all_digits split_lines all_fit
newline_alone = refl

-- an empty line behind a whole one
blank : readable 4 (48 ∷ 49 ∷ 97 ∷ 102 ∷ 10 ∷ 10 ∷ []) ≡ false
unfolding all_digits split_lines all_fit
blank = refl

-- `01a`, `01af0`, `01aF`, a carriage return and a space
short : readable 4 (48 ∷ 49 ∷ 97 ∷ 10 ∷ []) ≡ false
unfolding all_digits split_lines all_fit
short = refl

long : readable 4 (48 ∷ 49 ∷ 97 ∷ 102 ∷ 48 ∷ 10 ∷ []) ≡ false
unfolding all_digits split_lines all_fit
long = refl

uppercase : readable 4 (48 ∷ 49 ∷ 97 ∷ 70 ∷ 10 ∷ []) ≡ false
unfolding all_digits split_lines all_fit
uppercase = refl

carriage : readable 4 (48 ∷ 49 ∷ 97 ∷ 102 ∷ 13 ∷ 10 ∷ []) ≡ false
unfolding all_digits split_lines all_fit
carriage = refl

space : readable 4 (48 ∷ 49 ∷ 32 ∷ 102 ∷ 10 ∷ []) ≡ false
unfolding all_digits split_lines all_fit
space = refl

-- two groups of two bytes, and three refusals
listed : listing_text 2 (1 ∷ 175 ∷ 255 ∷ 0 ∷ []) ≡ 48 ∷ 49 ∷ 97 ∷ 102 ∷ 10 ∷ 102 ∷ 102 ∷ 48 ∷ 48 ∷ 10 ∷ []
unfolding group_lines hex
listed = refl

refused_7 : refused_text 7 ≡ 114 ∷ 101 ∷ 102 ∷ 117 ∷ 115 ∷ 101 ∷ 100 ∷ 32 ∷ 55 ∷ 10 ∷ []
unfolding decimal refused_word
refused_7 = refl

refused_10 : refused_text 10 ≡ 114 ∷ 101 ∷ 102 ∷ 117 ∷ 115 ∷ 101 ∷ 100 ∷ 32 ∷ 49 ∷ 48 ∷ 10 ∷ []
unfolding decimal refused_word
refused_10 = refl

refused_205 : refused_text 205 ≡ 114 ∷ 101 ∷ 102 ∷ 117 ∷ 115 ∷ 101 ∷ 100 ∷ 32 ∷ 50 ∷ 48 ∷ 53 ∷ 10 ∷ []
unfolding decimal refused_word
refused_205 = refl
