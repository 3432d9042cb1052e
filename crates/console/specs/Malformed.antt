-- What is wrong with a text that is to be lines of so many digits (docs/PROGRAMS.md, "A malformed line"): its first wrong byte, and the line
-- and column of that.
use Rattle.std.specs.Prelude.{ℕ, ◌+◌, ◌%◌, ◌^◌, Bool, cond, Option, Some, None, is_some, ◌&&◌, ◌||◌, List, [], ◌∷◌, ◌==◌, nat_le, nat_lt}
use Rattle.text.specs.Hex.{is_digit, newline}
use Rattle.console.specs.declared.malformed.Seen.{Seen}
use Rattle.console.specs.declared.malformed.Wrong.{Wrong}
use Rattle.console.specs.declared.malformed.Wrong.TheVariants.{CarriageReturn, Long, Uppercase, Space, Other, Empty, Short}

-- ---- one byte, behind so many digits of its line
-- a newline
unfoldable pub wrong_end_lem : (column digits : ℕ) → Option Wrong
wrong_end_lem n d = cond (n == 0) (Some Empty) (cond (nat_lt n d) (Some Short) None)

-- what should be a digit
unfoldable pub wrong_digit_lem : (b column digits : ℕ) → Option Wrong
wrong_digit_lem b n d =
    cond (nat_le d n) (Some Long)
    (cond (is_digit b) None
    (cond (nat_le 65 b && nat_le b 70) (Some Uppercase)
    (cond (b == 32 || b == 9) (Some Space) (Some Other))))

unfoldable pub wrong_byte_lem : (b column digits : ℕ) → Option Wrong
wrong_byte_lem b n d = cond (b == newline) (wrong_end_lem n d) (cond (b == 13) (Some CarriageReturn) (wrong_digit_lem b n d))

-- ---- a text
-- the first line, and nothing on it
abbrev pub at_first_lem : Seen
at_first_lem = record { line = 1; column = 0; wrong = None }

-- behind a byte with which nothing is wrong
unfoldable pub behind_byte : (b : ℕ) → Seen → Seen
behind_byte b s =
    cond (b == newline)
    (record { line = (s.line + 1) % 2 ^ 64; column = 0; wrong = None })
    (record { line = s.line; column = (s.column + 1) % 2 ^ 64; wrong = None })

abbrev pub is_wrong : Option Wrong → Bool
is_wrong w = is_some w

abbrev pub met_at : Option Wrong → Seen → Seen
met_at w s = record { line = s.line; column = s.column; wrong = w }

-- one byte on: what was wrong already stays, with its line and column
unfoldable pub next_seen : (digits : ℕ) → Seen → (b : ℕ) → Seen
next_seen d s b =
    cond (is_wrong s.wrong) s
    (cond (is_wrong (wrong_byte_lem b s.column d)) (met_at (wrong_byte_lem b s.column d) s) (behind_byte b s))

unfoldable pub look_on : (digits : ℕ) → Seen → (text : List ℕ) → Seen
look_on d s [] = s
look_on d s (b ∷ bs) = look_on d (next_seen d s b) bs
