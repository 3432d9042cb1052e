-- What is kept of a text of lines, of which nothing is known before it is read.
use Rattle.std.specs.Prelude.{◌≡◌, ℕ, ◌≤◌, true, cond, Option, Some, None, List, length, take}
use Rattle.text.specs.Hex.{readable, bytes_in}
use Rattle.text.specs.Reading.{good_at}
use Rattle.text.specs.declared.read.Reader.{Reader}

-- the text ends here: so many bytes were read, where no line is malformed
abbrev pub read_at_end : (digits : ℕ) → Reader → Option ℕ
read_at_end d r = cond (good_at d r.bad r.column) (Some r.length) None

-- the n bytes at the buffer's front are those of some readable text, or the first `most` of them
pub record Front (digits most : ℕ) (buffer : List ℕ) (n : ℕ) : Type 0 where
  pub text : List ℕ
  pub readable_is : readable digits text ≡ true
  pub bytes_are : take n buffer ≡ take most (bytes_in text)
  pub length_is : n ≡ length (take most (bytes_in text))
  pub within : n ≤ most

-- where there is nothing to go on with nothing is said of the buffer
abbrev pub Kept : (digits most : ℕ) → (buffer : List ℕ) → Option ℕ → Type 0
Kept d m buffer (Some n) = Front d m buffer n
Kept d m buffer None = Unit {0}
