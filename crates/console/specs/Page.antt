-- The page of 65,536 bytes in front of standard output: so many bytes of it are held, or output is lost and nothing is.
use Rattle.std.specs.Prelude.{◌≡◌, ℕ, ◌+◌, ◌-◌, ◌%◌, ◌<◌, ◌≤◌, Option, Some, None, List, ◌++◌, length, take, drop}
use Rattle.io.specs.Digits.{last_digits, IsDigitCount}
use Rattle.text.specs.Listing.{Puts}

-- A text is printed behind the `at` bytes that the page held, and then it holds `next`. Where the text fits it is stored behind them; else
-- the page, each time that it was full, was written out on the way, and holds the last bytes of both.
pub record Stored (text : List ℕ) (at : ℕ) (before after : List ℕ) (next : ℕ) : Type 0 where
  pub fits : at + length text ≤ 65536 → Puts text at before after next
  pub no_more : next ≤ at + length text
  pub holds : length before ≡ 65536 → take next after ≡ drop (at + length text - next) (take at before ++ text)
  pub whole : (at + length text - next) % 65536 ≡ 0
  pub bounded : next ≤ 65536
  pub same_length : length after ≡ length before

-- the page was full on the way, and could not be written out
pub record LostOnTheWay (text : List ℕ) (at : ℕ) (before after : List ℕ) : Type 0 where
  pub too_long : 65536 < at + length text
  pub same_length : length after ≡ length before

-- lost output stays lost, and what comes after is dropped
abbrev pub Printed : (text : List ℕ) → (held : Option ℕ) → (before after : List ℕ) → (next : Option ℕ) → Type 0
Printed t (Some at) before after (Some next) = Stored t at before after next
Printed t (Some at) before after None = LostOnTheWay t at before after
Printed t None before after (Some next) = ⊥
Printed t None before after None = after ≡ before

-- the same of a word with a number in decimal digits behind it, and no zeros before them
pub record Named (word : List ℕ) (number : ℕ) (held : Option ℕ) (before after : List ℕ) (next : Option ℕ) : Type 0 where
  pub count : ℕ
  pub fewest : IsDigitCount 10 1 number count
  pub printed : Printed (word ++ last_digits 10 count number) held before after next

-- the page is empty once it is written out, or output is lost
abbrev pub Emptied : (held next : Option ℕ) → Type 0
Emptied (Some at) (Some next) = next ≡ 0
Emptied (Some at) None = Unit {0}
Emptied None (Some next) = ⊥
Emptied None None = Unit {0}

pub record Flushed (held : Option ℕ) (before after : List ℕ) (next : Option ℕ) : Type 0 where
  pub emptied : Emptied held next
  pub same : after ≡ before
