-- What a writer was given that is used as a sheet.
use Rattle.std.specs.Prelude.{ℕ, List}
use Rattle.io.specs.Digits.{last_digits, IsDigitCount}

-- a number in decimal digits, with no zeros before them
pub record NumberGiven {W : Type 0} (gives : W → List ℕ → W → Type 0) (number : ℕ) (before after : W) : Type 0 where
  pub count : ℕ
  pub fewest : IsDigitCount 10 1 number count
  pub given : gives before (last_digits 10 count number) after

-- a word, and a number behind it
pub record WordAndNumber {W : Type 0} (gives : W → List ℕ → W → Type 0) (word : List ℕ) (number : ℕ) (before after : W) : Type 0 where
  pub between : W
  pub word_given : gives before word between
  pub number_given : NumberGiven gives number between after
