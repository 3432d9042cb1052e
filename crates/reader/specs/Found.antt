-- What reading back finds.
use Rattle.std.specs.Prelude.{ℕ, ◌≡◌, true, false, List, Option, Some, None, length}
use Rattle.rules.specs.ReadBack.{source_bytes, is_hardened_lem}
use Rattle.rules.specs.Calls.{check_hardened_call}
use Rattle.reader.specs.Candidate.{Fronted}

-- the lines are not hardened, or the source table has so many bytes
abbrev pub Found : Type 0
Found = Option ℕ

pattern abbrev pub NotHardened : Found
NotHardened = None

pattern abbrev pub Source : ℕ → Found
Source n = Some n

-- each case's number (01, "What turns a call away"), and the length of the source table that it gives
abbrev pub found_number : Found → ℕ
found_number NotHardened = 10
found_number (Source n) = 0

abbrev pub found_length : Found → ℕ
found_length NotHardened = 0
found_length (Source n) = n

-- The number is the call's; with 0 the source table is at the front of the buffer. Every other byte of the buffer is left open, with
-- 10 all of them: of these only their number is promised.
pub record FoundIs (lines rows : List ℕ) (r : Found) : Type 0 where
  pub number_is : found_number r ≡ check_hardened_call lines
  pub front : found_number r ≡ 0 → Fronted lines rows (found_length r)
  pub left_open : length rows ≡ 6156

-- the same by the rows alone, where they are what the lines are read back to
abbrev pub JudgedIs : (lines rows : List ℕ) → Found → Type 0
JudgedIs lines rows NotHardened = source_bytes lines ≡ rows → is_hardened_lem lines ≡ false
JudgedIs lines rows (Source n) = (n ≡ length rows) × (source_bytes lines ≡ rows → is_hardened_lem lines ≡ true)
