-- What is written for a row, and for some rows: their lines, at the front of a buffer.
use Rattle.std.specs.Prelude.{ℕ, zero, suc, ◌+◌, ◌*◌, ◌-◌, ◌/◌, ◌≤◌, ◌<◌, ◌≡◌, true, false, List, [], ◌++◌, length, take, drop}
use Rattle.rules.specs.Row.{Table, table_of, kind_at}
use Rattle.rules.specs.Scan.{open_at, body_region, else_of}
use Rattle.rules.specs.Line.{line_width, Line, line_at, lines_bytes}
use Rattle.rules.specs.Harden.{line_count, line_of, test_of, lines_of}
use Rattle.rules.specs.Calls.{over}
use Rattle.layout.specs.Spot.{Grows}

-- line ph of row i
unfoldable pub row_line : Table → (i ph : ℕ) → Line
row_line t i ph = line_at (lines_of t i) ph

-- the test of row i, without and with an else
unfoldable pub plain_test_lem : Table → (i : ℕ) → Line
plain_test_lem t i = test_of t i (open_at t i) false

unfoldable pub else_test_lem : Table → (i : ℕ) → Line
else_test_lem t i = test_of t i (open_at t i) true

-- row x is the else row of the if in row i
pub record TurnsAt (bs : List ℕ) (i x : ℕ) : Type 0 where
  pub is : x ≡ else_of (table_of bs) i
  pub grows : Grows bs x
  pub same_body : body_region (open_at (table_of bs) x) ≡ body_region (open_at (table_of bs) i)

-- the bytes of the lines of row i; of d rows from row i on
unfoldable pub row_bytes : Table → (i : ℕ) → List ℕ
row_bytes t i = lines_bytes (lines_of t i)

unfoldable pub rows_bytes : Table → (i d : ℕ) → List ℕ
rows_bytes t i zero = []
rows_bytes t i (suc d) = rows_bytes t i d ++ row_bytes t (i + d)

-- row i makes so many lines
pub record Makes (bs : List ℕ) (i count : ℕ) : Type 0 where
  pub row : i < length bs / 6
  pub are : line_count (kind_at (table_of bs) i) ≡ count

-- a buffer that begins with line f holds the lines of row i; one that begins with those of row i holds the lines of d rows
pub record Holds (bs : List ℕ) (i f : ℕ) (out : List ℕ) : Type 0 where
  pub low : f ≤ line_of (table_of bs) i
  pub enough : line_width * (line_of (table_of bs) i + line_count (kind_at (table_of bs) i)) ≤ line_width * f + length out

pub record Room (bs : List ℕ) (i d : ℕ) (out : List ℕ) : Type 0 where
  pub rows : i + d ≤ length bs / 6
  pub enough : line_width * line_of (table_of bs) (i + d) ≤ line_width * line_of (table_of bs) i + length out

-- bytes from byte n on, before and behind them what was held
abbrev pub over_at : (n : ℕ) → (bytes held : List ℕ) → List ℕ
over_at n bytes held = take n held ++ over bytes (drop n held)

-- the lines of row i are written to a buffer that begins with line f
pub record Emitted (bs : List ℕ) (i f : ℕ) (out out' : List ℕ) : Type 0 where
  pub is : out' ≡ over_at (line_width * (line_of (table_of bs) i - f)) (row_bytes (table_of bs) i) out
