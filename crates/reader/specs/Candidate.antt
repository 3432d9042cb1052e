-- The rows that lines are read back to, as bytes.
use Rattle.std.specs.Prelude.{ℕ, suc, ◌+◌, ◌*◌, ◌-◌, ◌/◌, ◌≤◌, ◌<◌, ◌≡◌, Bool, true, false, cond, List, Option, Some, None, ltb, length, take}
use Rattle.rules.specs.Line.{line_width, lines_in, line_at}
use Rattle.rules.specs.Limits.{max_rows}
use Rattle.rules.specs.Row.{row_width, table_bytes}
use Rattle.rules.specs.ReadBack.{leaves_to_lem, begins, unread_to, source_bytes}
use Rattle.rows.specs.Row.{Added}
use Rattle.line.specs.declared.kind.LineKind.{LineKind}
use Rattle.line.specs.declared.kind.LineKind.TheVariants.{Do, Tick, Test, Leave, Out, Call, Back, Ret}
use Rattle.line.specs.Read.{line_kind_at, struct_at}
use Rattle.reader.specs.Functions.{Short}

abbrev pub is_leave_lem : LineKind → Bool
is_leave_lem Do = false
is_leave_lem Tick = false
is_leave_lem Test = false
is_leave_lem Leave = true
is_leave_lem Out = false
is_leave_lem Call = false
is_leave_lem Back = false
is_leave_lem Ret = false

-- line k is a line of the table
pub record Here (bs : List ℕ) (k : ℕ) : Type 0 where
  pub table : Short bs
  pub inside : line_width * k + line_width ≤ length bs

-- the kind bytes of the rows that a test, a leave and an out in line k stand for
abbrev pub test_kind_lem : List ℕ → (k : ℕ) → ℕ
test_kind_lem bs k = cond (leaves_to_lem k (line_at (lines_in bs) ((struct_at bs k).go - 1))) 0x05 0x03

abbrev pub leave_kind_lem : List ℕ → (k : ℕ) → ℕ
leave_kind_lem bs k = cond (ltb (suc k) (struct_at bs k).go) 0x04 0x06

abbrev pub out_kind_lem : List ℕ → (k : ℕ) → ℕ
out_kind_lem bs k = cond (ltb k (struct_at bs k).go) 0x07 0x08

-- the rows of the lines before this one are written, and whether a function row is the next
pub record Reading (bs rows₀ rows : List ℕ) (at : ℕ) (opening : Bool) (line : ℕ) : Type 0 where
  pub opens : opening ≡ begins (lines_in bs) line
  pub few : line ≤ length bs / line_width
  pub room : at ≤ 6156
  pub length_is : length rows ≡ 6156
  pub length_was : length rows₀ ≡ 6156
  pub added : Added (table_bytes (unread_to (lines_in bs) line)) rows₀ rows 0 at

-- a do and its tick
pub record Pair (bs : List ℕ) (line : ℕ) : Type 0 where
  pub inside : line_width * line + 2 * line_width ≤ length bs
  pub first : line_kind_at bs line ≡ Do
  pub second : line_kind_at bs (line + 1) ≡ Tick

-- lines from this one up to the line `to` are read, six bytes for every two lines, and whether a function opens is as before
pub record DosRead (opening : Bool) (bs rows rows' : List ℕ) (at line to : ℕ) : Type 0 where
  pub on : line ≤ to
  pub leads : (rows₀ : List ℕ) → Reading bs rows₀ rows at opening line → Reading bs rows₀ rows' (at + 3 * (to - line)) opening to

-- the rows are at the front of the buffer, or they are more than a table may have
pub record Fronted (lines rows : List ℕ) (n : ℕ) : Type 0 where
  pub room : n ≤ 6156
  pub count_is : n ≡ length (source_bytes lines)
  pub front_is : take n rows ≡ source_bytes lines

abbrev pub Candidate : Type 0
Candidate = Option ℕ

pattern abbrev pub TooLong : Candidate
TooLong = None

pattern abbrev pub Bytes : ℕ → Candidate
Bytes n = Some n

abbrev pub CandidateIs : (lines rows : List ℕ) → Candidate → Type 0
CandidateIs lines rows TooLong = row_width * max_rows < length (source_bytes lines)
CandidateIs lines rows (Bytes n) = Fronted lines rows n
