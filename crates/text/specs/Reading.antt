-- Reading a text byte by byte: what is kept between two bytes.
use Rattle.std.specs.Prelude.{ℕ, suc, ◌+◌, ◌*◌, ◌%◌, ◌≤◌, ◌<◌, ◌≡◌, Bool, true, false, cond, not, ◌&&◌, ◌||◌, List, [], ◌∷◌, ◌++◌, eqb, ltb, length, take, drop}
use Rattle.text.specs.declared.read.Reader.{Reader}
use Rattle.text.specs.Hex.{is_digit, digit_value, newline, readable, bytes_in}

-- a malformed line was met; the digits so far on the line; the last one's value; the bytes so far
pub record Sofar : Type 0 where
  pub bad : Bool
  pub column : ℕ
  pub high : ℕ
  pub bytes : List ℕ

abbrev pub at_start : Sofar
at_start = record { bad = false; column = 0; high = 0; bytes = [] }

abbrev pub spoil : Sofar → Sofar
spoil s = record { bad = true; column = s.column; high = s.high; bytes = s.bytes }

abbrev pub end_line : (digits : ℕ) → Sofar → Sofar
end_line d s = cond (eqb s.column d) (record { bad = s.bad; column = 0; high = s.high; bytes = s.bytes }) (spoil s)

-- a digit of this value: a byte's first one is kept, its second one makes the byte
abbrev pub add_digit : (value : ℕ) → Sofar → Sofar
add_digit v s =
    cond (eqb (s.column % 2) 0)
    (record { bad = s.bad; column = suc s.column; high = v; bytes = s.bytes })
    (record {
      bad = s.bad;
      column = suc s.column;
      high = s.high;
      bytes = s.bytes ++ ((16 * s.high + v) ∷ []);
    })

unfoldable pub next_byte : (digits : ℕ) → Sofar → ℕ → Sofar
next_byte d s b =
    cond s.bad s
    (cond (eqb b newline) (end_line d s) (cond (is_digit b && ltb s.column d) (add_digit (digit_value b) s) (spoil s)))

unfoldable pub read_on : (digits : ℕ) → Sofar → (text : List ℕ) → Sofar
read_on d s [] = s
read_on d s (b ∷ bs) = read_on d (next_byte d s b) bs

-- the text ends here: the last line is whole, or empty
abbrev pub good_at : (digits : ℕ) → (bad : Bool) → (column : ℕ) → Bool
good_at d bad column = not bad && (eqb column 0 || eqb column d)

abbrev pub is_good : (digits : ℕ) → Sofar → Bool
is_good d s = good_at d s.bad s.column

-- the same of the code's reader
abbrev pub spoilt_reader : Reader → Reader
spoilt_reader r = record { bad = true; column = r.column; high = r.high; length = r.length }

abbrev pub newline_reader : (digits : ℕ) → Reader → Reader
newline_reader d r = cond (eqb r.column d) (record { bad = r.bad; column = 0; high = r.high; length = r.length }) (spoilt_reader r)

-- the code's reader and its buffer, which held `old`, hold as many of the bytes as the buffer takes
pub record Holds (old : List ℕ) (s : Sofar) (r : Reader) (rows : List ℕ) : Type 0 where
  pub bad_is : r.bad ≡ s.bad
  pub column_is : r.column ≡ s.column
  pub high_is : r.high ≡ s.high
  pub length_is : r.length ≡ length (take (length old) s.bytes)
  pub rows_are : rows ≡ take (length old) s.bytes ++ drop (length (take (length old) s.bytes)) old

-- what the code asks of its reader and buffer, and keeps
pub record Sane (digits : ℕ) (r : Reader) (rows : List ℕ) : Type 0 where
  pub few : digits ≤ 1000
  pub column_fits : r.column ≤ digits
  pub high_fits : r.high < 16
  pub length_fits : r.length ≤ length rows

-- ---- what the code promises
pub record Started (r : Reader) : Type 0 where
  pub holds : (old : List ℕ) → Holds old at_start r old
  pub sane : (digits : ℕ) (rows : List ℕ) → digits ≤ 1000 → Sane digits r rows

-- the reader and the rows before the text, and after it
pub record Fed (digits : ℕ) (text : List ℕ) (r : Reader) (rows : List ℕ) (q : Reader) (after : List ℕ) : Type 0 where
  pub holds : (old : List ℕ) (s : Sofar) → Holds old s r rows → Holds old (read_on digits s text) q after
  pub sane : Sane digits q after

-- the same of a digit's value
pub record Added (value : ℕ) (r : Reader) (rows : List ℕ) (q : Reader) (after : List ℕ) : Type 0 where
  pub holds : (old : List ℕ) (s : Sofar) → Holds old s r rows → Holds old (add_digit value s) q after
  pub column_is : q.column ≡ suc r.column
  pub high_fits : q.high < 16
  pub length_fits : q.length ≤ length after

-- That reading byte by byte is reading by lines: a text is good exactly if every line is of so many digits, and then its bytes are
-- those that the lines spell.
pub record Reads (digits : ℕ) (text : List ℕ) : Type 0 where
  pub good_is : is_good digits (read_on digits at_start text) ≡ readable digits text
  pub bytes_are : readable digits text ≡ true → (read_on digits at_start text).bytes ≡ bytes_in text
