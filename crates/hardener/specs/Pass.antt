-- One pass over a table for two uses: `true` where its lines are compared with given bytes, `false` where they are kept.
use Rattle.std.specs.Prelude.{ℕ, ◌+◌, ◌*◌, ◌-◌, ◌/◌, ◌≤◌, ◌<◌, ◌≡◌, Bool, true, false, List, Option, Some, None, eqb, leb, length, take, drop}
use Rattle.rules.specs.declared.answer.Wrote.{Wrote}
use Rattle.rules.specs.declared.refusal.Refusal.TheVariants.{ShortOutput}
use Rattle.rules.specs.Bytes.{same}
use Rattle.rules.specs.Row.{table_of}
use Rattle.rules.specs.Refusal.{refusal_number}
use Rattle.rules.specs.Line.{line_width}
use Rattle.rules.specs.Harden.{line_of, hardened_bytes}
use Rattle.rules.specs.Calls.{over, short_output, writing}
use Rattle.emit.specs.Emit.{rows_bytes}
use Rattle.hardener.specs.Answer.{written}

-- the output is too short, or the given bytes are others; or so many bytes of lines
abbrev pub Passed : Type 0
Passed = Option ℕ

pattern abbrev pub No : Passed
No = None

pattern abbrev pub Bytes : ℕ → Passed
Bytes n = Some n

-- each case: whether the lines are the given ones; what hardening answers (01, "What turns a call away")
abbrev pub are_these : Passed → Bool
are_these No = false
are_these (Bytes n) = true

abbrev pub answered : Passed → Wrote
answered No = record { number = refusal_number ShortOutput; length = 0 }
answered (Bytes n) = record { number = 0; length = n }

-- what the pass comes to
pub record PassedIs (comparing : Bool) (bs lines out out' : List ℕ) (r : Passed) : Type 0 where
  pub compared : comparing ≡ true → are_these r ≡ same (hardened_bytes bs) lines
  pub kept : comparing ≡ false → written (answered r) out' ≡ writing (short_output (hardened_bytes bs) out) (hardened_bytes bs) out

-- by the lengths alone
abbrev pub fitting : Bool → (size given room : ℕ) → Bool
fitting true size given room = eqb given size
fitting false size given room = leb size room

-- the given bytes are as many as the lines', and the scratch holds a batch; or the output holds the lines
pub record Fit (comparing : Bool) (bs lines out : List ℕ) : Type 0 where
  pub as_long : comparing ≡ true → length lines ≡ line_width * line_of (table_of bs) (length bs / 6)
  pub scratch : comparing ≡ true → length out ≡ 1280
  pub room : comparing ≡ false → line_width * line_of (table_of bs) (length bs / 6) ≤ length out

-- of n rows so many from row i on: those whose lines fit the scratch, or all
pub record Batch (comparing : Bool) (i n count : ℕ) : Type 0 where
  pub some : 0 < count
  pub rows : i + count ≤ n
  pub few : comparing ≡ true → count ≤ 32
  pub all : comparing ≡ false → i + count ≡ n

-- what was made is what the given bytes have from byte f up to byte p
abbrev pub agreed : Bool → (made lines : List ℕ) → (f p : ℕ) → Bool
agreed true made lines f p = same (take (p - f) made) (take (p - f) (drop f lines))
agreed false made lines f p = true

pub record Stretch (comparing : Bool) (made lines : List ℕ) (f p : ℕ) : Type 0 where
  pub low : comparing ≡ true → f ≤ p
  pub within : comparing ≡ true → p ≤ length lines
  pub made_in : comparing ≡ true → p - f ≤ length made

-- all lines are made
pub record MadeIs (comparing : Bool) (bs lines out out' : List ℕ) (r : Bool) : Type 0 where
  pub compared : comparing ≡ true → r ≡ same (hardened_bytes bs) lines
  pub done : comparing ≡ false → r ≡ true
  pub kept : comparing ≡ false → out' ≡ over (rows_bytes (table_of bs) 0 (length bs / 6)) out
