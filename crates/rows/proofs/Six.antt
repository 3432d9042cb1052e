-- The bytes of the rows that the code makes are those of the definition's rows. Assumes nothing.
use Prim.Native.Nat.{ℕ, ◌+◌, ◌*◌, ◌<◌}
use mathlib.Core.Path.{◌≡◌, refl}
use mathlib.Core.List.{List}
use lib.ListN.{get_or}
use Rattle.rules.specs.declared.kind.Kind.{Kind}
use Rattle.rules.specs.declared.kind.Kind.TheVariants.{If, Unknown}
use Rattle.rules.specs.Bytes.{AreBytes}
use Rattle.rules.specs.Row.{kind_byte, row_in, row_bytes}
use Rattle.rules.proofs.Encode.{kind-byte, word_low, word-high}
use Rattle.rows.specs.Row.{six, bare_row, read_row, test_row}

-- a row that is read
pub read-bytes : (bs : List ℕ) → AreBytes bs → ((row_in bs 0).kind ≡ Unknown → ⊥) → row_bytes (row_in bs 0) ≡ six (read_row bs)
unfolding row_bytes row_in
read-bytes bs w k =
    rw (kind-byte (get_or bs 0 0) k, word_low (get_or bs 4 0) (get_or bs 5 0) (w.each 4), word-high (get_or bs 4 0) (get_or bs 5 0) (w.each 4))

-- a row with no fields
pub bare-bytes : (k : Kind) → row_bytes (record { kind = k; operands = record { op = 0; p = 0; q = 0; n = 0 } }) ≡ six (bare_row (kind_byte k))
unfolding row_bytes
bare-bytes k = refl

-- a test of vp against a number
pub test-bytes : (p low high : ℕ) → low < 256
    → row_bytes (record { kind = If; operands = record { op = 0; p = p; q = 0; n = low + 256 * high } }) ≡ six (test_row 3 p low high)
unfolding row_bytes kind_byte
test-bytes p low high h = rw (word_low low high h, word-high low high h)
