-- The kind and the fields that bytes spell are those of the table's row. Assumes nothing.
use mathlib.Core.Path.{◌≡◌, sym, ap, ◌∙◌}
use mathlib.Core.List.{List}
use Prim.Native.Nat.{ℕ, ◌+◌, ◌*◌, ◌/◌, ◌<◌}
use native.Mathlib.Omega.{arith}
use lib.ListN.{length, get_or}
use Rattle.rules.specs.declared.operands.Operands.{Operands}
use Rattle.rules.specs.declared.kind.Kind.{Kind}
use Rattle.rules.specs.Bytes.{word_at}
use Rattle.rules.specs.Row.{kind_of, row_in, table_of, row_at, kind_at, operands_at}
use Rattle.rules.proofs.Accepted.{table-length}
use Rattle.rules.proofs.FieldBound.{row-at}

row-in : (bs : List ℕ) (i : ℕ) → i < length bs / 6 → row_at (table_of bs) i ≡ row_in bs (6 * i)
row-in bs i l = row-at bs i (omega (arith, table-length bs))

pub kind-read : (bs : List ℕ) (i : ℕ) {r : Kind} → i < length bs / 6 → r ≡ kind_of (get_or bs (6 * i) 0) → r ≡ kind_at (table_of bs) i
unfolding row_in
kind-read bs i l e = e ∙ sym (ap (λ r. r.kind) (row-in bs i l))

abbrev bytes_at : List ℕ → (i w : ℕ) → Operands
bytes_at bs i w = record { op = get_or bs (6 * i + 1) 0; p = get_or bs (6 * i + 2) 0; q = get_or bs (6 * i + 3) 0; n = w }

pub operands-read : (bs : List ℕ) (i : ℕ) {w : ℕ} → i < length bs / 6 → w ≡ word_at bs (6 * i + 4) → bytes_at bs i w ≡ operands_at (table_of bs) i
unfolding row_in
operands-read bs i l e = ap (bytes_at bs i) e ∙ sym (ap (λ r. r.operands) (row-in bs i l))
