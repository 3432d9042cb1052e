-- What the fields of an accepted row hold: a number of sixteen bits, variables below 16, an operation below 4.
-- Assumes that the table is spelled by bytes, and that the row's fields fit its kind.
use mathlib.Core.Path.{◌≡◌, refl, ap, ◌∙◌}
use mathlib.Core.Bool.{Bool, true, false, cond, ◌&&◌}
use mathlib.Core.List.{List}
use Prim.Native.Nat.{ℕ, zero, suc, ◌+◌, ◌*◌, ◌/◌, ◌<◌}
use native.Mathlib.Nat.{not-suc-le-zero}
use native.Mathlib.Omega.{arith}
use lib.ListN.{length}
use lib.Dec.{eqb, ltb}
use borrow.Author.Tests.{eqb-true, ltb-true}
use Rattle.rules.specs.declared.operands.Operands.{Operands}
use Rattle.rules.specs.Bytes.{AreBytes}
use Rattle.rules.specs.Row.{row_width, row_in, rows_from, table_of, row_at, operands_at, uses_number_lem, uses_variable_lem, do_uses_lem, test_uses_lem}
use Rattle.rules.specs.Bounds.{Word, VariablesIn}
use Rattle.rules.proofs.Logic.{and_left, and_right}
use Rattle.rules.proofs.Accepted.{table-length}

-- ---- the rows that bytes spell
rows_at : (bs : List ℕ) (i count k : ℕ) → k < count → row_at (rows_from bs i count) k ≡ row_in bs (row_width * (i + k))
unfolding rows_from
rows_at bs i zero k h = absurd (not-suc-le-zero h)
rows_at bs i (suc count) zero h = ap (λ x. row_in bs (row_width * x)) (omega arith)
rows_at bs i (suc count) (suc k) h = rows_at bs (suc i) count k (omega arith) ∙ ap (λ x. row_in bs (row_width * x)) (omega arith)

pub row-at : (bs : List ℕ) (k : ℕ) → k < length (table_of bs) → row_at (table_of bs) k ≡ row_in bs (row_width * k)
unfolding table_of
row-at bs k h = rows_at bs 0 (length bs / row_width) k (omega (arith, table-length bs)) ∙ ap (λ x. row_in bs (row_width * x)) (omega arith)

-- two bytes are a word
pub word_bound : (bs : List ℕ) → AreBytes bs → (i : ℕ) → i < length (table_of bs) → Word (operands_at (table_of bs) i).n
unfolding row_in
word_bound bs b i h = omega (arith, ap (λ r. r.operands.n) (row-at bs i h), b.each (row_width * i + 4), b.each (row_width * i + 4 + 1))

-- ---- fields that fit
number_in : (o : Operands) → o.op < 4 → uses_number_lem o ≡ true → Word o.n → VariablesIn o
number_in o l e w =
    record {
      op_in = l;
      p_in = ltb-true o.p 16 (and_left _ _ e);
      q_in = omega (arith, eqb-true o.q 0 (and_right (ltb o.p 16) _ e));
      n_in = w;
    }

variable-in : (o : Operands) → o.op < 4 → uses_variable_lem o ≡ true → Word o.n → VariablesIn o
variable-in o l e w =
    let pq = and_left (ltb o.p 16 && ltb o.q 16) _ e in
    record {
      op_in = l;
      p_in = ltb-true o.p 16 (and_left _ _ pq);
      q_in = ltb-true o.q 16 (and_right (ltb o.p 16) _ pq);
      n_in = w;
    }

pub do-fields : (o : Operands) → do_uses_lem o ≡ true → Word o.n → VariablesIn o
do-fields o e w = by (eqb o.op 0) refl e
  where
    by : (b : Bool) → eqb o.op 0 ≡ b → cond b (uses_number_lem o) (ltb o.op 4 && uses_variable_lem o) ≡ true → VariablesIn o
    by true q h = number_in o (omega (arith, eqb-true o.op 0 q)) h w
    by false q h = variable-in o (ltb-true o.op 4 (and_left _ _ h)) (and_right (ltb o.op 4) _ h) w

pub test_fields : (o : Operands) → test_uses_lem o ≡ true → Word o.n → VariablesIn o
test_fields o e w = by (ltb o.op 2) refl e
  where
    by : (b : Bool) → ltb o.op 2 ≡ b → cond b (uses_number_lem o) (eqb o.op 2 && uses_variable_lem o) ≡ true → VariablesIn o
    by true q h = number_in o (omega (arith, ltb-true o.op 2 q)) h w
    by false q h = variable-in o (omega (arith, eqb-true o.op 2 (and_left _ _ h))) (and_right (eqb o.op 2) _ h) w
