-- Rows: their kinds, their six bytes, and the fields that each kind uses (01, "The source table").
use Rattle.std.specs.Prelude.{ℕ, zero, suc, ◌+◌, ◌*◌, ◌/◌, Bool, false, cond, ◌&&◌, List, [], ◌∷◌, ◌++◌, eqb, ltb, length, get_or}
use Rattle.rules.specs.declared.kind.Kind.{Kind}
use Rattle.rules.specs.declared.kind.Kind.TheVariants.{Function, Do, If, Else, Loop, End, Break, Continue, Call, Unknown}
use Rattle.rules.specs.declared.operands.Operands.{Operands}
use Rattle.rules.specs.Limits.{max_variables}
use Rattle.rules.specs.Bytes.{low, high, word_at}

pub record Row : Type 0 where
  pub kind : Kind
  pub operands : Operands

-- "Rows are numbered from 0."
abbrev pub Table : Type 0
Table = List Row

-- "A row has 6 bytes"
abbrev pub row_width : ℕ
row_width = 6

-- the kinds of the table's first column
unfoldable pub kind_of : ℕ → Kind
kind_of b =
    cond (eqb b 0x01) Function
    (cond (eqb b 0x02) Do
    (cond (eqb b 0x03) If
    (cond (eqb b 0x04) Else
    (cond (eqb b 0x05) Loop
    (cond (eqb b 0x06) End
    (cond (eqb b 0x07) Break
    (cond (eqb b 0x08) Continue
    (cond (eqb b 0x09) Call Unknown))))))))

unfoldable pub kind_byte : Kind → ℕ
kind_byte Function = 0x01
kind_byte Do = 0x02
kind_byte If = 0x03
kind_byte Else = 0x04
kind_byte Loop = 0x05
kind_byte End = 0x06
kind_byte Break = 0x07
kind_byte Continue = 0x08
kind_byte Call = 0x09
kind_byte Unknown = 0

-- "kind, op, p, q, then n in two bytes, low byte first": the row whose first byte is byte k
unfoldable pub row_in : List ℕ → ℕ → Row
row_in bs k =
    record {
      kind = kind_of (get_or bs k 0);
      operands =
          record { op = get_or bs (k + 1) 0; p = get_or bs (k + 2) 0; q = get_or bs (k + 3) 0; n = word_at bs (k + 4) };
    }

unfoldable pub rows_from : List ℕ → (i count : ℕ) → Table
rows_from bs i zero = []
rows_from bs i (suc count) = row_in bs (row_width * i) ∷ rows_from bs (suc i) count

-- the rows that the bytes spell
unfoldable pub table_of : List ℕ → Table
table_of bs = rows_from bs 0 (length bs / row_width)

-- the six bytes of a row, and the bytes of all rows
unfoldable pub row_bytes : Row → List ℕ
row_bytes r =
    kind_byte r.kind ∷ r.operands.op ∷ r.operands.p ∷ r.operands.q ∷ low r.operands.n ∷
    high r.operands.n ∷ []

unfoldable pub table_bytes : Table → List ℕ
table_bytes [] = []
table_bytes (r ∷ rs) = row_bytes r ++ table_bytes rs

-- row i of a table; past its end there is no row
abbrev pub no_row : Row
no_row = record { kind = Unknown; operands = record { op = 0; p = 0; q = 0; n = 0 } }

abbrev pub row_at : Table → ℕ → Row
row_at t i = get_or t i no_row

abbrev pub kind_at : Table → ℕ → Kind
kind_at t i = (row_at t i).kind

abbrev pub operands_at : Table → ℕ → Operands
operands_at t i = (row_at t i).operands

-- "An unused field is 0; p and q, where used, are at most 15."
abbrev pub is_unused : ℕ → Bool
is_unused x = eqb x 0

abbrev pub is_variable : ℕ → Bool
is_variable x = ltb x max_variables

abbrev pub uses_none_lem : Operands → Bool
uses_none_lem o = is_unused o.op && is_unused o.p && is_unused o.q && is_unused o.n

-- op, vp and the number n
abbrev pub uses_number_lem : Operands → Bool
uses_number_lem o = is_variable o.p && is_unused o.q

-- op, vp and vq
abbrev pub uses_variable_lem : Operands → Bool
uses_variable_lem o = is_variable o.p && is_variable o.q && is_unused o.n

-- n alone, the number of a function
abbrev pub uses_function_lem : Operands → Bool
uses_function_lem o = is_unused o.op && is_unused o.p && is_unused o.q

-- "op 0: vp = n; 1: vp = vq; 2: vp = vp + vq; 3: vp = vp - vq"
abbrev pub do_uses_lem : Operands → Bool
do_uses_lem o = cond (eqb o.op 0) (uses_number_lem o) (ltb o.op 4 && uses_variable_lem o)

-- "test op 0: vp = n; 1: vp differs from n; 2: vp less than vq"
abbrev pub test_uses_lem : Operands → Bool
test_uses_lem o = cond (ltb o.op 2) (uses_number_lem o) (eqb o.op 2 && uses_variable_lem o)

-- the kind is known and every field is as its kind uses it; cause 3 of "What turns a call away" is that it is not
unfoldable pub fields_fit_lem : Kind → Operands → Bool
fields_fit_lem Function o = uses_none_lem o
fields_fit_lem Do o = do_uses_lem o
fields_fit_lem If o = test_uses_lem o
fields_fit_lem Else o = uses_none_lem o
fields_fit_lem Loop o = test_uses_lem o
fields_fit_lem End o = uses_none_lem o
fields_fit_lem Break o = uses_none_lem o
fields_fit_lem Continue o = uses_none_lem o
fields_fit_lem Call o = uses_function_lem o
fields_fit_lem Unknown o = false
