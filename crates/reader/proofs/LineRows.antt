-- The row that a line of each kind stands for, as the bytes that the code writes. Assumes nothing.
use mathlib.Core.Path.{◌≡◌, refl, sym, ap, ◌∙◌, subst}
use mathlib.Core.Bool.{Bool, true, false, cond}
use mathlib.Core.List.{List, [], ◌∷◌}
use Prim.Native.Nat.{ℕ, suc, ◌+◌, ◌*◌, ◌-◌, ◌/◌, ◌≤◌, ◌<◌}
use native.Mathlib.Numerals.{add-one}
use native.Mathlib.Omega.{arith}
use lib.Dec.{eqb, ltb}
use lib.ListN.{length, get_or, get_or-eq_default}
use Rattle.rules.specs.declared.kind.Kind.{Kind}
use Rattle.rules.specs.declared.kind.Kind.TheVariants.{If, Else, Loop, End, Break, Continue}
use Rattle.rules.specs.Bytes.{low, high}
use Rattle.rules.specs.Row.{kind_byte, row_bytes, table_bytes}
use Rattle.rules.specs.Line.{ret_line, line_width, lines_in, line_at, is_ret}
use Rattle.rules.specs.Function.{function_at}
use Rattle.rules.specs.ReadBack.{leaves_to_lem, row_for, begins, function_row_if}
use Rattle.rules.proofs.Logic.{clash}
use Rattle.rows.specs.declared.row.Row.{Row}
use Rattle.rows.specs.Row.{six, bare_row, Added}
use Rattle.rows.proofs.Stores.{added_none}
use Rattle.line.specs.declared.Line as Declared
use Rattle.line.specs.declared.kind.LineKind as Lk
use Rattle.line.specs.Read.{line_kind_at, struct_at, as_line, ends_function_lem}
use Rattle.line.proofs.Decode.{length-lines, line_is, ends-ret}
use Rattle.reader.specs.Row.{copied_row, call_row}
use Rattle.reader.specs.Candidate.{is_leave_lem, test_kind_lem, leave_kind_lem, out_kind_lem, Here}

byte_of : (b : Bool) (x y : Kind) → cond b (kind_byte x) (kind_byte y) ≡ kind_byte (cond b x y)
byte_of true x y = refl
byte_of false x y = refl

first_byte : {x y : ℕ} (rest : List ℕ) → x ≡ y → ◌≡◌ {A = List ℕ} (x ∷ rest) (y ∷ rest)
first_byte rest e = ap (λ z. z ∷ rest) e

-- ---- a line of the table, by its kind
module _ {bs : List ℕ} {k : ℕ} (h : Here bs k) where
  inside : k < length (lines_in bs)
  inside = omega (arith, length-lines bs, h.inside)

  row_is : (kd : Lk.LineKind) → line_kind_at bs k ≡ kd → row_for (lines_in bs) k (as_line kd (struct_at bs k)) ≡ row_for (lines_in bs) k (line_at (lines_in bs) k)
  row_is kd e = ap (row_for (lines_in bs) k) (sym (line_is bs k inside ∙ ap (λ x. as_line x (struct_at bs k)) e))

  -- the two bytes of n
  low-is : low (struct_at bs k).operands.n ≡ get_or bs (line_width * k + 4) 0
  unfolding struct_at
  low-is = omega (arith, h.table.bytes.each (line_width * k + 4))

  high_is : high (struct_at bs k).operands.n ≡ get_or bs (line_width * k + 5) 0
  unfolding struct_at
  high_is =
      let q : line_width * k + 4 + 1 ≡ line_width * k + 5 = omega arith in
      let r : high (struct_at bs k).operands.n ≡ get_or bs (line_width * k + 4 + 1) 0 = omega (arith, h.table.bytes.each (line_width * k + 4)) in
      r ∙ ap (λ i. get_or bs i 0) q

  -- ---- the bytes of the row
  copied-bytes : (kind : ℕ) → six (copied_row kind bs k)
      ≡ kind ∷ (struct_at bs k).operands.op ∷ (struct_at bs k).operands.p ∷ (struct_at bs k).operands.q ∷ low (struct_at bs k).operands.n ∷ high (struct_at bs k).operands.n ∷ []
  unfolding struct_at
  copied-bytes kind =
      let l = (struct_at bs k).operands in
      ap (λ x. kind ∷ l.op ∷ l.p ∷ l.q ∷ x ∷ get_or bs (line_width * k + 5) 0 ∷ []) (sym low-is)
      ∙ ap (λ x. kind ∷ l.op ∷ l.p ∷ l.q ∷ low l.n ∷ x ∷ []) (sym high_is)

  module _ {rows rows' : List ℕ} {at to : ℕ} {r : Row} where
    -- the row that was written has these bytes
    added-as : {x : Row} {xs : List ℕ} → r ≡ x → six x ≡ xs → Added (six r) rows rows' at to → Added xs rows rows' at to
    added-as e q a = subst (λ xs. Added xs rows rows' at to) (ap six e ∙ q) a

    pub do-row : line_kind_at bs k ≡ Lk.TheVariants.Do → r ≡ copied_row 2 bs k → Added (six r) rows rows' at to
        → Added (table_bytes (row_for (lines_in bs) k (line_at (lines_in bs) k))) rows rows' at to
    unfolding row_for table_bytes row_bytes kind_byte
    do-row e q a = added-as q (copied-bytes 2 ∙ ap table_bytes (row_is Lk.TheVariants.Do e)) a

    pub test-row : line_kind_at bs k ≡ Lk.TheVariants.Test → r ≡ copied_row (test_kind_lem bs k) bs k → Added (six r) rows rows' at to
        → Added (table_bytes (row_for (lines_in bs) k (line_at (lines_in bs) k))) rows rows' at to
    unfolding row_for table_bytes row_bytes kind_byte
    test-row e q a =
        let l = struct_at bs k in
        added-as q
        (copied-bytes (test_kind_lem bs k)
        ∙ first_byte (l.operands.op ∷ l.operands.p ∷ l.operands.q ∷ low l.operands.n ∷ high l.operands.n ∷ []) (byte_of (leaves_to_lem k (line_at (lines_in bs) (l.go - 1))) Loop If)
        ∙ ap table_bytes (row_is Lk.TheVariants.Test e))
        a

    pub leave-row : line_kind_at bs k ≡ Lk.TheVariants.Leave → r ≡ bare_row (leave_kind_lem bs k) → Added (six r) rows rows' at to
        → Added (table_bytes (row_for (lines_in bs) k (line_at (lines_in bs) k))) rows rows' at to
    unfolding row_for table_bytes row_bytes kind_byte
    leave-row e q a =
        added-as q
        (first_byte (0 ∷ 0 ∷ 0 ∷ 0 ∷ 0 ∷ []) (byte_of (ltb (suc k) (struct_at bs k).go) Else End) ∙ ap table_bytes (row_is Lk.TheVariants.Leave e))
        a

    pub out-row : line_kind_at bs k ≡ Lk.TheVariants.Out → r ≡ bare_row (out_kind_lem bs k) → Added (six r) rows rows' at to
        → Added (table_bytes (row_for (lines_in bs) k (line_at (lines_in bs) k))) rows rows' at to
    unfolding row_for table_bytes row_bytes kind_byte
    out-row e q a =
        added-as q
        (first_byte (0 ∷ 0 ∷ 0 ∷ 0 ∷ 0 ∷ []) (byte_of (ltb k (struct_at bs k).go) Break Continue) ∙ ap table_bytes (row_is Lk.TheVariants.Out e))
        a

    pub call-row : {n : ℕ} → line_kind_at bs k ≡ Lk.TheVariants.Call → n ≡ function_at (lines_in bs) (struct_at bs k).go → r ≡ call_row 9 n
        → Added (six r) rows rows' at to → Added (table_bytes (row_for (lines_in bs) k (line_at (lines_in bs) k))) rows rows' at to
    unfolding row_for table_bytes row_bytes kind_byte
    call-row e f q a = added-as (q ∙ ap (call_row 9) f) (ap table_bytes (row_is Lk.TheVariants.Call e)) a

    pub ret-row : line_kind_at bs k ≡ Lk.TheVariants.Ret → r ≡ bare_row 6 → Added (six r) rows rows' at to
        → Added (table_bytes (row_for (lines_in bs) k (line_at (lines_in bs) k))) rows rows' at to
    unfolding row_for table_bytes row_bytes kind_byte
    ret-row e q a = added-as q (ap table_bytes (row_is Lk.TheVariants.Ret e)) a

  -- a tick and a back stand for no row of their own
  pub tick-row : (rows : List ℕ) (at : ℕ) → line_kind_at bs k ≡ Lk.TheVariants.Tick
      → Added (table_bytes (row_for (lines_in bs) k (line_at (lines_in bs) k))) rows rows at at
  unfolding row_for table_bytes
  tick-row rows at e = subst (λ xs. Added xs rows rows at at) (ap table_bytes (row_is Lk.TheVariants.Tick e)) (added_none rows at)

  pub back-row : (rows : List ℕ) (at : ℕ) → line_kind_at bs k ≡ Lk.TheVariants.Back
      → Added (table_bytes (row_for (lines_in bs) k (line_at (lines_in bs) k))) rows rows at at
  unfolding row_for table_bytes
  back-row rows at e = subst (λ xs. Added xs rows rows at at) (ap table_bytes (row_is Lk.TheVariants.Back e)) (added_none rows at)

  -- ---- the function row before it
  pub begins_next : {b : Bool} → b ≡ ends_function_lem (line_kind_at bs k) → b ≡ begins (lines_in bs) (k + 1)
  begins_next {b} e =
      e ∙ sym (ap (begins (lines_in bs)) (add-one k) ∙ ap is_ret (line_is bs k inside) ∙ ends-ret (line_kind_at bs k) (struct_at bs k))

pub function-row : {rows rows' : List ℕ} {at to : ℕ} {r : Row} {b : Bool} → b ≡ true → r ≡ bare_row 1 → Added (six r) rows rows' at to
    → Added (table_bytes (function_row_if b)) rows rows' at to
unfolding table_bytes row_bytes kind_byte
function-row {rows} {rows'} {at} {to} e q a =
    rw e (subst (λ xs. Added xs rows rows' at to) (ap six q) a)

pub no-function-row : (rows : List ℕ) (at : ℕ) {b : Bool} → b ≡ false → Added (table_bytes (function_row_if b)) rows rows at at
unfolding table_bytes
no-function-row rows at e = rw e (added_none rows at)

-- ---- a line that may be beyond the table
leave-is : (k : ℕ) (kd : Lk.LineKind) (l : Declared.Line) → is_leave_lem kd ≡ true → leaves_to_lem k (as_line kd l) ≡ eqb l.go k
leave-is k Lk.TheVariants.Do l e = clash e refl
leave-is k Lk.TheVariants.Tick l e = clash e refl
leave-is k Lk.TheVariants.Test l e = clash e refl
leave-is k Lk.TheVariants.Leave l e = refl
leave-is k Lk.TheVariants.Out l e = clash e refl
leave-is k Lk.TheVariants.Call l e = clash e refl
leave-is k Lk.TheVariants.Back l e = clash e refl
leave-is k Lk.TheVariants.Ret l e = clash e refl

leave-not : (k : ℕ) (kd : Lk.LineKind) (l : Declared.Line) → is_leave_lem kd ≡ false → leaves_to_lem k (as_line kd l) ≡ false
leave-not k Lk.TheVariants.Do l e = refl
leave-not k Lk.TheVariants.Tick l e = refl
leave-not k Lk.TheVariants.Test l e = refl
leave-not k Lk.TheVariants.Leave l e = clash refl e
leave-not k Lk.TheVariants.Out l e = refl
leave-not k Lk.TheVariants.Call l e = refl
leave-not k Lk.TheVariants.Back l e = refl
leave-not k Lk.TheVariants.Ret l e = refl

module _ (bs : List ℕ) (j k : ℕ) where
  pub leaves-beyond : length bs / line_width ≤ j → false ≡ leaves_to_lem k (line_at (lines_in bs) j)
  leaves-beyond h = sym (ap (leaves_to_lem k) (get_or-eq_default (lines_in bs) (ret_line 0 0) {n = j} (omega (arith, length-lines bs))))

  pub leaves-there : j < length bs / line_width → is_leave_lem (line_kind_at bs j) ≡ true → eqb (struct_at bs j).go k ≡ leaves_to_lem k (line_at (lines_in bs) j)
  leaves-there h e = sym (ap (leaves_to_lem k) (line_is bs j (omega (arith, length-lines bs))) ∙ leave-is k (line_kind_at bs j) (struct_at bs j) e)

  pub leaves-nowhere : j < length bs / line_width → is_leave_lem (line_kind_at bs j) ≡ false → false ≡ leaves_to_lem k (line_at (lines_in bs) j)
  leaves-nowhere h e = sym (ap (leaves_to_lem k) (line_is bs j (omega (arith, length-lines bs))) ∙ leave-not k (line_kind_at bs j) (struct_at bs j) e)
