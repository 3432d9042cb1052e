-- The eight kinds of hardened line, their fields and their twenty bytes (01, "The hardened lines").
use Rattle.std.specs.Prelude.{ℕ, zero, suc, ◌+◌, ◌*◌, ◌/◌, Bool, true, false, cond, List, [], ◌∷◌, ◌++◌, eqb, length, get_or}
use Rattle.rules.specs.declared.operands.Operands.{Operands}
use Rattle.rules.specs.Bytes.{low, high, word_at}

-- The fields that are not 0, in 01's order: op, p, q, n; r, s, t; e, a, b, c, go. The r of a ret is 0.
pub data Line : Type 0 where
  do_line : (o : Operands) (e : ℕ) → Line
  tick_line : (r e a : ℕ) → Line
  test_line : (o : Operands) (r s t e a b c go : ℕ) → Line
  leave_line : (r s e a b go : ℕ) → Line
  out_line : (r s t e a go : ℕ) → Line
  call_line : (r e a b go : ℕ) → Line
  back_line : (r e a b : ℕ) → Line
  ret_line : (e a : ℕ) → Line

-- "A line has 20 bytes"
abbrev pub line_width : ℕ
line_width = 20

-- "kind, op, p, q, n (2), r, s, t, a zero byte, then e, a, b, c, go (2 each, low byte first)"
abbrev pub twenty : (kind : ℕ) → Operands → (r s t e a b c go : ℕ) → List ℕ
twenty kind o r s t e a b c go =
    kind ∷ o.op ∷ o.p ∷ o.q ∷ low o.n ∷ high o.n ∷ r ∷ s ∷ t ∷ 0 ∷ low e ∷ high e ∷ low a ∷ high a ∷ low b ∷
    high b ∷ low c ∷ high c ∷ low go ∷ high go ∷ []

abbrev pub no_operands : Operands
no_operands = record { op = 0; p = 0; q = 0; n = 0 }

-- the column "Kind", and "Unused fields are 0."
unfoldable pub line_bytes : Line → List ℕ
line_bytes (do_line o e) = twenty 0x21 o 0 0 0 e 0 0 0 0
line_bytes (tick_line r e a) = twenty 0x22 no_operands r 0 0 e a 0 0 0
line_bytes (test_line o r s t e a b c go) = twenty 0x23 o r s t e a b c go
line_bytes (leave_line r s e a b go) = twenty 0x24 no_operands r s 0 e a b 0 go
line_bytes (out_line r s t e a go) = twenty 0x25 no_operands r s t e a 0 0 go
line_bytes (call_line r e a b go) = twenty 0x26 no_operands r 0 0 e a b 0 go
line_bytes (back_line r e a b) = twenty 0x27 no_operands r 0 0 e a b 0 0
line_bytes (ret_line e a) = twenty 0x28 no_operands 0 0 0 e a 0 0 0

unfoldable pub lines_bytes : List Line → List ℕ
lines_bytes [] = []
lines_bytes (l ∷ ls) = line_bytes l ++ lines_bytes ls

-- The line whose first byte is byte k. Bytes of no kind are read as a ret, and are then no hardened table.
unfoldable pub line_in_lem : List ℕ → ℕ → Line
line_in_lem bs k =
    let kind = get_or bs k 0 in
    let o : Operands =
    record { op = get_or bs (k + 1) 0; p = get_or bs (k + 2) 0; q = get_or bs (k + 3) 0; n = word_at bs (k + 4) } in
    let r = get_or bs (k + 6) 0 in
    let s = get_or bs (k + 7) 0 in
    let t = get_or bs (k + 8) 0 in
    let e = word_at bs (k + 10) in
    let a = word_at bs (k + 12) in
    let b = word_at bs (k + 14) in
    let c = word_at bs (k + 16) in
    let go = word_at bs (k + 18) in
    cond (eqb kind 0x21) (do_line o e)
    (cond (eqb kind 0x22) (tick_line r e a)
    (cond (eqb kind 0x23) (test_line o r s t e a b c go)
    (cond (eqb kind 0x24) (leave_line r s e a b go)
    (cond (eqb kind 0x25) (out_line r s t e a go)
    (cond (eqb kind 0x26) (call_line r e a b go)
    (cond (eqb kind 0x27) (back_line r e a b) (ret_line e a)))))))

unfoldable pub lines_from : List ℕ → (i count : ℕ) → List Line
lines_from bs i zero = []
lines_from bs i (suc count) = line_in_lem bs (line_width * i) ∷ lines_from bs (suc i) count

-- the lines that the bytes spell
unfoldable pub lines_in : List ℕ → List Line
lines_in bs = lines_from bs 0 (length bs / line_width)

-- line k of a table
abbrev pub line_at : List Line → ℕ → Line
line_at ls k = get_or ls k (ret_line 0 0)

-- "All lines but 21 are guards."
abbrev pub is_guard : Line → Bool
is_guard (do_line o e) = false
is_guard (tick_line r e a) = true
is_guard (test_line o r s t e a b c go) = true
is_guard (leave_line r s e a b go) = true
is_guard (out_line r s t e a go) = true
is_guard (call_line r e a b go) = true
is_guard (back_line r e a b) = true
is_guard (ret_line e a) = true

abbrev pub is_ret : Line → Bool
is_ret (do_line o e) = false
is_ret (tick_line r e a) = false
is_ret (test_line o r s t e a b c go) = false
is_ret (leave_line r s e a b go) = false
is_ret (out_line r s t e a go) = false
is_ret (call_line r e a b go) = false
is_ret (back_line r e a b) = false
is_ret (ret_line e a) = true
