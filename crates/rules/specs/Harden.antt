-- The hardened table of a source table (01, "The hardened lines").
use Rattle.std.specs.Prelude.{ℕ, zero, suc, ◌+◌, Bool, true, false, List, [], ◌∷◌, ◌++◌, length}
use Rattle.rules.specs.declared.kind.Kind.{Kind}
use Rattle.rules.specs.declared.kind.Kind.TheVariants.{Function, Do, If, Else, Loop, End, Break, Continue, Call, Unknown}
use Rattle.rules.specs.Row.{Table, kind_at, operands_at, table_of}
use Rattle.rules.specs.Scan.{Part, body, then_part, else_part, loop_body, Open, open_at, regions, part_of, opener_of, region_of, around, from_loop, local, end_of, else_of, has_else, function_row}
use Rattle.rules.specs.Value.{inside, past, base, value, value_in}
use Rattle.rules.specs.Line.{Line, do_line, tick_line, test_line, leave_line, out_line, call_line, back_line, ret_line, lines_bytes}

-- the lines that a row of this kind stands for
abbrev pub line_count : Kind → ℕ
line_count Function = 0
line_count Do = 2
line_count If = 1
line_count Else = 1
line_count Loop = 1
line_count End = 1
line_count Break = 1
line_count Continue = 1
line_count Call = 2
line_count Unknown = 0

-- "go is a line number in the whole table, from 0": the first line of row i
unfoldable pub line_of : Table → ℕ → ℕ
line_of t zero = zero
line_of t (suc i) = line_of t i + line_count (kind_at t i)

-- The lines of row i, where the parts fs are open. The counter checked is that of the row's own region, for its value e.
abbrev pub own_region : List Open → ℕ
own_region fs = local fs (region_of fs)

-- 23 test: "Test with an else: t is the else region, c its base, go its first line. Without an else, and for a loop: t = r,
-- c = e+2, go is the line after the closing leave."
unfoldable pub test_of : Table → (i : ℕ) → List Open → (withElse : Bool) → Line
test_of t i fs true =
    let e = value_in t i fs in
    test_line (operands_at t i) (own_region fs) (local fs (regions t i)) (local fs (regions t (else_of t i))) e (e + 1)
    (base t (regions t i)) (base t (regions t (else_of t i))) (line_of t (suc (else_of t i)))
test_of t i fs false =
    let e = value_in t i fs in
    test_line (operands_at t i) (own_region fs) (local fs (regions t i)) (own_region fs) e (e + 1) (base t (regions t i))
    (e + past) (line_of t (suc (end_of t i)))

-- the value e of the row that opened the innermost of the parts fs, in the region around them
abbrev pub opener_value : Table → List Open → ℕ
opener_value t fs = value_in t (opener_of fs) (around fs)

-- 24 leave: "e is the child's last value and b is the row's e+1"; a is the row's e and the offset d
abbrev pub leave_of : Table → (i : ℕ) → List Open → (d go : ℕ) → Line
leave_of t i fs d go =
    leave_line (own_region fs) (local fs (region_of (around fs))) (value_in t i fs) (opener_value t fs + d)
    (opener_value t fs + inside) go

-- 25 out: "counters t (loop body) to r get 0; s (around the loop) gets a"; a is the loop row's e and the offset d
abbrev pub out_of : Table → (i : ℕ) → List Open → (d go : ℕ) → Line
out_of t i fs d go =
    out_line (own_region fs) (local fs (region_of (around (from_loop fs)))) (local fs (region_of (from_loop fs))) (value_in t i fs)
    (opener_value t (from_loop fs) + d) go

-- "For an if, a = e+2 of the if row and go is the line after the whole if. For a loop, a is the loop row's e and go its test."
-- 28 ret where the function ends
abbrev pub end_line : Table → (i : ℕ) → List Open → Part → Line
end_line t i fs body = ret_line (value_in t i fs) (value_in t i fs + 1)
end_line t i fs then_part = leave_of t i fs past (line_of t (suc i))
end_line t i fs else_part = leave_of t i fs past (line_of t (suc i))
end_line t i fs loop_body = leave_of t i fs 0 (line_of t (opener_of fs))

-- 26 call and 27 back: "b is the a of the callee's ret"
unfoldable pub end_value : Table → (function : ℕ) → ℕ
end_value t n = value t (regions t (function_row t n)) (end_of t (function_row t n)) + 1

abbrev pub call_of : Table → (i : ℕ) → List Open → (function : ℕ) → Line
call_of t i fs n =
    call_line (own_region fs) (value_in t i fs) (value_in t i fs + 1) (base t (regions t (function_row t n)))
    (line_of t (suc (function_row t n)))

abbrev pub back_of : Table → (i : ℕ) → List Open → (function : ℕ) → Line
back_of t i fs n = back_line (own_region fs) (value_in t i fs + 1) (value_in t i fs + 2) (end_value t n)

-- the column "Stands for"
unfoldable pub row_lines : Table → (i : ℕ) → List Open → Kind → List Line
row_lines t i fs Function = []
row_lines t i fs Do =
    do_line (operands_at t i) i ∷ tick_line (own_region fs) (value_in t i fs) (value_in t i fs + 1) ∷ []
row_lines t i fs If = test_of t i fs (has_else t i) ∷ []
row_lines t i fs Else = leave_of t i fs past (line_of t (suc (end_of t (opener_of fs)))) ∷ []
row_lines t i fs Loop = test_of t i fs false ∷ []
row_lines t i fs End = end_line t i fs (part_of fs) ∷ []
row_lines t i fs Break = out_of t i fs past (line_of t (suc (end_of t (opener_of (from_loop fs))))) ∷ []
row_lines t i fs Continue = out_of t i fs 0 (line_of t (opener_of (from_loop fs))) ∷ []
row_lines t i fs Call = call_of t i fs (operands_at t i).n ∷ back_of t i fs (operands_at t i).n ∷ []
row_lines t i fs Unknown = []

abbrev pub lines_of : Table → (i : ℕ) → List Line
lines_of t i = row_lines t i (open_at t i) (kind_at t i)

-- the lines of the rows before row i; of all rows
unfoldable pub harden_to : Table → ℕ → List Line
harden_to t zero = []
harden_to t (suc i) = harden_to t i ++ lines_of t i

abbrev pub harden : Table → List Line
harden t = harden_to t (length t)

-- the hardened bytes of source bytes
unfoldable pub hardened_bytes : List ℕ → List ℕ
hardened_bytes rows = lines_bytes (harden (table_of rows))
