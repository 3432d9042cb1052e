-- The code's line as the definitions' line, its bytes, and the bytes of a buffer that it is put into.
use Rattle.std.specs.Prelude.{ℕ, ◌+◌, List, ◌++◌, take, drop}
use Rattle.rules.specs.declared.operands.Operands.{Operands}
use Rattle.rules.specs.Line.{Line, do_line, tick_line, test_line, leave_line, out_line, call_line, back_line, ret_line, twenty, no_operands, line_width}
use Rattle.line.specs.declared.Line as Declared

abbrev pub fields : (kind : ℕ) → Operands → (r s t e a b c go : ℕ) → Declared.Line
fields kind o r s t e a b c go =
    record { kind = kind; operands = o; r = r; s = s; t = t; e = e; a = a; b = b; c = c; go = go }

abbrev pub struct : Line → Declared.Line
struct (do_line o e) = fields 0x21 o 0 0 0 e 0 0 0 0
struct (tick_line r e a) = fields 0x22 no_operands r 0 0 e a 0 0 0
struct (test_line o r s t e a b c go) = fields 0x23 o r s t e a b c go
struct (leave_line r s e a b go) = fields 0x24 no_operands r s 0 e a b 0 go
struct (out_line r s t e a go) = fields 0x25 no_operands r s t e a 0 0 go
struct (call_line r e a b go) = fields 0x26 no_operands r 0 0 e a b 0 go
struct (back_line r e a b) = fields 0x27 no_operands r 0 0 e a b 0 0
struct (ret_line e a) = fields 0x28 no_operands 0 0 0 e a 0 0 0

-- the line's twenty bytes
abbrev pub spelt : Declared.Line → List ℕ
spelt l = twenty l.kind l.operands l.r l.s l.t l.e l.a l.b l.c l.go

-- the bytes with a line's twenty from byte at on
unfoldable pub put : List ℕ → (at : ℕ) → Declared.Line → List ℕ
put bs at l = take at bs ++ spelt l ++ drop (at + line_width) bs
