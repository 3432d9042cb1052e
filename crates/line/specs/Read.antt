-- The kind and the fields of a line, read from its twenty bytes, and the line of the definitions that they are.
use Rattle.std.specs.Prelude.{ℕ, ◌+◌, ◌*◌, Bool, true, false, cond, List, eqb, get_or}
use Rattle.rules.specs.Bytes.{word_at}
use Rattle.rules.specs.Line.{Line, do_line, tick_line, test_line, leave_line, out_line, call_line, back_line, ret_line, line_width}
use Rattle.line.specs.declared.Line as Declared
use Rattle.line.specs.declared.kind.LineKind.{LineKind}
use Rattle.line.specs.declared.kind.LineKind.TheVariants.{Do, Tick, Test, Leave, Out, Call, Back, Ret}

unfoldable pub line_kind_of : ℕ → LineKind
line_kind_of b =
    cond (eqb b 0x21) Do
    (cond (eqb b 0x22) Tick
    (cond (eqb b 0x23) Test
    (cond (eqb b 0x24) Leave (cond (eqb b 0x25) Out (cond (eqb b 0x26) Call (cond (eqb b 0x27) Back Ret))))))

-- the kind of line k
abbrev pub line_kind_at : List ℕ → (k : ℕ) → LineKind
line_kind_at bs k = line_kind_of (get_or bs (line_width * k) 0)

-- line k as the code has it
unfoldable pub struct_at : List ℕ → (k : ℕ) → Declared.Line
struct_at bs k =
    let at = line_width * k in
    record {
      kind = get_or bs at 0;
      operands =
          record { op = get_or bs (at + 1) 0; p = get_or bs (at + 2) 0; q = get_or bs (at + 3) 0; n = word_at bs (at + 4) };
      r = get_or bs (at + 6) 0;
      s = get_or bs (at + 7) 0;
      t = get_or bs (at + 8) 0;
      e = word_at bs (at + 10);
      a = word_at bs (at + 12);
      b = word_at bs (at + 14);
      c = word_at bs (at + 16);
      go = word_at bs (at + 18);
    }

-- the line that a kind and the fields are
abbrev pub as_line : LineKind → Declared.Line → Line
as_line Do l = do_line l.operands l.e
as_line Tick l = tick_line l.r l.e l.a
as_line Test l = test_line l.operands l.r l.s l.t l.e l.a l.b l.c l.go
as_line Leave l = leave_line l.r l.s l.e l.a l.b l.go
as_line Out l = out_line l.r l.s l.t l.e l.a l.go
as_line Call l = call_line l.r l.e l.a l.b l.go
as_line Back l = back_line l.r l.e l.a l.b
as_line Ret l = ret_line l.e l.a

-- a ret ends its function
abbrev pub ends_function_lem : LineKind → Bool
ends_function_lem Do = false
ends_function_lem Tick = false
ends_function_lem Test = false
ends_function_lem Leave = false
ends_function_lem Out = false
ends_function_lem Call = false
ends_function_lem Back = false
ends_function_lem Ret = true
