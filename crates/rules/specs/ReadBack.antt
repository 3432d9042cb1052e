-- The source table of a hardened one, and "is a hardened table" (01, "What turns a call away", 10).
use Rattle.std.specs.Prelude.{ℕ, zero, suc, ◌-◌, Bool, true, false, cond, ◌&&◌, List, [], ◌∷◌, ◌++◌, eqb, ltb, length}
use Rattle.rules.specs.declared.operands.Operands.{Operands}
use Rattle.rules.specs.declared.kind.Kind.{Kind}
use Rattle.rules.specs.declared.kind.Kind.TheVariants.{Function, Do, If, Else, Loop, End, Break, Continue, Call}
use Rattle.rules.specs.Bytes.{same}
use Rattle.rules.specs.Row.{Row, Table, table_bytes}
use Rattle.rules.specs.Refusal.{is_accepted}
use Rattle.rules.specs.Check.{verdict_of}
use Rattle.rules.specs.Line.{Line, do_line, tick_line, test_line, leave_line, out_line, call_line, back_line, ret_line, no_operands, line_at, is_ret, lines_in}
use Rattle.rules.specs.Function.{function_at}
use Rattle.rules.specs.Harden.{hardened_bytes}

abbrev pub bare : Kind → Row
bare k = record { kind = k; operands = no_operands }

abbrev pub call_on : (n : ℕ) → Operands
call_on n = record { op = 0; p = 0; q = 0; n = n }

-- the line is a leave to line k
abbrev pub leaves_to_lem : (k : ℕ) → Line → Bool
leaves_to_lem k (do_line o e) = false
leaves_to_lem k (tick_line r e a) = false
leaves_to_lem k (test_line o r s t e a b c go) = false
leaves_to_lem k (leave_line r s e a b go) = eqb go k
leaves_to_lem k (out_line r s t e a go) = false
leaves_to_lem k (call_line r e a b go) = false
leaves_to_lem k (back_line r e a b) = false
leaves_to_lem k (ret_line e a) = false

-- The row that line k stands for. A test is a loop's where the line before its go is a leave back to it; a leave past the next
-- line is an else's; an out that goes forward is a break; a call's function is the one that its go begins.
unfoldable pub row_for : List Line → (k : ℕ) → Line → List Row
row_for ls k (do_line o e) = record { kind = Do; operands = o } ∷ []
row_for ls k (tick_line r e a) = []
row_for ls k (test_line o r s t e a b c go) =
    record { kind = cond (leaves_to_lem k (line_at ls (go - 1))) Loop If; operands = o } ∷ []
row_for ls k (leave_line r s e a b go) = bare (cond (ltb (suc k) go) Else End) ∷ []
row_for ls k (out_line r s t e a go) = bare (cond (ltb k go) Break Continue) ∷ []
row_for ls k (call_line r e a b go) = record { kind = Call; operands = call_on (function_at ls go) } ∷ []
row_for ls k (back_line r e a b) = []
row_for ls k (ret_line e a) = bare End ∷ []

-- a function opens at line 0 and after each ret
abbrev pub begins : List Line → (k : ℕ) → Bool
begins ls zero = true
begins ls (suc k) = is_ret (line_at ls k)

abbrev pub function_row_if : Bool → List Row
function_row_if true = bare Function ∷ []
function_row_if false = []

-- the rows of the first k lines; of all lines
unfoldable pub unread_to : List Line → (k : ℕ) → Table
unread_to ls zero = []
unread_to ls (suc k) = unread_to ls k ++ (function_row_if (begins ls k) ++ row_for ls k (line_at ls k))

abbrev pub unread : List Line → Table
unread ls = unread_to ls (length ls)

-- the source bytes that hardened bytes are read back to
unfoldable pub source_bytes : List ℕ → List ℕ
source_bytes lines = table_bytes (unread (lines_in lines))

-- "hardened bytes that no source table gives": what is read back is no source table, or hardens to other bytes
unfoldable pub is_hardened_lem : List ℕ → Bool
is_hardened_lem lines =
    is_accepted (verdict_of (source_bytes lines)) && same (hardened_bytes (source_bytes lines)) lines
