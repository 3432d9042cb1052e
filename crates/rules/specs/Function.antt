-- Where the functions of a hardened table begin and end, told from its lines alone: each ends with its one ret.
use Rattle.std.specs.Prelude.{ℕ, zero, suc, ◌+◌, ◌-◌, cond, List, [], ◌∷◌, eqb, length}
use Rattle.rules.specs.Bytes.{first}
use Rattle.rules.specs.Line.{Line, do_line, tick_line, test_line, leave_line, out_line, call_line, back_line, ret_line, line_at, is_ret}

-- the rets among the first k lines: line k belongs to the function of this number
unfoldable pub function_at : List Line → (k : ℕ) → ℕ
function_at ls zero = 0
function_at [] (suc k) = 0
function_at (l ∷ ls) (suc k) = cond (is_ret l) 1 0 + function_at ls k

-- the first line of function n
unfoldable pub start_of : List Line → (n : ℕ) → ℕ
start_of ls n = first (λ k. eqb (function_at ls k) n) (length ls) 0

-- the line past function n's last: its place m, as a line number of the table
abbrev pub finish_of : List Line → (n : ℕ) → ℕ
finish_of ls n = start_of ls (suc n)

-- "A function of m lines has places 0 to m"
abbrev pub last_place : List Line → (n : ℕ) → ℕ
last_place ls n = finish_of ls n - start_of ls n

-- the a of function n's ret
abbrev pub a_of_ret : Line → ℕ
a_of_ret (do_line o e) = 0
a_of_ret (tick_line r e a) = 0
a_of_ret (test_line o r s t e a b c go) = 0
a_of_ret (leave_line r s e a b go) = 0
a_of_ret (out_line r s t e a go) = 0
a_of_ret (call_line r e a b go) = 0
a_of_ret (back_line r e a b) = 0
a_of_ret (ret_line e a) = a

abbrev pub ret_value : List Line → (n : ℕ) → ℕ
ret_value ls n = a_of_ret (line_at ls (finish_of ls n - 1))
