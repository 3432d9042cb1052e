-- Where a row goes that does not go on at the next row, and what it does, as a number.
use Rattle.std.specs.Prelude.{ℕ, suc, ◌+◌, ◌*◌, ◌<◌, ◌≡◌, List, length, get_or}
use Rattle.rules.specs.declared.kind.Kind.{Kind}
use Rattle.rules.specs.declared.kind.Kind.TheVariants.{Function, Do, If, Else, Loop, End, Break, Continue, Call, Unknown}
use Rattle.rules.specs.Verdict.{Accepted}
use Rattle.rules.specs.Row.{Table, table_of, kind_at, operands_at}
use Rattle.rules.specs.Scan.{Part, body, then_part, else_part, loop_body, open_at, part_of, opener_of, from_loop, end_of, function_row}
use Rattle.rules.specs.Check.{verdict_of}
use Rattle.rules.specs.Source.{false_row}

-- an end row, by the part that it ends; that of a function goes to no row of the table, which is 0: row 0 is a function's
abbrev pub end_goes_lem : Table → (i : ℕ) → Part → ℕ
end_goes_lem t i body = 0
end_goes_lem t i then_part = suc i
end_goes_lem t i else_part = suc i
end_goes_lem t i loop_body = opener_of (open_at t i)

-- a test where it does not hold, an else, a break, a continue, an end, a call; the other rows go nowhere else
abbrev pub goes_by_lem : Table → (i : ℕ) → Kind → ℕ
goes_by_lem t i Function = 0
goes_by_lem t i Do = 0
goes_by_lem t i If = false_row t i
goes_by_lem t i Else = suc (end_of t (opener_of (open_at t i)))
goes_by_lem t i Loop = suc (end_of t i)
goes_by_lem t i End = end_goes_lem t i (part_of (open_at t i))
goes_by_lem t i Break = suc (end_of t (opener_of (from_loop (open_at t i))))
goes_by_lem t i Continue = opener_of (from_loop (open_at t i))
goes_by_lem t i Call = suc (function_row t (operands_at t i).n)
goes_by_lem t i Unknown = 0

unfoldable pub go_of_lem : Table → (i : ℕ) → ℕ
go_of_lem t i = goes_by_lem t i (kind_at t i)

-- 0 goes on at the next row, 1 to 4 are a do by its op, 5 to 7 a test by its op, 8 goes elsewhere, 9 ends something, 10 calls
abbrev pub code_by : Kind → (op : ℕ) → ℕ
code_by Function op = 0
code_by Do op = op + 1
code_by If op = op + 5
code_by Else op = 8
code_by Loop op = op + 5
code_by End op = 9
code_by Break op = 8
code_by Continue op = 8
code_by Call op = 10
code_by Unknown op = 0

unfoldable pub code_of : Table → (i : ℕ) → ℕ
code_of t i = code_by (kind_at t i) (operands_at t i).op

-- the table is accepted, and word i of `goes` says in its four high bits what row i does, in the others where it goes
pub record Known (bs goes : List ℕ) : Type 0 where
  pub accepted : verdict_of bs ≡ Accepted
  pub each : (i : ℕ) → i < length (table_of bs) → get_or goes i 0 ≡ 4096 * code_of (table_of bs) i + go_of_lem (table_of bs) i
  pub low : (i : ℕ) → i < length (table_of bs) → go_of_lem (table_of bs) i < 4096
