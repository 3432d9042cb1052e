-- Where the fault of a refused table stands: the row as given that its number is about. The order is that of "What turns a call away"
-- (01) with 02, No. 1: 1, 2; row by row 3, 4, 11, 5, 6; the end of the table (4); 2 by the chain; 7.
use Rattle.std.specs.Prelude.{ℕ, suc, ◌/◌, Bool, false, cond, not, ◌&&◌, List, ltb, leb, length}
use Rattle.rules.specs.declared.answer.Fault.{Fault}
use Rattle.rules.specs.declared.refusal.Refusal.{Refusal}
use Rattle.rules.specs.declared.refusal.Refusal.TheVariants.{NoWholeRows, TooManyRows, WrongField, Misplaced, TooManyFunctions, TooManyParts, NoSuchFunction, ShortOutput, ShortRoom, NotHardened, RepeatedCase, NotFinished}
use Rattle.rules.specs.Verdict.{Verdict, Accepted, Refused}
use Rattle.rules.specs.Bytes.{first}
use Rattle.rules.specs.Limits.{max_rows}
use Rattle.rules.specs.Row.{Table, row_width}
use Rattle.rules.specs.Scan.{function_count}
use Rattle.rules.specs.Refusal.{is_accepted, number_of}
use Rattle.rules.specs.Check.{is_call, too_many_rows}
use Rattle.rules.specs.Switch.{GivenRow, as_is, switch_row, case_row, default_row, GivenTable, given_of, given_at, chain_to, chain_of}
use Rattle.rules.specs.Given.{given_row_verdict, given_verdict}

-- row i as given, of a table whose chain is c, meets 3, 4, 11, 5 or 6
abbrev pub is_faulty : GivenTable → (c : Table) → ℕ → Bool
is_faulty g c i = not (is_accepted (given_row_verdict g c i))

-- the first row that meets one of them; the number of rows where only the end of the table does
abbrev pub faulty_row : GivenTable → (c : Table) → ℕ
faulty_row g c = first (is_faulty g c) (length g) 0

-- the first row with which the chain has over j rows
abbrev pub row_of : GivenTable → (j : ℕ) → ℕ
row_of g j = first (λ i. ltb j (length (chain_to g (suc i)))) (length g) 0

-- the row calls a function whose number is not below `count`
unfoldable pub calls_beyond_lem : (count : ℕ) → GivenRow → Bool
calls_beyond_lem count (as_is r) = is_call r.kind && leb count r.operands.n
calls_beyond_lem count (switch_row o) = false
calls_beyond_lem count (case_row o) = false
calls_beyond_lem count (default_row o) = false

-- the first row that meets 7, in a table with so many functions
abbrev pub calling_row : GivenTable → (count : ℕ) → ℕ
calling_row g count = first (λ i. calls_beyond_lem count (given_at g i)) (length g) 0

-- 1: the row that isn't whole, which is row 0 where there are no bytes; 2: the first row that is one too many, or with which the chain
-- is too long; 3 to 7 and 11: the first row that meets it. No table meets 8, 9, 10 or 13.
unfoldable pub fault_row : Refusal → List ℕ → ℕ
fault_row NoWholeRows bs = length bs / row_width
fault_row TooManyRows bs = cond (too_many_rows bs) max_rows (row_of (given_of bs) max_rows)
fault_row WrongField bs = faulty_row (given_of bs) (chain_of (given_of bs))
fault_row Misplaced bs = faulty_row (given_of bs) (chain_of (given_of bs))
fault_row TooManyFunctions bs = faulty_row (given_of bs) (chain_of (given_of bs))
fault_row TooManyParts bs = faulty_row (given_of bs) (chain_of (given_of bs))
fault_row NoSuchFunction bs = calling_row (given_of bs) (function_count (chain_of (given_of bs)))
fault_row ShortOutput bs = 0
fault_row ShortRoom bs = 0
fault_row NotHardened bs = 0
fault_row RepeatedCase bs = faulty_row (given_of bs) (chain_of (given_of bs))
fault_row NotFinished bs = 0

-- an accepted table has no fault before its end
unfoldable pub stop_row : Verdict → List ℕ → ℕ
stop_row Accepted bs = length bs / row_width
stop_row (Refused r) bs = fault_row r bs

-- find a fault: the number that `check` gives, and the row
unfoldable pub fault_call : (rows : List ℕ) → Fault
fault_call bs = record { number = number_of (given_verdict bs); row = stop_row (given_verdict bs) bs }
