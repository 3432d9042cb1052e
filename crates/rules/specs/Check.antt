-- Causes 1 to 7 of "What turns a call away" (01), each by itself, and the order in which they are found.
use Rattle.std.specs.Prelude.{ℕ, zero, suc, ◌-◌, ◌%◌, ◌/◌, Bool, true, false, not, ◌&&◌, ◌||◌, List, [], ◌∷◌, eqb, ltb, leb, length}
use Rattle.rules.specs.declared.kind.Kind.{Kind}
use Rattle.rules.specs.declared.kind.Kind.TheVariants.{Function, Do, If, Else, Loop, End, Break, Continue, Call, Unknown}
use Rattle.rules.specs.declared.refusal.Refusal.TheVariants.{NoWholeRows, TooManyRows, WrongField, Misplaced, TooManyFunctions, TooManyParts, NoSuchFunction}
use Rattle.rules.specs.Verdict.{Verdict, Accepted}
use Rattle.rules.specs.Limits.{max_rows, max_functions, max_constructs, max_regions}
use Rattle.rules.specs.Row.{Table, row_width, table_of, kind_at, operands_at, fields_fit_lem}
use Rattle.rules.specs.Scan.{Part, body, then_part, else_part, loop_body, Open, part_of, regions, open_at, body_region, from_loop, is_function_lem, functions, function_count}
use Rattle.rules.specs.Refusal.{refuse_if_lem, and_then}

-- 1, "bytes are no whole rows, or none"
abbrev pub no_whole_rows : List ℕ → Bool
no_whole_rows bs = eqb (length bs) 0 || not (eqb (length bs % row_width) 0)

-- 2, "over 1,024 rows"
abbrev pub too_many_rows : List ℕ → Bool
too_many_rows bs = ltb max_rows (length bs / row_width)

-- 3, "kind, op, p, q or an unused field wrong"
abbrev pub wrong_field : Table → ℕ → Bool
wrong_field t i = not (fields_fit_lem (kind_at t i) (operands_at t i))

-- 4, "row misplaced: outside a function, a function in a function, else without open then part, break or continue outside a
-- loop": a row of this kind where the parts fs are open
abbrev pub is_outside : List Open → Bool
is_outside [] = true
is_outside (f ∷ fs) = false

abbrev pub is_then : Part → Bool
is_then body = false
is_then then_part = true
is_then else_part = false
is_then loop_body = false

unfoldable pub misplaced_in : Kind → List Open → Bool
misplaced_in Function fs = not (is_outside fs)
misplaced_in Do fs = is_outside fs
misplaced_in If fs = is_outside fs
misplaced_in Else fs = not (is_then (part_of fs))
misplaced_in Loop fs = is_outside fs
misplaced_in End fs = is_outside fs
misplaced_in Break fs = is_outside (from_loop fs)
misplaced_in Continue fs = is_outside (from_loop fs)
misplaced_in Call fs = is_outside fs
misplaced_in Unknown fs = false

abbrev pub misplaced : Table → ℕ → Bool
misplaced t i = misplaced_in (kind_at t i) (open_at t i)

-- 4, "something left open at the end"
abbrev pub left_open_lem : Table → Bool
left_open_lem t = not (is_outside (open_at t (length t)))

-- 5, "a 33rd function"
abbrev pub too_many_functions : Table → ℕ → Bool
too_many_functions t i = is_function_lem (kind_at t i) && leb max_functions (functions t i)

-- 6, "a 17th open if or loop, or a 65th region": fs are the open parts before the row, g the regions opened before it
abbrev pub constructs_in : List Open → ℕ
constructs_in fs = length fs - 1

abbrev pub all_constructs : List Open → Bool
all_constructs fs = leb max_constructs (constructs_in fs)

abbrev pub all_regions : (g : ℕ) → List Open → Bool
all_regions g fs = leb max_regions (g - body_region fs)

unfoldable pub one_too_many : Kind → (g : ℕ) → List Open → Bool
one_too_many Function g fs = false
one_too_many Do g fs = false
one_too_many If g fs = all_constructs fs || all_regions g fs
one_too_many Else g fs = all_regions g fs
one_too_many Loop g fs = all_constructs fs || all_regions g fs
one_too_many End g fs = false
one_too_many Break g fs = false
one_too_many Continue g fs = false
one_too_many Call g fs = false
one_too_many Unknown g fs = false

abbrev pub too_many_parts : Table → ℕ → Bool
too_many_parts t i = one_too_many (kind_at t i) (regions t i) (open_at t i)

-- 7, "call of a function that isn't there"
abbrev pub is_call : Kind → Bool
is_call Function = false
is_call Do = false
is_call If = false
is_call Else = false
is_call Loop = false
is_call End = false
is_call Break = false
is_call Continue = false
is_call Call = true
is_call Unknown = false

abbrev pub no_such_function : Table → ℕ → Bool
no_such_function t i = is_call (kind_at t i) && leb (function_count t) (operands_at t i).n

-- "row by row 3, 4, 5, 6"
unfoldable pub row_verdict : Table → ℕ → Verdict
row_verdict t i =
    and_then (refuse_if_lem (wrong_field t i) WrongField)
    (and_then (refuse_if_lem (misplaced t i) Misplaced)
    (and_then (refuse_if_lem (too_many_functions t i) TooManyFunctions) (refuse_if_lem (too_many_parts t i) TooManyParts)))

unfoldable pub rows_verdict : Table → (count : ℕ) → Verdict
rows_verdict t zero = Accepted
rows_verdict t (suc i) = and_then (rows_verdict t i) (row_verdict t i)

unfoldable pub calls_verdict : Table → (count : ℕ) → Verdict
calls_verdict t zero = Accepted
calls_verdict t (suc i) = and_then (calls_verdict t i) (refuse_if_lem (no_such_function t i) NoSuchFunction)

-- "then the end of the table (4), then 7"
unfoldable pub table_verdict : Table → Verdict
table_verdict t =
    and_then (rows_verdict t (length t))
    (and_then (refuse_if_lem (left_open_lem t) Misplaced) (calls_verdict t (length t)))

-- "Tests 1 and 2 come first": what any list of bytes gets by 01 alone; specs/Given.antt has switches
unfoldable pub verdict_of : List ℕ → Verdict
verdict_of bs =
    and_then (refuse_if_lem (no_whole_rows bs) NoWholeRows)
    (and_then (refuse_if_lem (too_many_rows bs) TooManyRows) (table_verdict (table_of bs)))
