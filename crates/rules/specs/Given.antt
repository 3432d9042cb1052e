-- What turns a table as given away: causes 1 to 7 of 01 and 11 of 02, No. 1, each by itself, and the order in which they are found.
use Rattle.std.specs.Prelude.{ℕ, zero, suc, Bool, true, false, not, ◌&&◌, ◌||◌, List, [], ◌∷◌, eqb, ltb, length}
use Rattle.rules.specs.declared.operands.Operands.{Operands}
use Rattle.rules.specs.declared.refusal.Refusal.TheVariants.{NoWholeRows, TooManyRows, WrongField, Misplaced, RepeatedCase}
use Rattle.rules.specs.Verdict.{Verdict, Accepted}
use Rattle.rules.specs.Limits.{max_rows}
use Rattle.rules.specs.Row.{Table, is_unused, is_variable, uses_none_lem, uses_function_lem, fields_fit_lem}
use Rattle.rules.specs.Scan.{is_else, is_end_lem}
use Rattle.rules.specs.Refusal.{refuse_if_lem, and_then}
use Rattle.rules.specs.Check.{no_whole_rows, too_many_rows, row_verdict, calls_verdict}
use Rattle.rules.specs.Switch.{GivenRow, as_is, switch_row, case_row, default_row, GivenTable, given_of, given_at, Switch, Thing, in_switch, things_at, chain_rows, chain_to, chain_of}

-- 3, "kind, op, p, q or an unused field wrong" (01): 0a uses p, 0b uses n, 0c uses none
abbrev pub uses_switch_lem : Operands → Bool
uses_switch_lem o = is_unused o.op && is_variable o.p && is_unused o.q && is_unused o.n

unfoldable pub given_fits : GivenRow → Bool
given_fits (as_is r) = fields_fit_lem r.kind r.operands
given_fits (switch_row o) = uses_switch_lem o
given_fits (case_row o) = uses_function_lem o
given_fits (default_row o) = uses_none_lem o

-- "a row before the first of them": the switch has no part yet
abbrev pub is_none : List ℕ → Bool
is_none [] = true
is_none (n ∷ ns) = false

abbrev pub no_part : Switch → Bool
no_part s = is_none s.used && not s.in_default

abbrev pub is_any : List Thing → Bool
is_any [] = false
is_any (t ∷ ts) = true

-- 4: "A case or default elsewhere, an else straight in either, a row before the first of them, or either after a default"; a switch
-- outside a function (01). Where else a row of 01 is misplaced, its row in the chain is.
unfoldable pub strays : GivenRow → List Thing → Bool
strays (as_is r) ts = in_switch false (λ s. is_else r.kind || (no_part s && not (is_end_lem r.kind))) ts
strays (switch_row o) ts = not (is_any ts) || in_switch false no_part ts
strays (case_row o) ts = in_switch true (λ s. s.in_default) ts
strays (default_row o) ts = in_switch true (λ s. s.in_default) ts

-- 11: "when a second case of a switch has a number already used there"
abbrev pub is_among : ℕ → List ℕ → Bool
is_among n [] = false
is_among n (m ∷ ms) = eqb n m || is_among n ms

unfoldable pub repeats : GivenRow → List Thing → Bool
repeats (as_is r) ts = false
repeats (switch_row o) ts = false
repeats (case_row o) ts = in_switch false (λ s. is_among o.n s.used) ts
repeats (default_row o) ts = false

-- what 01 gives to the rows j, j + 1, .. of the chain c, so many of them
unfoldable pub span_verdict : (c : Table) → (j count : ℕ) → Verdict
span_verdict c j zero = Accepted
span_verdict c j (suc count) = and_then (row_verdict c j) (span_verdict c (suc j) count)

-- row i as given, in a table whose whole chain is c: 3, 4, 11 "tested right after 4", then what 01 gives to the chain's rows of this row
unfoldable pub given_row_verdict : GivenTable → (c : Table) → (i : ℕ) → Verdict
given_row_verdict g c i =
    let r = given_at g i in
    let ts = things_at g i in
    and_then (refuse_if_lem (not (given_fits r)) WrongField)
    (and_then (refuse_if_lem (strays r ts) Misplaced)
    (and_then (refuse_if_lem (repeats r ts) RepeatedCase) (span_verdict c (length (chain_to g i)) (length (chain_rows r ts)))))

unfoldable pub given_rows_verdict : GivenTable → (c : Table) → (count : ℕ) → Verdict
given_rows_verdict g c zero = Accepted
given_rows_verdict g c (suc i) = and_then (given_rows_verdict g c i) (given_row_verdict g c i)

-- "something left open at the end" (01); "a chain of over 1,024 rows gets it after the end's 4, before 7"
unfoldable pub given_table_verdict : GivenTable → (c : Table) → Verdict
given_table_verdict g c =
    and_then (given_rows_verdict g c (length g))
    (and_then (refuse_if_lem (is_any (things_at g (length g))) Misplaced)
    (and_then (refuse_if_lem (ltb max_rows (length c)) TooManyRows) (calls_verdict c (length c))))

-- "2 still comes first by the rows as given": what any list of bytes gets
unfoldable pub given_verdict : List ℕ → Verdict
given_verdict bs =
    and_then (refuse_if_lem (no_whole_rows bs) NoWholeRows)
    (and_then (refuse_if_lem (too_many_rows bs) TooManyRows) (given_table_verdict (given_of bs) (chain_of (given_of bs))))
