-- What a row as given does where the innermost thing has the mark `top`, so many things are open and so many cases in all: by numbers
-- alone. Assumes nothing: these are definitions.
use Rattle.std.specs.Prelude.{ℕ, ◌+◌, ◌-◌, ◌%◌, Bool, true, false, cond, not, ◌&&◌, ◌||◌, List, ◌++◌, eqb, ltb, replicate}
use Rattle.rules.specs.declared.kind.Kind.{Kind}
use Rattle.rules.specs.declared.kind.Kind.TheVariants.{Function, Do, If, Else, Loop, End, Break, Continue, Call, Unknown}
use Rattle.rules.specs.declared.refusal.Refusal.TheVariants.{WrongField, Misplaced, RepeatedCase}
use Rattle.rules.specs.Verdict.{Verdict, Refused}
use Rattle.rules.specs.Row.{Row, Table}
use Rattle.rules.specs.Scan.{is_end_lem}
use Rattle.rules.specs.Links.{is_opening}
use Rattle.rules.specs.Refusal.{refuse_if_lem, and_then}
use Rattle.rules.specs.Switch.{bare_row}
use Rattle.given.specs.declared.plan.Plan.{Plan}
use Rattle.given.specs.declared.sort.Sort.{Sort}
use Rattle.given.specs.declared.sort.Sort.TheVariants.{Wrong, Plain, Switch, Case, Default}
use Rattle.given.specs.Things.{marked_cases, among_words}

-- the open things after a row of 01 that is no end of a switch
abbrev pub count_after_lem : Kind → (count : ℕ) → ℕ
count_after_lem k n = cond (is_opening k) (n + 1) (cond (is_end_lem k) (n - 1) n)

-- a part of a switch begins with an else where a case stands before it
abbrev pub elses_by_lem : (top : ℕ) → ℕ
elses_by_lem m = cond (ltb 2 m) 1 0

abbrev pub closes_switch_lem : Kind → (top : ℕ) → Bool
closes_switch_lem k m = not (eqb m 0) && is_end_lem k

abbrev pub closing_plan : (ends count cases : ℕ) → Plan
closing_plan ends n c = record { elses = 0; own = 0; ends = ends; kind = End; slot = n; mark = 0; count = n - 1; cases = c - ends }

abbrev pub plain_plan : Kind → (top count cases : ℕ) → Plan
plain_plan k m n c =
    cond (closes_switch_lem k m) (closing_plan (marked_cases m) n c)
    (record { elses = 0; own = 1; ends = 0; kind = k; slot = n; mark = 0; count = count_after_lem k n; cases = c })

abbrev pub plan_of : Sort → (top count cases : ℕ) → Plan
plan_of Wrong m n c = closing_plan 0 n c
plan_of (Plain k) m n c = plain_plan k m n c
plan_of Switch m n c = record { elses = 0; own = 0; ends = 0; kind = End; slot = n; mark = 1; count = n + 1; cases = c }
plan_of Case m n c =
    record { elses = elses_by_lem m; own = 1; ends = 0; kind = If; slot = n - 1; mark = m + 2; count = n; cases = c + 1 }
plan_of Default m n c =
    record { elses = elses_by_lem m; own = 0; ends = 0; kind = End; slot = n - 1; mark = m + 1; count = n; cases = c }

-- the rows of the chain, where r is the row itself or the if of a case
abbrev pub planned_rows : Plan → (r : Row) → Table
planned_rows p r = replicate p.elses (bare_row Else) ++ (replicate p.own r ++ replicate p.ends (bare_row End))

-- 4: a row of 01 straight in a switch, before its first part where `fresh`
abbrev pub stray_in_lem : Kind → (fresh : Bool) → Bool
stray_in_lem Function f = f
stray_in_lem Do f = f
stray_in_lem If f = f
stray_in_lem Else f = true
stray_in_lem Loop f = f
stray_in_lem End f = false
stray_in_lem Break f = f
stray_in_lem Continue f = f
stray_in_lem Call f = f
stray_in_lem Unknown f = f

-- 4: a part is taken by a switch that is not in its default, whose mark is odd
abbrev pub stray_by : Sort → (top count : ℕ) → Bool
stray_by Wrong m n = false
stray_by (Plain k) m n = not (eqb m 0) && stray_in_lem k (eqb m 1)
stray_by Switch m n = eqb n 0 || eqb m 1
stray_by Case m n = eqb (m % 2) 0
stray_by Default m n = eqb (m % 2) 0

-- 3, 4, 11: what the row itself meets. The numbers of the innermost switch are the last ones.
abbrev pub cause_of : Sort → (number top count cases : ℕ) → (words : List ℕ) → Verdict
cause_of Wrong x m n c us = Refused WrongField
cause_of (Plain k) x m n c us = refuse_if_lem (stray_by (Plain k) m n) Misplaced
cause_of Switch x m n c us = refuse_if_lem (stray_by Switch m n) Misplaced
cause_of Case x m n c us =
    and_then (refuse_if_lem (stray_by Case m n) Misplaced) (refuse_if_lem (among_words x us (c - marked_cases m) (marked_cases m)) RepeatedCase)
cause_of Default x m n c us = refuse_if_lem (stray_by Default m n) Misplaced
