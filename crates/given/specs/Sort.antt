-- What a row as given is, where its fields fit. Assumes nothing: these are definitions.
use Rattle.std.specs.Prelude.{ℕ, Bool, true, false, cond, List, get_or}
use Rattle.rules.specs.Row.{row_in}
use Rattle.rules.specs.Switch.{GivenRow, as_is, switch_row, case_row, default_row, given_as}
use Rattle.rules.specs.Given.{given_fits}
use Rattle.given.specs.declared.sort.Sort.{Sort}
use Rattle.given.specs.declared.sort.Sort.TheVariants.{Wrong, Plain, Switch, Case, Default}

abbrev pub own_sort : (fit : Bool) → Sort → Sort
own_sort fit s = cond fit s Wrong

abbrev pub sort_of_lem : GivenRow → Sort
sort_of_lem (as_is r) = own_sort (given_fits (as_is r)) (Plain r.kind)
sort_of_lem (switch_row o) = own_sort (given_fits (switch_row o)) Switch
sort_of_lem (case_row o) = own_sort (given_fits (case_row o)) Case
sort_of_lem (default_row o) = own_sort (given_fits (default_row o)) Default

-- the row that the bytes begin with
abbrev pub first_given : List ℕ → GivenRow
first_given xs = given_as (get_or xs 0 0) (row_in xs 0)

abbrev pub is_switch_lem : Sort → Bool
is_switch_lem Wrong = false
is_switch_lem (Plain k) = false
is_switch_lem Switch = true
is_switch_lem Case = false
is_switch_lem Default = false

abbrev pub is_case_lem : Sort → Bool
is_case_lem Wrong = false
is_case_lem (Plain k) = false
is_case_lem Switch = false
is_case_lem Case = true
is_case_lem Default = false
