-- What a row as given adds to the sums over the chain. Assumes nothing: these are definitions.
use Rattle.std.specs.Prelude.{ℕ, zero, suc, Bool, true, false, cond}
use Rattle.rules.specs.declared.kind.Kind.{Kind}
use Rattle.rules.specs.declared.kind.Kind.TheVariants.{If, Else}
use Rattle.rules.specs.declared.sums.Sums.{Sums}
use Rattle.rules.specs.Scan.{shape_of, regions_after}
use Rattle.rules.specs.Switch.{GivenRow, as_is, switch_row, case_row, default_row, GivenTable, given_at}
use Rattle.rules.specs.Figures.{counted}

-- a part of a switch: "ifs in elses" but for the first
abbrev pub part_counted : (first : Bool) → Sums → Sums
part_counted first s = cond first s (counted Else s)

-- what a row adds; `first` says that the row before it opened a switch
abbrev pub given_counted : GivenRow → (first : Bool) → Sums → Sums
given_counted (as_is r) first s = counted r.kind s
given_counted (switch_row o) first s = s
given_counted (case_row o) first s = counted If (part_counted first s)
given_counted (default_row o) first s = part_counted first s

abbrev pub is_switch_row : GivenRow → Bool
is_switch_row (as_is r) = false
is_switch_row (switch_row o) = true
is_switch_row (case_row o) = false
is_switch_row (default_row o) = false

-- the row before row i opens a switch
abbrev pub after_switch : GivenTable → (i : ℕ) → Bool
after_switch g zero = false
after_switch g (suc i) = is_switch_row (given_at g i)

-- the regions that a row opens
abbrev pub regions_by : Kind → ℕ
regions_by k = regions_after (shape_of k) 0
