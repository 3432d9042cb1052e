-- Each op of a do and of a test as a worked case (01, "The source table"; 02, No. 5). proofs/Arithmetic.antt closes them by computation.
use Rattle.std.specs.Prelude.{ℕ, ◌≡◌, true, false}
use Rattle.rules.specs.declared.operands.Operands.{Operands}
use Rattle.rules.specs.Computed.{Fits, Overflows}
use Rattle.rules.specs.Variables.{computed, done_on, holds_on}
use Rattle.rules.specs.Listing.{variables}

-- an op on v0 and v1, with the number n
abbrev pub on01 : (op n : ℕ) → Operands
on01 op n = record { op = op; p = 0; q = 1; n = n }

pub record Arithmetic : Type 0 where
  pub number : done_on (on01 0 65535) (variables 1 2 3 4) ≡ variables 65535 2 3 4
  pub copy : done_on (on01 1 0) (variables 1 2 3 4) ≡ variables 2 2 3 4
  pub sum : done_on (on01 2 0) (variables 40000 25535 3 4) ≡ variables 65535 25535 3 4
  pub difference : done_on (on01 3 0) (variables 7 7 3 4) ≡ variables 0 7 3 4
  -- the last that fits, and the first that does not
  pub sum_fits : computed (on01 2 0) (variables 40000 25535 3 4) ≡ Fits 0 65535
  pub sum_overflows : computed (on01 2 0) (variables 40000 25536 3 4) ≡ Overflows
  pub difference_fits : computed (on01 3 0) (variables 7 7 3 4) ≡ Fits 0 0
  pub difference_overflows : computed (on01 3 0) (variables 6 7 3 4) ≡ Overflows
  -- which leaves the variables
  pub sum_changes_nothing : done_on (on01 2 0) (variables 40000 25536 3 4) ≡ variables 40000 25536 3 4
  pub difference_changes_nothing : done_on (on01 3 0) (variables 6 7 3 4) ≡ variables 6 7 3 4
  pub equals : holds_on (on01 0 5) (variables 5 0 0 0) ≡ true
  pub equals_not : holds_on (on01 0 5) (variables 6 0 0 0) ≡ false
  pub differs : holds_on (on01 1 5) (variables 6 0 0 0) ≡ true
  pub differs_not : holds_on (on01 1 5) (variables 5 0 0 0) ≡ false
  pub less : holds_on (on01 2 0) (variables 32767 32768 0 0) ≡ true
  pub less_not : holds_on (on01 2 0) (variables 32768 32768 0 0) ≡ false
