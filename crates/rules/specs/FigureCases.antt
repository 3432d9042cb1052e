-- How much a table takes (02, No. 2) in worked cases: figures counted by hand in the lines of 01's listing, of the report, of the two small
-- programs and of the switch; and sums of steps. crates/figures/proofs/Cases.antt closes them by computation.
use Rattle.std.specs.Prelude.{ℕ, ◌≡◌, List, [], ◌∷◌}
use Rattle.rules.specs.declared.answer.Measured.{Measured}
use Rattle.rules.specs.Row.{row_width}
use Rattle.rules.specs.Match.{hardened_steps_lem}
use Rattle.rules.specs.Listing.{listed}
use Rattle.rules.specs.Cases as listing
use Rattle.rules.specs.Report as report
use Rattle.rules.specs.Worked.{turn_rows, call_rows}
use Rattle.rules.specs.Refusals.{function, if_row, else_row, end}
use Rattle.rules.specs.SwitchCases.{banded}
use Rattle.rules.specs.Measure.{measure_call}

abbrev pub figures : (lines regions value : ℕ) → Measured
figures l r v = record { number = 0; regions = r; lines = l; value = v }

abbrev pub refused : (number : ℕ) → Measured
refused n = record { number = n; regions = 0; lines = 0; value = 0 }

abbrev pub measured : List ℕ → Measured
measured numerals = measure_call (listed row_width numerals)

pub record FigureCases : Type 0 where
  pub of_listing : measure_call listing.rows ≡ figures 7 2 7
  pub of_report : measure_call report.rows ≡ figures 16 4 16
  pub of_turns : measure_call turn_rows ≡ figures 13 4 13
  pub of_calls : measure_call call_rows ≡ figures 12 2 13
  pub of_bands : measure_call banded ≡ figures 13 5 13
  pub smallest : measured (function ∷ end ∷ []) ≡ figures 1 1 2
  -- an else and no else
  pub one_if : measured (function ∷ if_row ∷ end ∷ end ∷ []) ≡ figures 3 2 5
  pub if_else : measured (function ∷ if_row ∷ else_row ∷ end ∷ end ∷ []) ≡ figures 4 3 6
  -- the first of two functions has the most regions
  pub first_most : measured (function ∷ if_row ∷ end ∷ end ∷ function ∷ end ∷ []) ≡ figures 4 2 7
  -- a switch with a default only, and an empty one, are no rows; the default of another is an else
  pub default_only : measured (function ∷ 0x0a0000000000 ∷ 0x0c0000000000 ∷ end ∷ end ∷ []) ≡ figures 1 1 2
  pub no_parts : measured (function ∷ 0x0a0000000000 ∷ end ∷ end ∷ []) ≡ figures 1 1 2
  pub case_default : measured (function ∷ 0x0a0000000000 ∷ 0x0b0000000000 ∷ 0x0c0000000000 ∷ end ∷ end ∷ []) ≡ figures 4 3 6
  -- refused as in hardening
  pub no_rows : measured [] ≡ refused 1
  pub left_open : measured (function ∷ []) ≡ refused 4
  pub twice : measured (function ∷ 0x0a0000000000 ∷ 0x0b0000000000 ∷ 0x0b0000000000 ∷ end ∷ end ∷ []) ≡ refused 11
  -- the listing's run of 9 steps with 3 dos; the largest sum, which is no run's
  pub steps_12 : hardened_steps_lem 9 3 0 ≡ 12
  pub steps_most : hardened_steps_lem 65535 65535 65535 ≡ 196605
