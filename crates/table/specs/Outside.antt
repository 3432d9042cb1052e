-- Where a walk stands at a row outside of every function: what was counted, and the links and the functions of the rows before. Assumes
-- nothing: these are definitions.
use Rattle.std.specs.Prelude.{ℕ, ◌*◌, ◌≤◌, ◌<◌, ◌≡◌, List, [], length, get_or, drop}
use Rattle.rules.specs.Verdict.{Accepted}
use Rattle.rules.specs.Limits.{max_rows, max_functions}
use Rattle.rules.specs.Row.{Table, row_width, table_of}
use Rattle.rules.specs.Scan.{open_at, functions, function_row}
use Rattle.rules.specs.Check.{rows_verdict}
use Rattle.walk.specs.Standing.{Linked}

-- the rows of the first n functions
pub record Headed (t : Table) (n : ℕ) (heads : List ℕ) : Type 0 where
  pub heads_long : length heads ≡ max_functions
  pub each : (m : ℕ) → m < n → get_or heads m 0 ≡ function_row t m

-- Row i of the table that the bytes bs spell, where xs are the bytes from that row on, no row before it has a fault, no part is open
-- and n functions are.
pub record Outside (bs xs : List ℕ) (i n : ℕ) (ends elses heads : List ℕ) : Type 0 where
  pub cut : xs ≡ drop (row_width * i) bs
  pub within : row_width * i ≤ length bs
  pub few : length (table_of bs) ≤ max_rows
  pub good : rows_verdict (table_of bs) i ≡ Accepted
  pub parts : open_at (table_of bs) i ≡ []
  pub count : functions (table_of bs) i ≡ n
  pub links : Linked (table_of bs) i ends elses
  pub headed : Headed (table_of bs) n heads
