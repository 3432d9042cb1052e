-- What the functions over a whole table promise. Assumes nothing: these are definitions.
use Rattle.std.specs.Prelude.{Result, Ok, Err, ℕ, ◌+◌, ◌*◌, ◌≤◌, ◌<◌, ◌≡◌, List, [], length, drop}
use Rattle.rules.specs.declared.kind.Kind.{Kind}
use Rattle.rules.specs.declared.kind.Kind.TheVariants.{Unknown}
use Rattle.rules.specs.declared.refusal.Refusal.{Refusal}
use Rattle.rules.specs.declared.refusal.Refusal.TheVariants.{WrongField, Misplaced}
use Rattle.rules.specs.Verdict.{Accepted}
use Rattle.rules.specs.Row.{row_width, table_of}
use Rattle.rules.specs.Scan.{open_at, function_count}
use Rattle.rules.specs.Check.{rows_verdict}
use Rattle.walk.specs.Standing.{Linked}
use Rattle.table.specs.Outside.{Headed, Outside}
use Rattle.walk.specs.Walked.{TurnedAway}

-- why a row outside of every function that opens none is turned away
abbrev pub stray_cause : Kind → Refusal
stray_cause Unknown = WrongField
stray_cause _ = Misplaced

-- the rows that an answer covers
unfoldable pub one_rows : Result ℕ Refusal → ℕ
one_rows (Err c) = 1
one_rows (Ok k) = k

abbrev pub AfterOne : (bs xs : List ℕ) (i n : ℕ) (ends elses heads : List ℕ) → Result ℕ Refusal → Type 0
AfterOne bs xs i n ends elses heads (Err c) = TurnedAway bs c
AfterOne bs xs i n ends elses heads (Ok k) = Outside bs (drop (row_width * k) xs) (i + k) (n + 1) ends elses heads

-- for every table of which xs are the bytes from row `base` on, n functions before it
pub record OneOk (xs : List ℕ) (base n : ℕ) (e l a e' l' a' : List ℕ) (r : Result ℕ Refusal) : Type 0 where
  pub some : 0 < one_rows r
  pub fit : row_width * one_rows r ≤ length xs
  pub leads : (bs : List ℕ) → Outside bs xs base n e l a → AfterOne bs xs base n e' l' a' r

-- a table whose rows have no fault, and n functions
pub record Scanned (bs : List ℕ) (n : ℕ) (ends elses heads : List ℕ) : Type 0 where
  pub good : rows_verdict (table_of bs) (length (table_of bs)) ≡ Accepted
  pub closed : open_at (table_of bs) (length (table_of bs)) ≡ []
  pub count : n ≡ function_count (table_of bs)
  pub links : Linked (table_of bs) (length (table_of bs)) ends elses
  pub headed : Headed (table_of bs) n heads

abbrev pub AfterAll : (bs ends elses heads : List ℕ) → Result ℕ Refusal → Type 0
AfterAll bs ends elses heads (Err c) = TurnedAway bs c
AfterAll bs ends elses heads (Ok n) = Scanned bs n ends elses heads

pub record AllOk (bs ends elses heads : List ℕ) (r : Result ℕ Refusal) : Type 0 where
  pub leads : AfterAll bs ends elses heads r
