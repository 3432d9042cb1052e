-- What the pass over a whole table promises. Assumes nothing: these are definitions.
use Rattle.std.specs.Prelude.{Result, Ok, Err, ℕ, ◌<◌, ◌≡◌, false, cond, List, eqb, ltb, length}
use Rattle.rules.specs.declared.refusal.Refusal.{Refusal}
use Rattle.rules.specs.declared.refusal.Refusal.TheVariants.{TooManyRows, Misplaced, NoSuchFunction}
use Rattle.rules.specs.Verdict.{Accepted, Refused}
use Rattle.rules.specs.Limits.{max_rows}
use Rattle.rules.specs.Scan.{function_count}
use Rattle.rules.specs.Switch.{given_of, things_at, chain_of}
use Rattle.rules.specs.Given.{is_any, given_rows_verdict, given_table_verdict, given_verdict}
use Rattle.rules.specs.Fault.{row_of, fault_row}
use Rattle.scan.specs.declared.open.Standing.{Standing}
use Rattle.given.specs.declared.things.Things.{Things}
use Rattle.given.specs.Through.{Written}
use Rattle.fault.specs.declared.pass.TableFault.{TableFault}
use Rattle.fault.specs.declared.pass.Counted.{Counted}

abbrev pub Passed : Type 0
Passed = Result Counted TableFault

abbrev pub Found : Type 0
Found = Result ℕ TableFault

abbrev pub fault_at : Refusal → (row : ℕ) → TableFault
fault_at c row = record { cause = c; row = row }

abbrev pub nothing : Things
nothing = record { count = 0; cases = 0; chained = 0; long = 0 }

-- what the end of the table answers, where `at` is the number of rows
abbrev pub end_of : Standing → Things → (at : ℕ) → Passed
end_of s t at = cond (eqb t.count 0) (Ok (record { functions = s.count; rows = t.chained; long = t.long })) (Err (fault_at Misplaced at))

-- "a chain of over 1,024 rows gets it after the end's 4, before 7": row `at` of `count` rows calls a function that isn't there
abbrev pub last_of : (chained long at count : ℕ) → Found
last_of chained long at count =
    cond (ltb max_rows chained) (Err (fault_at TooManyRows long)) (cond (ltb at count) (Err (fault_at NoSuchFunction at)) (Ok chained))

-- the table is refused, whatever it calls, and that is its row
pub record StoppedAt (bs : List ℕ) (c : Refusal) (row : ℕ) : Type 0 where
  pub refused : given_table_verdict (given_of bs) (chain_of (given_of bs)) ≡ Refused c
  pub row_is : fault_row c bs ≡ row

-- nothing is wrong but the chain's length or a call; so many functions and rows has the chain, which the buffer begins with where it has
-- room, and with row `long` it is too long
pub record Chained (bs : List ℕ) (functions rows long : ℕ) (out : List ℕ) : Type 0 where
  pub good : given_rows_verdict (given_of bs) (chain_of (given_of bs)) (length (given_of bs)) ≡ Accepted
  pub closed : is_any (things_at (given_of bs) (length (given_of bs))) ≡ false
  pub count_is : functions ≡ function_count (chain_of (given_of bs))
  pub rows_are : rows ≡ length (chain_of (given_of bs))
  pub long_is : max_rows < rows → row_of (given_of bs) max_rows ≡ long
  pub written : Written (chain_of (given_of bs)) out

abbrev pub AfterPass : (bs out : List ℕ) → Passed → Type 0
AfterPass bs out (Err f) = StoppedAt bs f.cause f.row
AfterPass bs out (Ok n) = Chained bs n.functions n.rows n.long out

pub record PassedOk (bs out : List ℕ) (r : Passed) : Type 0 where
  pub leads : AfterPass bs out r

-- the table is refused, and that is its row
pub record TurnedAway (bs : List ℕ) (c : Refusal) (row : ℕ) : Type 0 where
  pub refused : given_verdict bs ≡ Refused c
  pub row_is : fault_row c bs ≡ row

-- the table is accepted, its chain has so many rows, and the buffer begins with them where it has room
pub record HasChain (bs : List ℕ) (rows : ℕ) (out : List ℕ) : Type 0 where
  pub accepted : given_verdict bs ≡ Accepted
  pub rows_are : rows ≡ length (chain_of (given_of bs))
  pub written : Written (chain_of (given_of bs)) out

abbrev pub WhatIsFound : (bs out : List ℕ) → Found → Type 0
WhatIsFound bs out (Err f) = TurnedAway bs f.cause f.row
WhatIsFound bs out (Ok rows) = HasChain bs rows out

pub record FoundOk (bs out : List ℕ) (r : Found) : Type 0 where
  pub leads : WhatIsFound bs out r
