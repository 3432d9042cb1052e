-- The links of a source table: for each row that opens something its end row, for each if its else row, for each function its row.
-- Checking a table finds them; hardening and the source run use them.
use Rattle.std.specs.Prelude.{ℕ, ◌<◌, ◌≡◌, Bool, true, false, cond, List, length, get_or}
use Rattle.rules.specs.declared.kind.Kind.{Kind}
use Rattle.rules.specs.declared.kind.Kind.TheVariants.{Function, Do, If, Else, Loop, End, Break, Continue, Call, Unknown}
use Rattle.rules.specs.Verdict.{Verdict, Accepted}
use Rattle.rules.specs.Row.{Table, table_of, kind_at}
use Rattle.rules.specs.Scan.{end_of, else_of, has_else, function_count, function_row}
use Rattle.rules.specs.Check.{verdict_of}

-- a row of this kind opens something
abbrev pub is_opening : Kind → Bool
is_opening Function = true
is_opening Do = false
is_opening If = true
is_opening Else = false
is_opening Loop = true
is_opening End = false
is_opening Break = false
is_opening Continue = false
is_opening Call = false
is_opening Unknown = false

-- the else row of the if in row i, or 0 where it has none
unfoldable pub else_link : Table → (i : ℕ) → ℕ
else_link t i = cond (has_else t i) (else_of t i) 0

-- word i of `ends` is the end row of what row i opens, word i of `elses` the else row of the if in row i, word n of `heads` the
-- row of function n
pub record Links (t : Table) (ends elses heads : List ℕ) : Type 0 where
  pub ends_are : (i : ℕ) → i < length t → is_opening (kind_at t i) ≡ true → get_or ends i 0 ≡ end_of t i
  pub elses_are : (i : ℕ) → i < length t → kind_at t i ≡ If → get_or elses i 0 ≡ else_link t i
  pub heads_are : (n : ℕ) → n < function_count t → get_or heads n 0 ≡ function_row t n

-- what checking a table finds: its verdict, and the links of an accepted one
pub record Checked (rows : List ℕ) (verdict : Verdict) (ends elses heads : List ℕ) : Type 0 where
  pub verdict_is : verdict ≡ verdict_of rows
  pub links : verdict ≡ Accepted → Links (table_of rows) ends elses heads
