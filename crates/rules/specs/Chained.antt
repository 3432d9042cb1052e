-- What holds of tables as given and their chains, as types. proofs/Switch/ proves them.
use Rattle.std.specs.Prelude.{ℕ, ◌+◌, ◌*◌, ◌/◌, ◌≤◌, ◌<◌, ◌≢◌, ◌↔◌, ◌≡◌, Bool, true, false, List, [], ◌∷◌, length, get_or}
use Rattle.rules.specs.declared.refusal.Refusal.TheVariants.{TooManyParts}
use Rattle.rules.specs.Verdict.{Verdict, Accepted, Refused}
use Rattle.rules.specs.Bytes.{AreBytes}
use Rattle.rules.specs.Limits.{max_rows, max_constructs}
use Rattle.rules.specs.Row.{row_width, table_of}
use Rattle.rules.specs.Scan.{is_end_lem}
use Rattle.rules.specs.Check.{verdict_of}
use Rattle.rules.specs.Harden.{hardened_bytes}
use Rattle.rules.specs.ReadBack.{source_bytes, is_hardened_lem}
use Rattle.rules.specs.Switch.{GivenRow, as_is, switch_row, case_row, default_row, GivenTable, given_of, given_at, Thing, construct, switch, in_switch, things_at, chain_rows, chain_to, chain_of, chain_bytes}
use Rattle.rules.specs.Given.{strays, span_verdict, given_rows_verdict, given_verdict}

-- The chain of an accepted table is a table that 01 accepts, so that all that is proved of such tables holds of it.
abbrev pub ChainAccepted : Type 0
ChainAccepted = (rows : List ℕ) → given_verdict rows ≡ Accepted → verdict_of (chain_bytes rows) ≡ Accepted

-- no row begins with 0a, 0b or 0c
pub record NoSwitch (rows : List ℕ) : Type 0 where
  pub no_switch : (i : ℕ) → i < length rows / row_width → get_or rows (row_width * i) 0 ≢ 0x0a
  pub no_case : (i : ℕ) → i < length rows / row_width → get_or rows (row_width * i) 0 ≢ 0x0b
  pub no_default : (i : ℕ) → i < length rows / row_width → get_or rows (row_width * i) 0 ≢ 0x0c

-- Such a table is its own chain, and gets exactly what 01 gives it.
abbrev pub PlainChain : Type 0
PlainChain = (rows : List ℕ) → NoSwitch rows → chain_of (given_of rows) ≡ table_of rows

abbrev pub PlainVerdict : Type 0
PlainVerdict = (rows : List ℕ) → NoSwitch rows → given_verdict rows ≡ verdict_of rows

-- the table is accepted, and these bytes are its chain
pub record StandsFor (rows chain : List ℕ) : Type 0 where
  pub accepted : given_verdict rows ≡ Accepted
  pub chain_is : chain_bytes rows ≡ chain

-- What 01 accepts is accepted and is its own chain: code may try the walkers of 01 first.
abbrev pub PlainAccepted : Type 0
PlainAccepted = (rows : List ℕ) → AreBytes rows → verdict_of rows ≡ Accepted → StandsFor rows rows

-- the cases of all open switches
abbrev pub cases_in : List Thing → ℕ
cases_in [] = 0
cases_in (construct ∷ ts) = cases_in ts
cases_in (switch s ∷ ts) = length s.used + cases_in ts

-- Before row i the chain has at most 3 rows for each row as given, those counted that will close the cases open there.
abbrev pub ThreeEach : Type 0
ThreeEach = (g : GivenTable) (i : ℕ) → length (chain_to g i) + cases_in (things_at g i) ≤ 3 * i

-- Where no row before row i has a fault, at most 16 cases are open there.
abbrev pub FewCases : Type 0
FewCases = (g : GivenTable) (i : ℕ) → i ≤ length g → given_rows_verdict g (chain_of g) i ≡ Accepted → cases_in (things_at g i) ≤ max_constructs

-- An accepted table's chain has at most 1,024 rows.
abbrev pub FewChained : Type 0
FewChained = (rows : List ℕ) → given_verdict rows ≡ Accepted → length (chain_of (given_of rows)) ≤ max_rows

-- "Reading back gives the ifs."
abbrev pub ReadsChain : Type 0
ReadsChain = (rows : List ℕ) → AreBytes rows → given_verdict rows ≡ Accepted → source_bytes (hardened_bytes (chain_bytes rows)) ≡ chain_bytes rows

-- a source table, perhaps with switches, that hardens to these bytes
pub record SourceOf (lines : List ℕ) : Type 0 where
  pub rows : List ℕ
  pub are_bytes : AreBytes rows
  pub accepted : given_verdict rows ≡ Accepted
  pub hardens : hardened_bytes (chain_bytes rows) ≡ lines

-- "Is a hardened table" still holds of exactly the bytes that some source table hardens to.
abbrev pub RecognisesGiven : Type 0
RecognisesGiven = (lines : List ℕ) → AreBytes lines → (is_hardened_lem lines ≡ true) ↔ SourceOf lines

-- Two source tables with the same hardened table have the same chain.
abbrev pub OneChain : Type 0
OneChain =
    (rows others : List ℕ) → AreBytes rows → AreBytes others → given_verdict rows ≡ Accepted → given_verdict others ≡ Accepted
    → hardened_bytes (chain_bytes rows) ≡ hardened_bytes (chain_bytes others) → chain_bytes rows ≡ chain_bytes others

-- "the reader refuses exactly what no source table hardens to": a call's number is 10 there, and nowhere else
pub record TenExactly (lines : List ℕ) (number : ℕ) : Type 0 where
  pub none : number ≡ 10 → SourceOf lines → ⊥
  pub some : number ≢ 10 → SourceOf lines

-- these rows are the one table of 01 that hardens to the lines, and the chain of every table that does
pub record OnlySource (lines rows : List ℕ) : Type 0 where
  pub accepted : verdict_of rows ≡ Accepted
  pub hardens : hardened_bytes rows ≡ lines
  pub only : (other : SourceOf lines) → chain_bytes other.rows ≡ rows

-- the row is one of a switch's own: 0a, 0b, 0c, or the 06 that closes it
abbrev pub is_own : GivenRow → List Thing → Bool
is_own (as_is r) ts = in_switch false (λ s. is_end_lem r.kind) ts
is_own (switch_row o) ts = true
is_own (case_row o) ts = true
is_own (default_row o) ts = true

-- nothing, or 6
pub data Six (v : Verdict) : Type 0 where
  none : v ≡ Accepted → Six v
  six : v ≡ Refused TooManyParts → Six v

-- Of the rows that a switch's own rows stand for 01 refuses none but for 6: their 3 and 4 are those of the rows as given.
abbrev pub OnlySix : Type 0
OnlySix =
    (g : GivenTable) (i : ℕ) → i < length g → given_rows_verdict g (chain_of g) i ≡ Accepted → strays (given_at g i) (things_at g i) ≡ false
    → is_own (given_at g i) (things_at g i) ≡ true
    → Six (span_verdict (chain_of g) (length (chain_to g i)) (length (chain_rows (given_at g i) (things_at g i))))
