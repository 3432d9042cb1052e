-- What a caller is promised of the calls that give or judge tables, about the numbers and bytes that come back: the definition of the
-- call, and demand 2 of reading back for exactly its bytes. proofs/TablePromise.antt proves it of the definitions.
use Rattle.std.specs.Prelude.{ℕ, ◌≤◌, ◌≡◌, List, length, take}
use Rattle.rules.specs.Verdict.{Accepted}
use Rattle.rules.specs.Switch.{chain_bytes}
use Rattle.rules.specs.Chained.{TenExactly, OnlySource}
use Rattle.rules.specs.Calls.{Writing, writing, harden_call, check_hardened_call, read_back_call}

-- the table that a call wrote: as many bytes as it says, from the front of the output
abbrev pub front : Writing → List ℕ
front got = take got.wrote.length got.out

-- harden: "Reading it returns the source table", into every output that holds it; with switches, "Reading back gives the ifs" (02, No. 1)
pub record HardenPromise (rows out : List ℕ) (got : Writing) : Type 0 where
  pub answers : got ≡ harden_call rows out
  pub read_again : got.wrote.number ≡ 0 → (held : List ℕ) → length (chain_bytes rows) ≤ length held
      → read_back_call (front got) held ≡ writing Accepted (chain_bytes rows) held

-- check_hardened
pub record CheckHardenedPromise (lines : List ℕ) (number : ℕ) : Type 0 where
  pub answers : number ≡ check_hardened_call lines
  pub ten : TenExactly lines number

-- read_back
pub record ReadBackPromise (lines out : List ℕ) (got : Writing) : Type 0 where
  pub answers : got ≡ read_back_call lines out
  pub ten : TenExactly lines got.wrote.number
  pub source : got.wrote.number ≡ 0 → OnlySource lines (front got)
