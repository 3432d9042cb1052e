-- Demand 2 of reading back for the tables of 01, as types. proofs/Reading.antt proves them; specs/Chained.antt has it for tables with
-- switches.
use Rattle.std.specs.Prelude.{ℕ, ◌↔◌, ◌≡◌, true, List}
use Rattle.rules.specs.Verdict.{Accepted}
use Rattle.rules.specs.Bytes.{AreBytes}
use Rattle.rules.specs.Check.{verdict_of}
use Rattle.rules.specs.Harden.{hardened_bytes}
use Rattle.rules.specs.ReadBack.{source_bytes, is_hardened_lem}

-- Reading the hardened bytes of an accepted table returns its bytes.
abbrev pub ReadsBack : Type 0
ReadsBack = (rows : List ℕ) → AreBytes rows → verdict_of rows ≡ Accepted → source_bytes (hardened_bytes rows) ≡ rows

-- a source table without switches that hardens to these bytes
pub record PlainSource (lines : List ℕ) : Type 0 where
  pub rows : List ℕ
  pub are_bytes : AreBytes rows
  pub accepted : verdict_of rows ≡ Accepted
  pub hardens : hardened_bytes rows ≡ lines

-- "Is a hardened table" holds of exactly the bytes that some source table hardens to.
abbrev pub Recognises : Type 0
Recognises = (lines : List ℕ) → AreBytes lines → (is_hardened_lem lines ≡ true) ↔ PlainSource lines

-- Two source tables with the same hardened table are the same.
abbrev pub OneSource : Type 0
OneSource =
    (rows others : List ℕ) → AreBytes rows → AreBytes others → verdict_of rows ≡ Accepted → verdict_of others ≡ Accepted
    → hardened_bytes rows ≡ hardened_bytes others → rows ≡ others
