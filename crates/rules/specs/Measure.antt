-- The call `measure` (02, No. 2): "From the rows alone, give the line count, the most regions that a function has and the highest counter
-- value that a line names, and write no table." Figures are those of the chain. proofs/Figures/Promise.antt proves the promise of it.
use Rattle.std.specs.Prelude.{ℕ, ◌*◌, ◌≤◌, ◌<◌, ◌≢◌, ◌≡◌, List, length}
use Rattle.rules.specs.declared.answer.Measured.{Measured}
use Rattle.rules.specs.declared.sums.Sums.{Sums}
use Rattle.rules.specs.Verdict.{Verdict, Accepted, Refused}
use Rattle.rules.specs.Row.{table_of}
use Rattle.rules.specs.Refusal.{number_of}
use Rattle.rules.specs.Switch.{chain_bytes}
use Rattle.rules.specs.Given.{given_verdict}
use Rattle.rules.specs.Line.{Line, line_width, lines_in}
use Rattle.rules.specs.Harden.{harden}
use Rattle.rules.specs.Calls.{harden_call}
use Rattle.rules.specs.TablePromise.{front}
use Rattle.rules.specs.Figures.{highest_value, most_regions, sums_of}

-- the figures of a hardened table
abbrev pub figures_of : List Line → Measured
figures_of ls = record { number = 0; regions = most_regions ls; lines = length ls; value = highest_value ls }

-- "1 to 7 and 11 are given as in hardening, the figures then 0"
unfoldable pub measuring : Verdict → List Line → Measured
measuring Accepted ls = figures_of ls
measuring (Refused r) ls = record { number = number_of (Refused r); regions = 0; lines = 0; value = 0 }

unfoldable pub measure_call : (rows : List ℕ) → Measured
measure_call rows = measuring (given_verdict rows) (harden (table_of (chain_bytes rows)))

-- the same, by sums over rows
abbrev pub summed : Sums → Measured
summed s = record { number = 0; regions = s.most; lines = s.lines; value = s.value }

-- the bytes of the hardened table
abbrev pub bytes_of : Measured → ℕ
bytes_of m = line_width * m.lines

-- What a caller is promised: the definition; that an output of exactly so many bytes is enough for hardening and one byte less too short;
-- that the figures are those of the table that hardening then writes, and what the sums over the chain's rows come to; and that hardening
-- refuses what is refused here.
pub record MeasurePromise (rows : List ℕ) (got : Measured) : Type 0 where
  pub answers : got ≡ measure_call rows
  pub enough : got.number ≡ 0 → (out : List ℕ) → bytes_of got ≤ length out
      → (harden_call rows out).wrote ≡ record { number = 0; length = bytes_of got }
  pub short : got.number ≡ 0 → (out : List ℕ) → length out < bytes_of got → (harden_call rows out).wrote ≡ record { number = 8; length = 0 }
  pub shown : got.number ≡ 0 → (out : List ℕ) → bytes_of got ≤ length out → got ≡ figures_of (lines_in (front (harden_call rows out)))
  pub by_sums : got.number ≡ 0 → got ≡ summed (sums_of (table_of (chain_bytes rows)))
  pub refused : got.number ≢ 0 → (out : List ℕ) → (harden_call rows out).wrote ≡ record { number = got.number; length = 0 }
