-- Demand 3 as one theorem about whole runs of every hardened table. Assumes nothing.
use mathlib.Core.Path.{◌≡◌, sym, ap, ◌∙◌, subst}
use mathlib.Core.Bool.{true}
use mathlib.Core.List.{List}
use Prim.Native.Nat.{ℕ}
use Rattle.rules.specs.Row.{table_of}
use Rattle.rules.specs.Line.{lines_in}
use Rattle.rules.specs.Harden.{harden}
use Rattle.rules.specs.ReadBack.{source_bytes, is_hardened_lem}
use Rattle.rules.specs.Hardened.{counter_form}
use Rattle.rules.specs.Demands.{Demand, Theorem}
use Rattle.rules.proofs.Accepted.{Proper, proper}
use Rattle.rules.proofs.Reading.{lines_of, hardened-source}
use Rattle.rules.proofs.Form.Demand.{demand-of}
use Rattle.rules.proofs.Counter.Settles.{counter_settles}
use Rattle.rules.proofs.Counter.Strict.{counter_strict}

-- the lines of a hardened table are those of the table that it is read back to
pub hardened-lines : (lines : List ℕ) → is_hardened_lem lines ≡ true → harden (table_of (source_bytes lines)) ≡ lines_in lines
hardened-lines lines e = sym (lines_of (source_bytes lines)) ∙ ap lines_in (hardened-source lines e).1

pub source-proper : (lines : List ℕ) → is_hardened_lem lines ≡ true → Proper (table_of (source_bytes lines))
source-proper lines e = proper (source_bytes lines) (hardened-source lines e).0

pub demand_3 : Theorem
demand_3 lines vars budget k place e =
    let ok = source-proper lines e in
    let t = table_of (source_bytes lines) in
    subst (λ ls. Demand (counter_form ls) ls t vars budget k place) (hardened-lines lines e)
    (demand-of t ok (counter_settles t ok) (counter_strict t ok) vars budget k place)
