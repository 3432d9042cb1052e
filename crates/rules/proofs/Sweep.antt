-- The whole sweep of every hardened table. Assumes nothing.
use mathlib.Core.Path.{subst}
use Rattle.rules.specs.Row.{table_of}
use Rattle.rules.specs.ReadBack.{source_bytes}
use Rattle.rules.specs.Hardened.{counter_form}
use Rattle.rules.specs.Settled.{SweepLaw, Sweeps}
use Rattle.rules.proofs.Form.Sweep.{swept}
use Rattle.rules.proofs.Counter.Settles.{counter_settles}
use Rattle.rules.proofs.Counter.Strict.{counter_strict}
use Rattle.rules.proofs.Demand3.{hardened-lines, source-proper}

pub sweeps : Sweeps
sweeps lines vars budget e =
    let ok = source-proper lines e in
    let t = table_of (source_bytes lines) in
    subst (λ ls. SweepLaw (counter_form ls) ls vars budget) (hardened-lines lines e) (swept t ok (counter_settles t ok) (counter_strict t ok) vars budget)
