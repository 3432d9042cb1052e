-- The customer's report holds of the definitions, by computation. Assumes nothing.
use mathlib.Core.Path.{refl}
use Rattle.rules.specs.Report.{rows, lines, Report}
use Rattle.rules.proofs.Compute.{compute}

pub report : Report
unfolding rows lines compute
report = record { hardens = refl; source = refl; unstruck = refl; caught = refl }
