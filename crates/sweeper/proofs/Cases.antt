-- The worked sweeps hold of the definitions, by computation. Assumes nothing.
use mathlib.Core.Path.{refl}
use Rattle.rules.specs.Cases.{lines}
use Rattle.rules.specs.Sweep.{ending_of, sum_counts, sweep_step, sweep_of}
use Rattle.rules.specs.SweepCall.{sweep_verdict, slots_after, counted, asked, sweep_call, sweep_other_call}
use Rattle.rules.specs.SweepCases.{SweepCases}
use Rattle.rules.proofs.Compute.{compute}

pub cases : SweepCases
unfolding lines compute ending_of sum_counts sweep_step sweep_of sweep_verdict slots_after counted asked sweep_call sweep_other_call
cases = record { budget_20 = refl; budget_12 = refl; budget_11 = refl; short = refl; any_20 = refl }
