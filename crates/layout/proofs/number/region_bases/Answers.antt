use native.Mathlib.Omega.{arith}
use Rattle.layout.proofs.Numbers.{sums_fit_taken, bases_all_taken}
use Rattle.layout.proofs.number.region_bases.Goals as goal

pub sum-requires : goal.sum-requires
sum-requires c = sums_fit_taken c.stand-end.ensures c.requires.1 c.from-count.ensures

pub returns : goal.returns
returns c = bases_all_taken c.stand-end.ensures c.requires.1 c.from-count.ensures c.sum.ensures (omega arith)
