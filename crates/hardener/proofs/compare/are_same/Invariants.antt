use mathlib.Core.Path.{◌≡◌}
use lib.ListN.{take}
use Rattle.rules.specs.Bytes.{same}
use Rattle.hardener.proofs.compare.are_same.Given as goal

abbrev pub invariant-loop-k : goal.invariant-loop-k
invariant-loop-k l = l.equal ≡ same (take l.k l.xs) (take l.k l.ys)
