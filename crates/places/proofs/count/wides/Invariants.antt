use Prim.Native.Nat.{◌+◌}
use Rattle.places.specs.Places.{wide_at}
use Rattle.places.proofs.Counting.{Counted}
use Rattle.places.proofs.count.wides.Given as goal

abbrev pub invariant-loop-line : goal.invariant-loop-line
invariant-loop-line l = Counted l.initial.c (λ p. wide_at l.lines l.variables l.left (l.from + p)) l.from l.line l.c
