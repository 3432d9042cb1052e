use Rattle.std.proofs.Common.{◌≡◌, length}
use Rattle.picture.proofs.function.columns.Given as goal

abbrev pub invariant-loop-place : goal.invariant-loop-place
invariant-loop-place g l = length l.counters ≡ length l.initial.counters
