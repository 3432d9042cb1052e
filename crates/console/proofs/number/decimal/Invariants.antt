-- The digits up to here are read.
use Rattle.console.proofs.Digits.{Read}
use Rattle.console.proofs.number.decimal.Given as goal

abbrev pub invariant-loop-b : goal.invariant-loop-b
invariant-loop-b l = Read l.text l.value l.b-index
