-- The bytes up to here are read.
use Rattle.text.proofs.Feeding.{Upto}
use Rattle.text.proofs.read.feed.Given as goal

abbrev pub invariant-loop-b : goal.invariant-loop-b
invariant-loop-b l = Upto l.text l.digits l.initial.rows l.initial.q l.rows l.q l.b-index
