-- The bytes up to here are looked at.
use Rattle.console.proofs.Looking.{Looked}
use Rattle.console.proofs.malformed.look.Given as goal

abbrev pub invariant-loop-b : goal.invariant-loop-b
invariant-loop-b l = Looked l.text l.digits l.initial.s l.s l.b-index
