-- The first i bytes of the word are the name's.
use Rattle.console.proofs.Words.{Alike}
use Rattle.console.proofs.word.skip.Given as goal

abbrev pub invariant-loop-i : goal.invariant-loop-i
invariant-loop-i l = Alike l.word l.name l.i
