use lib.ListN.{length}
use Rattle.layout.proofs.Numbers.{Summing}
use Rattle.layout.proofs.number.sum.Given as goal

abbrev pub invariant-loop-word : goal.invariant-loop-word
invariant-loop-word l = Summing l.initial.word-items (length l.initial.word-items) l.word-items l.total l.word-index
