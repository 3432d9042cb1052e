use Rattle.given.proofs.Spans.{EndsTo}
use Rattle.given.proofs.span.ends.Given as goal

abbrev pub invariant-loop-done : goal.invariant-loop-done
invariant-loop-done l = EndsTo l.count l.initial.here l.initial.parts l.chained l.initial.chain l.parts l.chain l.here l.done
