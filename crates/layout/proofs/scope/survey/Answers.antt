use native.Mathlib.Omega.{arith}
use lib.ListN.{length-set}
use Rattle.layout.proofs.Survey.{surveys}
use borrow.Author.Rules.{rules}
use Rattle.layout.proofs.scope.survey.Goals as goal

pub loop-i-init : goal.loop-i-init
loop-i-init c = search (surveys, rules)

pub loop-i-preserved : goal.loop-i-preserved
loop-i-preserved c = search (surveys, rules)

pub returns : goal.returns
returns c = search (surveys, rules)

pub after-here-requires-clause-stands : goal.after-here-requires-clause-stands
after-here-requires-clause-stands c = (search (surveys, rules), omega arith)

pub after-here-requires-clause-mapped : goal.after-here-requires-clause-mapped
after-here-requires-clause-mapped c = (search (surveys, rules), omega (arith, length-set c.loop-i.map c.loop-i.i c.loop-i.here))
