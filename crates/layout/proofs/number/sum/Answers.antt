use native.Mathlib.Omega.{arith}
use borrow.Author.Rules.{rules}
use Rattle.layout.proofs.Numbers.{sum_fits, summings}
use Rattle.layout.proofs.number.sum.Goals as goal

pub loop-word-init : goal.loop-word-init
loop-word-init c = search (summings, rules)

pub overflow_add-after : goal.overflow_add-after
overflow_add-after c = record { fits = omega (arith, sum_fits c.loop-word.invariant (omega arith) c.requires) }

pub overflow_add-after-in-loop-word : goal.overflow_add-after-in-loop-word
overflow_add-after-in-loop-word c = record { fits = omega (arith, sum_fits c.loop-word.invariant (omega arith) c.requires) }

pub loop-word-preserved : goal.loop-word-preserved
loop-word-preserved c = search (summings, rules)

pub returns : goal.returns
returns c = search (summings, rules)
