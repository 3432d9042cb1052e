use borrow.Author.Rules.{rules}
use native.Mathlib.Omega.{arith}
use Rattle.reader.proofs.Numbering.{few_functions, numberings}
use Rattle.reader.proofs.functions.number_lines.Goals as goal

pub loop-line-init : goal.loop-line-init
loop-line-init c = search (numberings, rules)

pub pass-function-requires : goal.pass-function-requires
pass-function-requires c = (omega arith, omega (arith, few_functions c.loop-line.invariant))

pub loop-line-preserved : goal.loop-line-preserved
loop-line-preserved c = search (numberings, rules)

pub returns : goal.returns
returns c = search (numberings, rules)
