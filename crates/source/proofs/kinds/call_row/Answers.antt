use mathlib.Core.Path.{ap, ◌∙◌}
use native.Mathlib.Omega.{arith}
use Rattle.state.specs.Machine.{moved}
use Rattle.source.proofs.Answers.{low, call-kind, callee-low, call_deep, call_opens}
use Rattle.source.proofs.kinds.call_row.Goals as goal

pub returns-then-h-ge-DEEPEST : goal.returns-then-h-ge-DEEPEST
returns-then-h-ge-DEEPEST c = call_deep _ _ _ _ c.if-h-ge-DEEPEST.true (c.stay.ensures ∙ ap (moved _) c.standing.ensures)

pub overflow_cast-o : goal.overflow_cast-o
overflow_cast-o c = omega (arith, callee-low _ _ c.from.ensures c.operands_of-o.ensures c.requires.standing (call-kind c.requires.standing c.requires.at_value.0))

pub opening-requires : goal.opening-requires
opening-requires c = (omega (arith, c.if-h-ge-DEEPEST.false), omega (arith, low c.requires.standing))

pub returns : goal.returns
returns c = call_opens _ _ _ _ c.from.ensures c.operands_of-o.ensures c.go_of.ensures c.if-h-ge-DEEPEST.false c.opening.ensures
