use Rattle.std.proofs.Common.{Some, ap, ◌∙◌, arith, length, take_all, length-drop}
use Rattle.console.proofs.Words.{skip-short, alike-none, alike-not, alike-more, alike_all}
use Rattle.console.proofs.word.skip.Goals as goal

pub returns-then-word-name : goal.returns-then-word-name
returns-then-word-name c = skip-short _ _ c.if-word-name.true

pub loop-i-init : goal.loop-i-init
loop-i-init c = alike-none _ _ c.if-word-name.false

pub returns-then-word-i : goal.returns-then-word-i
returns-then-word-i c = alike-not c.loop-i.invariant c.loop-i-test.true c.if-word-i.true

pub loop-i-preserved : goal.loop-i-preserved
loop-i-preserved c = alike-more c.loop-i.invariant c.loop-i-test.true c.if-word-i.false

pub returns : goal.returns
returns c = ap Some (take_all _ _ (omega (arith, length-drop (length c.args.name.now) c.args.word.now))) ∙ alike_all c.loop-i.invariant c.loop-i-test.false
