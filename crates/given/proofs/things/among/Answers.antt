use Rattle.std.proofs.Common.{arith}
use Rattle.given.proofs.Numbers.{among-start, among-found, among-on, among_none}
use Rattle.given.proofs.things.among.Goals as goal

pub loop-done-init : goal.loop-done-init
loop-done-init c = among-start _ _ _

pub returns-then-used-first : goal.returns-then-used-first
returns-then-used-first c = among-found _ _ _ _ (omega arith) c.if-used-first.true

pub loop-done-preserved : goal.loop-done-preserved
loop-done-preserved c = among-on _ _ _ _ c.loop-done.invariant c.if-used-first.false

pub returns : goal.returns
returns c = among_none _ _ _ _ c.loop-done.invariant (omega arith)
