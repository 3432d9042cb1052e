use native.Mathlib.Omega.{arith}
use Rattle.table.proofs.Whole.{calls-start, calls-done, calls-beyond, calls-on}
use Rattle.table.proofs.check.calls.Goals as goal

pub loop-at-init : goal.loop-at-init
loop-at-init c = calls-start

pub returns-then-calls_beyond : goal.returns-then-calls_beyond
returns-then-calls_beyond c = calls-beyond c.loop-at.invariant (omega arith) c.requires c.calls_beyond.ensures c.if-calls_beyond.true

pub loop-at-preserved : goal.loop-at-preserved
loop-at-preserved c = calls-on c.loop-at.invariant (omega arith) c.requires c.calls_beyond.ensures c.if-calls_beyond.false

pub returns : goal.returns
returns c = calls-done c.loop-at.invariant (omega arith)
