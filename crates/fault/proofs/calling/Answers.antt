use Rattle.std.proofs.Common.{◌≡◌, ◌∙◌, ◌/◌, length}
use native.Mathlib.Omega.{arith}
use Rattle.fault.proofs.Ends.{calls-here, calls-on, calls-done}
use Rattle.fault.proofs.calling.Goals as goal

pub returns-then-calls_beyond : goal.returns-then-calls_beyond
returns-then-calls_beyond c = calls-here c.loop-at.invariant (omega arith) c.calls_beyond.ensures c.if-calls_beyond.true

pub loop-at-preserved : goal.loop-at-preserved
loop-at-preserved c = calls-on c.loop-at.invariant (omega arith) c.calls_beyond.ensures c.if-calls_beyond.false

pub returns : goal.returns
returns c = let e : length c.args.rows.now / 6 ≡ c.loop-at.at = omega arith in e ∙ calls-done c.loop-at.invariant (omega arith)
