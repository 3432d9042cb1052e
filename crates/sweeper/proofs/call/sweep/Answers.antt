use mathlib.Core.Path.{sym, ap, ◌∙◌}
use native.Mathlib.Omega.{arith}
use Rattle.rules.proofs.SweepCall.{sweep-no-slots, sweep-no-words}
use Rattle.sweeper.specs.Call.{sweeps}
use Rattle.sweeper.proofs.Giving.{sweep-not, sweep-counted}
use Rattle.sweeper.proofs.call.sweep.Goals as goal

pub returns-then-slots-budget : goal.returns-then-slots-budget
returns-then-slots-budget c = ap (λ x. sweeps x c.args.trace.now c.args.counters.now) c.refused.ensures ∙ sym (sweep-no-slots c.args.lines.now c.args.variables c.args.budget c.args.trace.now c.args.counters.now c.requires (omega (arith, c.if-slots-budget.true)))

pub returns-then-words-lt-COUNTERS : goal.returns-then-words-lt-COUNTERS
returns-then-words-lt-COUNTERS c = ap (λ x. sweeps x c.args.trace.now c.args.counters.now) c.refused-then-words-lt-COUNTERS.ensures ∙ sym (sweep-no-words c.args.lines.now c.args.variables c.args.budget c.args.trace.now c.args.counters.now c.requires (omega (arith, c.if-slots-budget.false)) (omega (arith, c.if-words-lt-COUNTERS.true)))

pub returns-in-None : goal.returns-in-None
returns-in-None c = sweep-not c.args.lines.now c.args.variables c.args.budget c.args.trace.now c.args.counters.now c.requires (omega (arith, c.if-slots-budget.false)) (omega (arith, c.if-words-lt-COUNTERS.false)) _ _ _ c.sweep-x.ensures c.in-None.is _ c.refused-in-None.ensures

pub returns-in-Some : goal.returns-in-Some
returns-in-Some c = sweep-counted c.args.lines.now c.args.variables c.args.budget c.args.trace.now c.args.counters.now c.requires (omega (arith, c.if-slots-budget.false)) (omega (arith, c.if-words-lt-COUNTERS.false)) _ _ _ c.sweep-x.ensures _ c.in-Some.is _ c.counted.ensures
