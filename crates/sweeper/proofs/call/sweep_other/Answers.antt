use mathlib.Core.Path.{sym, ap, ◌∙◌}
use native.Mathlib.Omega.{arith}
use Rattle.rules.proofs.SweepCall.{ask-no-slots, ask-no-words}
use Rattle.sweeper.specs.Call.{asks}
use Rattle.sweeper.proofs.Giving.{ask-not, ask-told}
use Rattle.sweeper.proofs.call.sweep_other.Goals as goal

pub returns-then-slots-budget : goal.returns-then-slots-budget
returns-then-slots-budget c = ap (λ x. asks x c.args.trace.now c.args.counters.now) c.refused_any.ensures ∙ sym (ask-no-slots c.args.lines.now c.args.variables c.args.budget c.args.trace.now c.args.counters.now c.requires (omega (arith, c.if-slots-budget.true)))

pub returns-then-words-lt-COUNTERS : goal.returns-then-words-lt-COUNTERS
returns-then-words-lt-COUNTERS c = ap (λ x. asks x c.args.trace.now c.args.counters.now) c.refused_any-then-words-lt-COUNTERS.ensures ∙ sym (ask-no-words c.args.lines.now c.args.variables c.args.budget c.args.trace.now c.args.counters.now c.requires (omega (arith, c.if-slots-budget.false)) (omega (arith, c.if-words-lt-COUNTERS.true)))

pub returns-in-None : goal.returns-in-None
returns-in-None c = ask-not c.args.lines.now c.args.variables c.args.budget c.args.trace.now c.args.counters.now c.requires (omega (arith, c.if-slots-budget.false)) (omega (arith, c.if-words-lt-COUNTERS.false)) _ _ _ c.sweep_other-x.ensures c.in-None.is _ c.refused_any-in-None.ensures

pub returns-in-Some : goal.returns-in-Some
returns-in-Some c = ask-told c.args.lines.now c.args.variables c.args.budget c.args.trace.now c.args.counters.now c.requires (omega (arith, c.if-slots-budget.false)) (omega (arith, c.if-words-lt-COUNTERS.false)) _ _ _ c.sweep_other-x.ensures _ c.in-Some.is
