use mathlib.Core.Path.{ap, sym, ◌∙◌}
use native.Mathlib.Omega.{arith}
use Rattle.rules.proofs.SweepCall.{sweep-not-hardened, sweep-promise}
use Rattle.sweeper.specs.Call.{sweeps}
use Rattle.finuraho.proofs.sweep.Goals as goal

pub returns-then-is_hardened : goal.returns-then-is_hardened
returns-then-is_hardened c = sweep-promise c.args.lines.now c.args.variables c.args.budget c.args.trace.now c.args.counters.now _ (record { each = λ i. omega (arith, c.type_inv.lines i) }) c.sweep.ensures

pub returns : goal.returns
returns c = sweep-promise c.args.lines.now c.args.variables c.args.budget c.args.trace.now c.args.counters.now _ (record { each = λ i. omega (arith, c.type_inv.lines i) }) (ap (λ x. sweeps x c.args.trace.now c.args.counters.now) c.refused.ensures ∙ sym (sweep-not-hardened c.args.lines.now c.args.variables c.args.budget c.args.trace.now c.args.counters.now (sym c.is_hardened.ensures ∙ c.if-is_hardened.false)))
