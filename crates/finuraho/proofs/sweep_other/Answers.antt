use mathlib.Core.Path.{ap, sym, ◌∙◌}
use native.Mathlib.Omega.{arith}
use Rattle.rules.proofs.SweepCall.{ask-not-hardened, sweep_other_promise}
use Rattle.sweeper.specs.Call.{asks}
use Rattle.finuraho.proofs.sweep_other.Goals as goal

pub returns-then-is_hardened : goal.returns-then-is_hardened
returns-then-is_hardened c = sweep_other_promise c.args.lines.now c.args.variables c.args.budget c.args.trace.now c.args.counters.now _ (record { each = λ i. omega (arith, c.type_inv.lines i) }) c.sweep_other.ensures

pub returns : goal.returns
returns c = sweep_other_promise c.args.lines.now c.args.variables c.args.budget c.args.trace.now c.args.counters.now _ (record { each = λ i. omega (arith, c.type_inv.lines i) }) (ap (λ x. asks x c.args.trace.now c.args.counters.now) c.refused_any.ensures ∙ sym (ask-not-hardened c.args.lines.now c.args.variables c.args.budget c.args.trace.now c.args.counters.now (sym c.is_hardened.ensures ∙ c.if-is_hardened.false)))
