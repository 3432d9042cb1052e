use mathlib.Core.Path.{ap, sym, ◌∙◌}
use native.Mathlib.Omega.{arith}
use Rattle.finuraho.specs.Given.{hardened_runs}
use Rattle.rules.proofs.Calls.{run-hardened-refused}
use Rattle.rules.proofs.Promise.{promise}
use Rattle.finuraho.proofs.run_hardened.Goals as goal

pub returns-then-is_hardened : goal.returns-then-is_hardened
returns-then-is_hardened c = promise c.args.lines.now c.args.variables c.args.budget c.args.step c.args.place c.args.trace.now c.args.counters.now _
    (record { each = λ i. omega (arith, c.type_inv.lines i) })
    c.hardened_run.ensures

pub returns : goal.returns
returns c = promise c.args.lines.now c.args.variables c.args.budget c.args.step c.args.place c.args.trace.now c.args.counters.now _
    (record { each = λ i. omega (arith, c.type_inv.lines i) })
    (ap (λ x. hardened_runs x c.args.trace.now c.args.counters.now) c.refused.ensures
    ∙ sym (run-hardened-refused c.args.lines.now c.args.variables c.args.budget c.args.step c.args.place c.args.trace.now c.args.counters.now (sym c.is_hardened.ensures ∙ c.if-is_hardened.false)))
