use Rattle.rules.proofs.Calls.{room-short}
use native.Mathlib.Omega.{arith}
use mathlib.Core.Path.{ap, sym, ◌∙◌}
use Rattle.finuraho.specs.Given.{runs}
use Rattle.finuraho.proofs.run.source_run.Goals as goal

pub returns-then-trace-budget : goal.returns-then-trace-budget
returns-then-trace-budget c = ap (λ x. runs x c.args.trace.now) c.refused.ensures ∙ sym (room-short _ _ _ _ (omega arith))
