use Rattle.chain.proofs.Links.{linked-refused, linked-chain}
use Rattle.rules.proofs.Calls.{run-source-refused, run-source-stands}
use mathlib.Core.Path.{ap, sym, ◌∙◌}
use Rattle.finuraho.specs.Given.{runs}
use Rattle.finuraho.proofs.switched.run_source.Goals as goal

pub returns-in-Err : goal.returns-in-Err
returns-in-Err c = ap (λ x. runs x c.args.trace.now) c.refused.ensures ∙ sym (run-source-refused _ _ _ _ _ (linked-refused c.link.ensures c.in-Err.is))

pub returns-in-Ok : goal.returns-in-Ok
returns-in-Ok c = c.source_run.ensures ∙ sym (run-source-stands _ _ _ _ _ (linked-chain c.link.ensures c.in-Ok.is).stands)
