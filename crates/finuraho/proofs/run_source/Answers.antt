use Rattle.finuraho.proofs.Chains.{own-chain}
use Rattle.rules.proofs.Calls.{run-source-stands}
use mathlib.Core.Path.{sym, ◌∙◌}
use Rattle.finuraho.proofs.run_source.Goals as goal

pub returns-in-Ok : goal.returns-in-Ok
returns-in-Ok c = c.source_run.ensures ∙ sym (run-source-stands _ _ _ _ _ (own-chain (record { each = λ i. (c.type_inv.rows i).fits }) c.check.ensures c.in-Ok.is))
