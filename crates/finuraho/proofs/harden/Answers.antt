use Rattle.finuraho.proofs.Chains.{own-chain}
use Rattle.rules.proofs.Calls.{harden-accepted}
use mathlib.Core.Path.{sym, ◌∙◌}
use Rattle.rules.proofs.TablePromise.{harden-promise}
use Rattle.finuraho.proofs.harden.Goals as goal

pub returns-in-Err : goal.returns-in-Err
returns-in-Err c = harden-promise _ _ _ (record { each = λ i. (c.type_inv.rows i).fits }) c.harden.ensures

pub returns-in-Ok : goal.returns-in-Ok
returns-in-Ok c = harden-promise _ _ _ (record { each = λ i. (c.type_inv.rows i).fits }) (c.harden_linked.ensures ∙ sym (harden-accepted _ _ _ (own-chain (record { each = λ i. (c.type_inv.rows i).fits }) c.check.ensures c.in-Ok.is)))
