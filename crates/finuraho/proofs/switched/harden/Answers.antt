use Rattle.chain.proofs.Links.{linked-refused, linked-chain}
use Rattle.rules.proofs.Calls.{harden-refused, harden-accepted}
use mathlib.Core.Path.{ap, sym, ◌∙◌}
use Rattle.finuraho.proofs.switched.harden.Goals as goal

pub returns-in-Err : goal.returns-in-Err
returns-in-Err c = ap (λ w. record { wrote = w; out = c.args.out.now }) c.refused.ensures ∙ sym (harden-refused _ _ _ (linked-refused c.link.ensures c.in-Err.is))

pub returns-in-Ok : goal.returns-in-Ok
returns-in-Ok c = c.harden_linked.ensures ∙ sym (harden-accepted _ _ _ (linked-chain c.link.ensures c.in-Ok.is).stands)
