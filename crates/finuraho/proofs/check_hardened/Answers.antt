use mathlib.Core.Path.{sym, ◌∙◌}
use mathlib.Core.Bool.{true, false}
use native.Mathlib.Omega.{arith}
use Rattle.rules.proofs.Calls.{check-hardened}
use Rattle.rules.proofs.TablePromise.{check-hardened-promise}
use Rattle.finuraho.proofs.check_hardened.Goals as goal

pub returns-then-is_hardened : goal.returns-then-is_hardened
returns-then-is_hardened c = check-hardened-promise c.args.lines.now _ (record { each = λ i. omega (arith, c.type_inv.lines i) })
    (sym (check-hardened c.args.lines.now true (sym c.is_hardened.ensures ∙ c.if-is_hardened.true)))

pub returns : goal.returns
returns c = check-hardened-promise c.args.lines.now _ (record { each = λ i. omega (arith, c.type_inv.lines i) })
    (c.from.ensures ∙ sym (check-hardened c.args.lines.now false (sym c.is_hardened.ensures ∙ c.if-is_hardened.false)))
