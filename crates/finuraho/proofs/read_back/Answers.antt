use mathlib.Core.Path.{ap, sym, ◌∙◌, refl, subst}
use native.Mathlib.Omega.{arith}
use Rattle.rules.specs.Calls.{writing, short_output}
use Rattle.rules.proofs.Calls.{read-back-refused, read-back-accepted}
use Rattle.rules.proofs.TablePromise.{read-back-promise}
use Rattle.reader.specs.Found.{FoundIs}
use Rattle.reader.proofs.Finds.{none_told, some-told}
use Rattle.finuraho.proofs.read_back.Goals as goal

pub returns-in-None : goal.returns-in-None
returns-in-None c = let found = subst (FoundIs c.args.lines.now c.read.new.rows) c.in-None.is c.read.ensures in
    read-back-promise c.args.lines.now c.args.out.now _ (record { each = λ i. omega (arith, c.type_inv.lines i) })
    (ap (λ w. record { wrote = w; out = c.args.out.now }) c.refused.ensures ∙ sym (read-back-refused c.args.lines.now c.args.out.now (sym (none_told c.args.lines.now found.number_is))))

pub returns-in-Some : goal.returns-in-Some
returns-in-Some c = let found = subst (FoundIs c.args.lines.now c.read.new.rows) c.in-Some.is c.read.ensures in
    read-back-promise c.args.lines.now c.args.out.now _ (record { each = λ i. omega (arith, c.type_inv.lines i) })
    (c.give.ensures ∙ ap (λ x. writing (short_output x c.args.out.now) x c.args.out.now) (found.front refl).front_is
    ∙ sym (read-back-accepted c.args.lines.now c.args.out.now (sym (some-told c.args.lines.now found.number_is))))
