use mathlib.Core.Path.{ap, sym, ◌∙◌}
use native.Mathlib.Omega.{arith}
use lib.ListN.{length}
use Rattle.rules.proofs.Calls.{write-short, write-fits}
use Rattle.finuraho.proofs.give.Goals as goal

pub returns-then-out-answer : goal.returns-then-out-answer
returns-then-out-answer c = ap (λ w. record { wrote = w; out = c.args.out.now }) c.refused.ensures ∙ sym (write-short c.args.answer.now c.args.out.now (omega arith))

pub returns : goal.returns
returns c = rw c.copy_from_slice.ensures.after (sym (write-fits c.args.answer.now c.args.out.now (omega arith)))
