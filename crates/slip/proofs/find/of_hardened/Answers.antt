use mathlib.Core.Path.{refl, ap, ◌∙◌}
use native.Mathlib.Omega.{arith}
use lib.ListN.{replicate}
use Rattle.machine.proofs.Start.{going_start}
use Rattle.slip.specs.Amount.{amount_of}
use Rattle.slip.proofs.Agree.{found}
use Rattle.slip.proofs.find.of_hardened.Goals as goal

pub at_jump-requires : goal.at_jump-requires
at_jump-requires c = rw c.fresh.ensures (going_start _ c.args.variables (replicate 1024 0) _ _ c.of-table.result.ready.sound c.begun.ensures refl c.args.budget c.requires.1 (omega (arith, c.ranges)))

pub returns : goal.returns
returns c = found _ _ c.of-table.result.ready c.args.variables (replicate 1024 0) _ _ c.begun.ensures refl c.args.budget c.args.step c.args.place c.requires.1 (omega (arith, c.ranges)) c.fresh.ensures c.at_jump.ensures
    ∙ ap (λ bs. amount_of bs c.args.variables c.args.budget c.args.step c.args.place) c.of-table.ensures
