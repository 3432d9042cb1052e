use Rattle.std.proofs.Common.{arith}
use Rattle.show.proofs.Told.{told-own}
use Rattle.show.proofs.source_steps.tell_on.Goals as goal

pub returns-in-Ok : goal.returns-in-Ok
returns-in-Ok g c =
    told-own (record { each = λ i. omega (arith, c.type_inv.rows i) }) c.check.ensures c.in-Ok.is c.tell_accepted.ensures
