use Rattle.finuraho.proofs.Chains.{own-number, fault-number}
use Rattle.finuraho.proofs.check.Goals as goal

pub returns-in-Ok : goal.returns-in-Ok
returns-in-Ok c = own-number (record { each = λ i. (c.type_inv.rows i).fits }) c.check.ensures c.in-Ok.is

pub returns-in-Err : goal.returns-in-Err
returns-in-Err c = fault-number _ _ c.fault-f.ensures
