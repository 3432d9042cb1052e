use Rattle.finuraho.proofs.Chains.{fault-found, fault-none}
use Rattle.finuraho.proofs.fault.Goals as goal

pub returns-in-Err : goal.returns-in-Err
returns-in-Err c = fault-found _ _ _ c.find.ensures _ _ c.in-Err.is c.from.ensures

pub returns-in-Ok : goal.returns-in-Ok
returns-in-Ok c = fault-none _ _ _ c.find.ensures _ c.in-Ok.is
