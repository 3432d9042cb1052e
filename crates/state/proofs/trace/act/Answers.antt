use Rattle.state.proofs.Dos.{did-own, did-overflows}
use Rattle.state.proofs.trace.act.Goals as goal

pub put-requires : goal.put-requires
put-requires c = (c.requires.0.p_in, c.requires.1, c.requires.2)

pub returns-in-Some : goal.returns-in-Some
returns-in-Some c = did-own _ _ _ _ _ c.compute-c.ensures c.in-Some.is c.put.ensures

pub returns-in-None : goal.returns-in-None
returns-in-None c = did-overflows _ _ _ _ _ c.compute-c.ensures c.in-None.is c.over.ensures
