use native.Mathlib.Omega.{arith}
use Rattle.fault.proofs.Ends.{standing-none, things-nothing, pass-start, pass-stopped, pass_ended}
use mathlib.Core.Path.{refl}
use Rattle.fault.proofs.pass.rows.Goals as goal

pub loop-at-init : goal.loop-at-init
loop-at-init c = pass-start c.requires refl refl refl refl (standing-none c.default-s.ensures) (things-nothing c.default-t.ensures)

pub returns-in-Err : goal.returns-in-Err
returns-in-Err c = pass-stopped c.loop-at.invariant (omega arith) c.row.ensures c.in-Err.is

pub returns : goal.returns
returns c = pass_ended c.loop-at.invariant (omega arith) c.end.ensures (omega arith)
