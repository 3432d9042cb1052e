use mathlib.Core.Path.{refl}
use native.Mathlib.Omega.{arith}
use Rattle.hardener.proofs.Compares.{same_none, same_next, same-all}
use Rattle.hardener.proofs.compare.are_same.Goals as goal

pub loop-k-init : goal.loop-k-init
loop-k-init c = same_none c.args.xs.now c.args.ys.now

pub loop-k-preserved : goal.loop-k-preserved
loop-k-preserved c = same_next c.args.xs.now c.args.ys.now c.loop-k.invariant (omega (arith, c.loop-k-test.true)) c.requires refl

pub returns : goal.returns
returns c = same-all c.args.xs.now c.args.ys.now c.loop-k.invariant (omega (arith, c.loop-k-test.false, c.loop-k.auto.k-end)) c.requires
