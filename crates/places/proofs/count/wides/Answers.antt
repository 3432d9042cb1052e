use mathlib.Core.Path.{◌≡◌, ap, ◌∙◌}
use Prim.Native.Nat.{◌+◌, ◌-◌}
use native.Mathlib.Omega.{arith}
use Rattle.places.specs.Places.{wide_at}
use Rattle.places.proofs.Counting.{counted_start, counted_next}
use Rattle.places.proofs.count.wides.Goals as goal

pub loop-line-init : goal.loop-line-init
loop-line-init c = counted_start _ _ _

pub loop-line-preserved : goal.loop-line-preserved
loop-line-preserved c = counted_next _ _ _ _ _ c.loop-line.invariant _ (c.before_line.ensures ∙ ap (wide_at c.args.lines.now c.args.variables.now c.args.left) (let y : c.loop-line.line ≡ c.args.from + (c.loop-line.line - c.args.from) = omega (arith, c.loop-line.invariant.from) in y)) _ c.add-c.ensures
