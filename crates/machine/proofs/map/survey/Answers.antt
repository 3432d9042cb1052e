use Prim.Native.Nat.{◌<◌}
use native.Mathlib.Omega.{arith}
use lib.ListN.{length}
use Rattle.rules.specs.Line.{lines_in}
use Rattle.line.proofs.Decode.{length-lines, line-bytes}
use Rattle.machine.proofs.Survey.{surveyed-start, surveyed-next, function-few, located}
use Rattle.machine.proofs.map.survey.Goals as goal

pub overflow_cast-count : goal.overflow_cast-count
overflow_cast-count c = omega (arith, length-lines c.args.lines.now, c.requires.0.within.few_lines)

pub loop-line-init : goal.loop-line-init
loop-line-init c = surveyed-start (lines_in c.args.lines.now) c.requires.0 c.args.starts.now c.args.owners.now c.requires.1 c.requires.2

pub pass-function-requires : goal.pass-function-requires
pass-function-requires c = let h : c.loop-line.line < length (lines_in c.args.lines.now) = omega (arith, length-lines c.args.lines.now, c.loop-line-test.true) in
    (line-bytes c.args.lines.now _ h, omega (arith, h, c.requires.0.within.few_lines), function-few (lines_in c.args.lines.now) c.requires.0 _ _ _ _ h c.loop-line.invariant)

pub loop-line-preserved : goal.loop-line-preserved
loop-line-preserved c = surveyed-next c.args.lines.now c.requires.0 _ _ _ _ (omega (arith, length-lines c.args.lines.now, c.loop-line-test.true)) c.loop-line.invariant _ _ c.pass-function.ensures

pub returns : goal.returns
returns c = located (lines_in c.args.lines.now) _ _ _ _ c.loop-line.invariant (omega (arith, length-lines c.args.lines.now, c.loop-line-test.false))
