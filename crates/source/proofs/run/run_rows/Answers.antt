use mathlib.Core.Path.{◌≡◌}
use Prim.Native.Nat.{◌+◌, ◌-◌}
use native.Mathlib.Omega.{arith}
use Rattle.source.proofs.Runs.{run_on, run_ends_with, run_spent}
use Rattle.source.proofs.run.run_rows.Goals as goal

pub returns-in_default : goal.returns-in_default
returns-in_default c = run_ends_with c.args.table.known c.loop.invariant (omega (arith, c.loop-test.true)) _ c.row-t.ensures c.in_default.not-Went _ c.standing-h.ensures _ c.at_end.ensures

pub loop-preserved : goal.loop-preserved
loop-preserved c = rw (let left : c.args.budget - (c.loop.counter + 1) ≡ c.args.budget - c.loop.counter - 1 = omega arith in left)
    (run_on c.args.table.known c.loop.invariant (omega (arith, c.loop-test.true)) _ c.row-t.ensures _ c.in-Went.is _ c.standing-h.ensures)

pub returns : goal.returns
returns c = run_spent c.args.table.known c.loop.invariant (omega (arith, c.loop-test.false)) _ c.at_end-2.ensures
