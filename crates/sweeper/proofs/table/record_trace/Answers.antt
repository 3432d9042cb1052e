use native.Mathlib.Omega.{arith}
use Rattle.sweeper.proofs.Trial.{going-recorded, recorded}
use Rattle.sweeper.proofs.table.record_trace.Goals as goal

pub run_lines-x-requires : goal.run_lines-x-requires
run_lines-x-requires c = going-recorded _ _ c.args.table.now.ready _ c.args.words.now c.requires.1 _ c.begun-start.ensures _ c.fresh.ensures _ _ c.requires.0 (omega (arith, c.ranges))

pub returns : goal.returns
returns c = recorded _ _ c.args.table.now.ready _ c.args.words.now c.requires.1 _ c.begun-start.ensures _ c.fresh.ensures _ _ c.requires.0 (omega (arith, c.ranges)) _ _ _ c.run_lines-x.ensures
