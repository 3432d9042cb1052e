use mathlib.Core.Path.{◌≡◌, sym, ap, ◌∙◌}
use Prim.Native.Nat.{◌+◌, ◌-◌}
use native.Mathlib.Omega.{arith}
use Rattle.machine.specs.Run.{stopped_with}
use Rattle.machine.proofs.Runs.{run_none, run-stops, going_steps, runs_on}
use Rattle.machine.proofs.run.run_lines.Goals as goal

pub line-t-requires : goal.line-t-requires
line-t-requires c = going_steps _ _ c.args.table.now.ready _ _ c.loop.invariant.going (omega (arith, c.loop-test.true))

pub returns-in_default : goal.returns-in_default
returns-in_default c = ap (λ x. stopped_with x c.line-t.new.counters c.line-t.new.trace) (rw c.standing-e.ensures at c.at_end.ensures)
    ∙ run-stops _ _ _ _ (omega (arith, c.loop-test.true)) _ c.line-t.ensures c.in_default.not-Went ∙ sym c.loop.invariant.same

pub loop-preserved : goal.loop-preserved
loop-preserved c = rw (let left : c.args.budget - (c.loop.counter + 1) ≡ c.args.budget - c.loop.counter - 1 = omega arith in left)
    (runs_on _ _ c.args.table.now.ready _ _ _ _ c.loop.invariant (omega (arith, c.loop-test.true)) _ c.line-t.ensures _ c.in-Went.is c.line-t.auto.counters c.line-t.auto.trace _ c.standing-h.ensures)

pub returns : goal.returns
returns c = ap (λ x. stopped_with x c.loop.counters c.loop.trace) c.at_end-2.ensures ∙ run_none _ _ _ _ (omega (arith, c.loop-test.false)) ∙ sym c.loop.invariant.same
