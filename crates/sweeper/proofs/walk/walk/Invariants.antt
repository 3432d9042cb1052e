use Prim.Native.Nat.{◌-◌}
use mathlib.Core.Path.{◌≡◌}
use lib.ListN.{length}
use Rattle.sweeper.specs.Walk.{Walking}
use Rattle.sweeper.proofs.walk.walk.Given as goal

abbrev pub invariant-loop-step : goal.invariant-loop-step
invariant-loop-step g l = record {
  walking : Walking l.run.table.now.lines.now l.run.variables l.run.budget l.step (l.run.budget - l.step) l.m l.counters l.at;
  words : length l.counters ≡ length l.initial.counters;
  same : g.A.Asked.asks l.asked ≡ g.A.Asked.asks l.initial.asked;
  held : g.A.Asked.struck l.run.table.now.lines.now l.run.variables l.run.budget l.step l.asked;
}
