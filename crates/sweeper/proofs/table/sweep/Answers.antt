use mathlib.Core.Path.{◌≡◌}
use Prim.Native.Nat.{ℕ}
use Rattle.rules.specs.Line.{lines_in}
use Rattle.rules.specs.Sweep.{sum_counts, sweep_step}
use Rattle.sweeper.specs.declared.steps.Counting.{Counting}
use Rattle.sweeper.specs.Walk.{form}
use Rattle.sweeper.proofs.Answers.{swept-is}
use Rattle.sweeper.proofs.table.sweep.Goals as goal

pub answer-requires-clause-held : goal.answer-requires-clause-held
unfolding sum_counts
answer-requires-clause-held c = let d = c.default.ensures in λ i. record { alarms = d.0 i; same = d.1.0 i; other = d.1.1.0 i; unfinished = d.1.1.1 i }

pub returns : goal.returns
returns c =
    let struck = λ (k : ℕ) (it : Counting). it.counts ≡ sum_counts k (sweep_step (form c.args.lines.now) (lines_in c.args.lines.now) c.args.variables c.args.budget) in
    let k = c.in_ok-x.ensures in
    swept-is c.args.lines.now c.args.variables c.args.budget c.args.trace.now c.args.words.now c.answer.new.trace c.answer.new.words struck c.in_ok-x.x k c.in_ok-x.x.counts k.3
