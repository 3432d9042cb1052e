use mathlib.Core.Path.{◌≡◌, refl}
use Prim.Native.Nat.{ℕ}
use Rattle.rules.specs.Line.{lines_in}
use Rattle.rules.specs.Sweep.{sum_counts, sweep_step, any_other}
use Rattle.sweeper.specs.declared.steps.Searching.{Searching}
use Rattle.sweeper.specs.Walk.{form}
use Rattle.sweeper.proofs.Answers.{asked_is}
use Rattle.sweeper.proofs.table.sweep_other.Goals as goal

pub answer-requires-clause-held : goal.answer-requires-clause-held
unfolding sum_counts
answer-requires-clause-held c = refl

pub returns : goal.returns
returns c =
    let struck = λ (k : ℕ) (it : Searching). it.found ≡ any_other (sum_counts k (sweep_step (form c.args.lines.now) (lines_in c.args.lines.now) c.args.variables c.args.budget)) in
    let k = c.in_ok-x.ensures in
    asked_is c.args.lines.now c.args.variables c.args.budget c.args.trace.now c.args.words.now c.answer.new.trace c.answer.new.words struck c.in_ok-x.x k c.in_ok-x.x.found k.3
