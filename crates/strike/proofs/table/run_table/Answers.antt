use mathlib.Core.Path.{ap, ◌∙◌}
use mathlib.Core.List.{◌++◌}
use lib.ListN.{drop}
use lib.Seq.{length-take-le}
use Rattle.rules.specs.Calls.{zeros}
use Rattle.strike.specs.Struck.{accepted_run}
use Rattle.guard.proofs.Zeroed.{words-after}
use Rattle.strike.proofs.table.run_table.Goals as goal

pub run_mapped-requires : goal.run_mapped-requires
run_mapped-requires c = (c.requires.budget_in_bounds.0, length-take-le 1024 c.args.counters.now c.requires.budget_in_bounds.1)

pub returns : goal.returns
returns c = ap (λ y. record { run = y.run; words = y.words ++ drop 1024 c.args.counters.now }) c.run_mapped.ensures
    ∙ ap (λ bs. accepted_run bs c.args.variables c.args.budget c.args.strike c.args.trace.now (zeros 1024 ++ drop 1024 c.args.counters.now)) c.of-table.ensures
    ∙ ap (accepted_run c.args.lines.now c.args.variables c.args.budget c.args.strike c.args.trace.now) (words-after c.args.counters.now)
