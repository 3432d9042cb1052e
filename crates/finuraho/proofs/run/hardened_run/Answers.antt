use mathlib.Core.Path.{ap, sym, ◌∙◌}
use native.Mathlib.Omega.{arith}
use Rattle.rules.specs.Verdict.{Accepted}
use Rattle.rules.specs.Calls.{counters_after}
use Rattle.strike.specs.Struck.{accepted_run}
use Rattle.finuraho.specs.Given.{hardened_runs}
use Rattle.rules.proofs.Calls.{run-hardened-no-slots, run-hardened-no-words, run-hardened-accepted}
use Rattle.finuraho.proofs.run.hardened_run.Goals as goal

pub returns-then-slots-budget : goal.returns-then-slots-budget
returns-then-slots-budget c = ap (λ x. hardened_runs x c.args.trace.now c.args.counters.now) c.refused.ensures ∙ sym (run-hardened-no-slots c.args.lines.now c.args.variables c.args.budget c.args.step c.args.place c.args.trace.now c.args.counters.now c.requires (omega arith))

pub returns-then-words-lt-COUNTERS : goal.returns-then-words-lt-COUNTERS
returns-then-words-lt-COUNTERS c = ap (λ x. hardened_runs x c.args.trace.now c.args.counters.now) c.refused-then-words-lt-COUNTERS.ensures ∙ sym (run-hardened-no-words c.args.lines.now c.args.variables c.args.budget c.args.step c.args.place c.args.trace.now c.args.counters.now c.requires (omega arith) (omega arith))

pub returns : goal.returns
returns c = c.run_table.ensures ∙ ap (λ j. accepted_run c.args.lines.now c.args.variables c.args.budget j c.args.trace.now (counters_after Accepted c.args.counters.now)) c.strike_by-by.ensures ∙ sym (run-hardened-accepted c.args.lines.now c.args.variables c.args.budget c.args.step c.args.place c.args.trace.now c.args.counters.now c.requires (omega arith) (omega arith))
