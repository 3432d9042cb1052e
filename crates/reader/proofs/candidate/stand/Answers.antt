use Rattle.rows.specs.Row.{bare_row}
use Rattle.reader.specs.Row.{copied_row}
use mathlib.Core.Path.{ap, sym, ◌∙◌}
use Rattle.reader.proofs.LineRows.{do-row, tick-row, test-row, leave-row, out-row, call-row, back-row, ret-row}
use Rattle.reader.proofs.candidate.stand.Goals as goal

pub returns-in-Do : goal.returns-in-Do
returns-in-Do c = do-row c.requires.0 (sym c.kind_at.ensures ∙ c.in-Do.is) c.copied.ensures c.write.ensures

pub returns-in-Tick : goal.returns-in-Tick
returns-in-Tick c = tick-row c.requires.0 c.args.rows.now c.args.at (sym c.kind_at.ensures ∙ c.in-Tick.is)

pub returns-in-Test : goal.returns-in-Test
returns-in-Test c = test-row c.requires.0 (sym c.kind_at.ensures ∙ c.in-Test.is) (c.copied-in-Test.ensures ∙ ap (λ x. copied_row x c.args.lines.now c.args.line) c.test_kind.ensures) c.write-in-Test.ensures

pub returns-in-Leave : goal.returns-in-Leave
returns-in-Leave c = leave-row c.requires.0 (sym c.kind_at.ensures ∙ c.in-Leave.is) (c.bare.ensures ∙ ap bare_row c.leave_kind.ensures) c.write-in-Leave.ensures

pub returns-in-Out : goal.returns-in-Out
returns-in-Out c = out-row c.requires.0 (sym c.kind_at.ensures ∙ c.in-Out.is) (c.bare-in-Out.ensures ∙ ap bare_row c.out_kind.ensures) c.write-in-Out.ensures

pub returns-in-Call : goal.returns-in-Call
returns-in-Call c = call-row c.requires.0 (sym c.kind_at.ensures ∙ c.in-Call.is) c.callee.ensures c.call.ensures c.write-in-Call.ensures

pub returns-in-Back : goal.returns-in-Back
returns-in-Back c = back-row c.requires.0 c.args.rows.now c.args.at (sym c.kind_at.ensures ∙ c.in-Back.is)

pub returns-in-Ret : goal.returns-in-Ret
returns-in-Ret c = ret-row c.requires.0 (sym c.kind_at.ensures ∙ c.in-Ret.is) c.bare-in-Ret.ensures c.write-in-Ret.ensures
