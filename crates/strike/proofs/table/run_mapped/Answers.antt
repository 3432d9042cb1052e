use mathlib.Core.Path.{sym, ap, ◌∙◌, subst}
use native.Mathlib.Omega.{arith}
use Rattle.rules.specs.Line.{lines_in}
use Rattle.rules.specs.Calls.{zeros}
use Rattle.machine.specs.Runnable.{map_in}
use Rattle.machine.specs.Run.{parts_in}
use Rattle.machine.specs.Stands.{Going}
use Rattle.strike.specs.Struck.{struck_of}
use Rattle.machine.proofs.Start.{going_start}
use Rattle.strike.proofs.Whole.{answer_is}
use Rattle.strike.proofs.table.run_mapped.Goals as goal

pub strike-x-requires : goal.strike-x-requires
strike-x-requires c = subst (λ w. Going (lines_in c.args.table.now.lines.now) c.args.budget (parts_in c.begun-start.result w c.args.trace.now)) (sym c.fresh.ensures)
    (going_start c.args.table.now.lines.now c.args.variables c.args.words.now c.args.trace.now _ c.args.table.now.ready.sound c.begun-start.ensures c.requires.1 c.args.budget c.requires.0 (omega (arith, c.ranges)))

pub returns : goal.returns
returns c = let m = map_in c.args.table.now in
    answer_is c.args.table.now.lines.now m c.args.table.now.ready c.args.variables c.args.words.now c.args.trace.now c.args.budget c.args.strike c.begun-start.result c.begun-start.ensures c.requires.1 c.requires.0
    (omega (arith, c.ranges)) _ _ _
    (c.strike-x.ensures ∙ ap (λ w. struck_of c.args.table.now.lines.now m c.args.budget c.args.strike (parts_in c.begun-start.result w c.args.trace.now)) c.fresh.ensures)
    _ c.answer.ensures _ (c.clear.ensures ∙ ap zeros (c.strike-x.auto.counters ∙ c.fresh.auto.words ∙ c.requires.1))
