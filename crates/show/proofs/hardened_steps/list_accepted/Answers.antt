use Rattle.std.proofs.Common.{sym, subst, arith}
use Rattle.rules.specs.Line.{lines_in}
use Rattle.machine.specs.Run.{parts_in}
use Rattle.machine.specs.Stands.{Going}
use Rattle.machine.proofs.Start.{going_start}
use Rattle.show.proofs.hardened_steps.list_accepted.Goals as goal

pub walk-x-requires : goal.walk-x-requires
walk-x-requires g c =
    let lines = c.of-table.result.lines.now in
    subst (λ w. Going (lines_in lines) c.args.budget (parts_in c.begun-start.result w c.args.trace.now)) (sym c.fresh.ensures)
    (going_start lines c.args.variables c.no_counters-counters.result c.args.trace.now _ c.of-table.result.ready.sound c.begun-start.ensures
    c.no_counters-counters.ensures c.args.budget c.requires.budget_in_bounds (omega (arith, c.ranges)))
