use mathlib.Core.Path.{◌∙◌}
use Rattle.machine.specs.Run.{parts_in}
use Rattle.strike.proofs.Jumps.{going-there, lands-beyond, lands-on}
use Rattle.strike.proofs.struck.land.Goals as goal

pub returns-then-last-place : goal.returns-then-last-place
returns-then-last-place c = rw c.places_of-first.ensures.last (lands-beyond _ _ _ _ _ (rw c.places_of-first.ensures.last at c.if-last-place.true))

pub run_lines-requires : goal.run_lines-requires
run_lines-requires c =
    rw (c.at_line-struck.ensures, c.places_of-first.ensures.first)
    (going-there _ _ c.args.table.now.ready _ _ c.requires _ (rw c.places_of-first.ensures.last at c.if-last-place.false))

pub returns : goal.returns
returns c = c.run_lines.ensures
    ∙ rw (c.at_line-struck.ensures, c.places_of-first.ensures.first)
    (lands-on _ _ _ _ (parts_in c.args.machine c.args.counters.now c.args.trace.now) (rw c.places_of-first.ensures.last at c.if-last-place.false))
