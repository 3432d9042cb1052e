use Rattle.std.proofs.Common.{◌∙◌, arith}
use Rattle.source.proofs.Runs.{starts}
use Rattle.show.proofs.Calls.{calls-first}
use Rattle.show.proofs.source_steps.tell_accepted.Goals as goal

pub walk-w-requires : goal.walk-w-requires
walk-w-requires g c =
    starts c.requires.rows_value c.requires.budget_in_bounds (omega (arith, c.ranges)) c.begun.ensures

pub returns : goal.returns
returns g c = c.walk-w.ensures.calls_are ∙ calls-first _ _ _ _ _ c.begun.ensures
