use Rattle.std.proofs.lemmas.Result.{err_from_is_err_and}
use mathlib.Core.Path.{refl}
use Rattle.given.proofs.Rows.{top-low}
use Rattle.given.proofs.Taken.{take_refused, take_on}
use native.Mathlib.Omega.{arith}
use Rattle.given.proofs.row.take_case.Goals as goal

pub plan_of-p-requires : goal.plan_of-p-requires
plan_of-p-requires c = (omega arith, omega arith, top-low c.requires.reached c.requires.sound.top_is)

pub returns-in_err-parts_after : goal.returns-in_err-parts_after
returns-in_err-parts_after c = let p = err_from_is_err_and c.from_residual.result c.from_residual.ensures.1 in rw (p.1, p.2) (take_refused c.requires.reached c.requires.here c.requires.sound c.plan_of-p.ensures (record { each = λ j. (c.type_inv.rows j).fits }) c.innermost-var.ensures c.own_row-row.ensures c.case_spans.ensures c.in_err-parts_after.was)

pub returns : goal.returns
returns c = take_on c.requires.reached c.requires.here c.requires.sound c.plan_of-p.ensures (record { each = λ j. (c.type_inv.rows j).fits }) c.innermost-var.ensures c.own_row-row.ensures c.case_spans.ensures c.in_ok-parts_after.was refl refl refl c.things_after.ensures
