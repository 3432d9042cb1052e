use Rattle.std.proofs.lemmas.Result.{err_from_is_err_and}
use Rattle.given.proofs.Rows.{top-few, row-refused}
use native.Mathlib.Omega.{arith}
use Rattle.given.proofs.row.other_row.Goals as goal

pub cause-requires : goal.cause-requires
cause-requires c = (omega arith, top-few c.requires.reached c.innermost-top.ensures)

pub returns-in_err-cause : goal.returns-in_err-cause
returns-in_err-cause c = let p = err_from_is_err_and c.from_residual.result c.from_residual.ensures.1 in rw (p.1, p.2) (row-refused c.requires.reached c.requires.here c.sort_of-sort.ensures c.innermost-top.ensures c.word-number.ensures c.cause.ensures c.in_err-cause.was)
