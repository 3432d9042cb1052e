use Rattle.std.proofs.lemmas.Result.{err_from_is_err_and}
use Rattle.std.proofs.Common.{ap, not}
use Rattle.given.proofs.Dos.{do-wrong, do-misplaced, do_refused, do_on}
use Rattle.given.proofs.row.do_row.Goals as goal

pub returns-then-not-fits : goal.returns-then-not-fits
returns-then-not-fits c = do-wrong c.requires.reached c.requires.here c.requires.at_value c.fits.ensures (ap not c.if-not-fits.true)

pub returns-then-innermost-eq1 : goal.returns-then-innermost-eq1
returns-then-innermost-eq1 c = do-misplaced c.requires.reached c.requires.here c.requires.at_value c.fits.ensures (ap not c.if-not-fits.false) c.innermost.ensures c.if-innermost-eq1.true

pub returns-in_err-parts_after : goal.returns-in_err-parts_after
returns-in_err-parts_after c = let p = err_from_is_err_and c.from_residual.result c.from_residual.ensures.1 in rw (p.1, p.2) (do_refused c.requires.reached c.requires.here c.requires.at_value c.fits.ensures (ap not c.if-not-fits.false) c.innermost.ensures c.if-innermost-eq1.false (record { each = λ j. (c.type_inv.rows j).fits }) c.plain.ensures c.in_err-parts_after.was)

pub returns : goal.returns
returns c = do_on c.requires.reached c.requires.here c.requires.at_value c.fits.ensures (ap not c.if-not-fits.false) c.innermost.ensures c.if-innermost-eq1.false (record { each = λ j. (c.type_inv.rows j).fits }) c.plain.ensures c.in_ok-parts_after.was c.read.ensures c.store.ensures c.one_more.ensures
