use Rattle.std.proofs.lemmas.Result.{err_from_is_err_and}
use Rattle.std.proofs.Common.{ap, not}
use Rattle.given.proofs.Rows.{top-few, row-refused, row_sound}
use Rattle.given.proofs.Cases.{case-named, case-wrong}
use native.Mathlib.Omega.{arith}
use Rattle.given.proofs.row.case_row.Goals as goal

pub returns-then-not-fits : goal.returns-then-not-fits
returns-then-not-fits c = case-wrong c.requires.here c.requires.at_value c.fits.ensures c.requires.reached (ap not c.if-not-fits.true)

pub case_cause-requires : goal.case_cause-requires
case_cause-requires c = (omega arith, top-few c.requires.reached c.innermost-top.ensures)

pub returns-in_err-case_cause : goal.returns-in_err-case_cause
returns-in_err-case_cause c = let p = err_from_is_err_and c.from_residual.result c.from_residual.ensures.1 in rw (p.1, p.2) (row-refused c.requires.reached c.requires.here (case-named c.requires.here c.requires.at_value c.fits.ensures (ap not c.if-not-fits.false)) c.innermost-top.ensures c.word-number.ensures c.case_cause.ensures c.in_err-case_cause.was)

pub take_case-requires-clause-sound : goal.take_case-requires-clause-sound
take_case-requires-clause-sound c = row_sound c.requires.reached c.requires.here (case-named c.requires.here c.requires.at_value c.fits.ensures (ap not c.if-not-fits.false)) c.innermost-top.ensures c.word-number.ensures c.case_cause.ensures c.in_ok-case_cause.was
