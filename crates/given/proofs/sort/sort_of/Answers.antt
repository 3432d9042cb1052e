use Rattle.std.proofs.Common.{rules}
use Rattle.given.proofs.Sorts.{first-switch, first-case, first-default, first_plain}
use Rattle.given.proofs.sort.sort_of.Goals as goal

pub returns-in-10 : goal.returns-in-10
returns-in-10 c = first-switch _ _ _ c.in-10.is c.fits_switch.ensures c.own.ensures

pub returns-in-11 : goal.returns-in-11
returns-in-11 c = first-case _ _ _ c.in-11.is c.fits.ensures c.own-in-11.ensures

pub returns-in-12 : goal.returns-in-12
returns-in-12 c = first-default _ _ _ c.in-12.is c.fits-in-12.ensures c.own-in-12.ensures

pub returns-in_default : goal.returns-in_default
returns-in_default c = first_plain _ _ (search rules) (search rules) (search rules) c.plain.ensures
