use Rattle.given.proofs.Sorts.{sort-plain}
use Rattle.given.proofs.sort.plain.Goals as goal

pub returns : goal.returns
returns c = sort-plain _ _ _ _ c.kind-named.ensures c.fits.ensures c.own.ensures
