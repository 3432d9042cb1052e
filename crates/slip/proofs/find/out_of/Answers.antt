use native.Mathlib.Omega.{arith}
use borrow.Author.Tests.{le-leb, lt-leb}
use Rattle.strike.proofs.Jumps.{first-before-last}
use Rattle.slip.specs.Amount.{amount_at}
use Rattle.slip.proofs.Amounts.{in_bytes, place_in, stands-in, last-in, few_lines}
use Rattle.slip.proofs.find.out_of.Goals as goal

pub returns-then-last-place : goal.returns-then-last-place
unfolding amount_at
returns-then-last-place c = rw (lt-leb _ _ (rw c.places_of-first.ensures.last at c.if-last-place.true))

pub between-requires : goal.between-requires
between-requires c = let rd = c.args.table.now.ready in
    let at = stands-in _ _ rd _ _ _ c.requires.stands in
    let few = few_lines _ _ rd in
    let last = last-in _ _ rd _ _ _ c.requires.stands in
    let order = first-before-last _ _ rd _ _ _ c.requires.stands in
    let place = rw c.places_of-first.ensures.last at c.if-last-place.false in
    (in_bytes _ _ at, rw c.places_of-first.ensures.first (place_in _ _ _ _ place order last), omega (arith, at, few), omega (arith, c.places_of-first.ensures.first, place, last, order, few))

pub returns : goal.returns
unfolding amount_at
returns c = rw (c.between.ensures, c.places_of-first.ensures.first, le-leb _ _ (rw c.places_of-first.ensures.last at c.if-last-place.false))
