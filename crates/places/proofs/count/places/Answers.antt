use native.Mathlib.Omega.{arith}
use Rattle.places.proofs.Ranges.{span_of, range-total, unguarded-total, all-places}
use Rattle.places.proofs.count.places.Goals as goal

pub unguarded-there-requires : goal.unguarded-there-requires
unguarded-there-requires c = let s = span_of c.requires.0 c.min-low.ensures c.max-high.ensures in
    omega (arith, range-total _ _ _ c.wides-before.ensures, s.from, s.low_at, c.requires.0.at_before, c.requires.4)

pub wides-behind-requires : goal.wides-behind-requires
wides-behind-requires c = let s = span_of c.requires.0 c.min-low.ensures c.max-high.ensures in
    (omega (arith, s.before), c.requires.2, c.requires.3, omega (arith, range-total _ _ _ c.wides-before.ensures, unguarded-total c.args.at c.args.across c.args.narrow c.wides-before.result c.min-low.ensures c.max-high.ensures c.unguarded-there.ensures, s.from, s.low_at, s.high_at, s.before, c.requires.4))

pub add-requires : goal.add-requires
add-requires c = let s = span_of c.requires.0 c.min-low.ensures c.max-high.ensures in
    omega (arith, range-total _ _ _ c.wides-before.ensures, unguarded-total c.args.at c.args.across c.args.narrow c.wides-before.result c.min-low.ensures c.max-high.ensures c.unguarded-there.ensures, range-total _ _ _ c.wides-behind.ensures, s.from, s.low_at, s.high_at, s.before, c.requires.4)

pub returns : goal.returns
returns c = all-places c.args.lines.now c.args.variables.now c.args.first c.args.last c.args.at c.args.across c.args.depth c.args.left c.args.narrow c.requires.0 c.args.begun c.wides-before.result c.unguarded-there.result c.wides-behind.result c.min-low.ensures c.max-high.ensures c.wides-before.ensures c.unguarded-there.ensures c.wides-behind.ensures c.at_last.ensures c.add.ensures
