use mathlib.Core.Path.{refl, sym}
use native.Mathlib.Omega.{arith}
use lib.Seq.{length-take-le}
use Rattle.compare.proofs.Comparing.{going-piece, compare-starts, recorded-in, compares_on, compares_over, compare-spent}
use Rattle.compare.proofs.pieces.ending.Goals as goal

pub loop-left-init : goal.loop-left-init
loop-left-init c = λ s st. compare-starts _ _ _ s _ _ st

pub run_lines-x-requires : goal.run_lines-x-requires
run_lines-x-requires c = going-piece _ _ _ _ (c.loop-left.invariant c.requires.state c.requires.stood).stood _ (omega (arith, c.min-n.ensures)) _ c.loop-left.spare.rows_are

pub shared_ref_as_front-goes_on : goal.shared_ref_as_front-goes_on
shared_ref_as_front-goes_on c = omega (arith, recorded-in _ _ c.args.table.now.ready _ _ _ _ _ _ _ _ (c.loop-left.invariant c.requires.state c.requires.stood) _ c.loop-left.spare.rows_are _ _ _ _ c.min-n.ensures c.run_lines-x.ensures c.run_lines-x.auto.trace, c.run_lines-x.auto.trace, c.loop-left.spare.rows_are)

pub slice_bounds-goes_on-end : goal.slice_bounds-goes_on-end
slice_bounds-goes_on-end c = sym (length-take-le _ c.run_lines-x.new.trace (recorded-in _ _ c.args.table.now.ready _ _ _ _ _ _ _ _ (c.loop-left.invariant c.requires.state c.requires.stood) _ c.loop-left.spare.rows_are _ _ _ _ c.min-n.ensures c.run_lines-x.ensures c.run_lines-x.auto.trace))

pub overflow_add-at : goal.overflow_add-at
overflow_add-at c = omega (arith, (c.loop-left.invariant c.requires.state c.requires.stood).few, c.ranges, recorded-in _ _ c.args.table.now.ready _ _ _ _ _ _ _ _ (c.loop-left.invariant c.requires.state c.requires.stood) _ c.loop-left.spare.rows_are _ _ _ _ c.min-n.ensures c.run_lines-x.ensures c.run_lines-x.auto.trace, c.run_lines-x.auto.trace)

pub returns-in_default : goal.returns-in_default
returns-in_default c = λ s st. compares_over _ _ c.args.table.now.ready _ _ s _ _ _ _ _ (c.loop-left.invariant s st) _ c.loop-left.spare.rows_are _ _ _ _ c.min-n.ensures c.run_lines-x.ensures c.in_default.not-Went _ c.goes_on-same.ensures _ refl _ refl _ c.told.ensures

pub overflow_sub-left : goal.overflow_sub-left
overflow_sub-left c = omega (arith, c.min-n.ensures)

pub loop-left-smaller : goal.loop-left-smaller
loop-left-smaller c = omega (arith, c.min-n.ensures, c.loop-left-test.true)

pub loop-left-preserved : goal.loop-left-preserved
loop-left-preserved c = λ s st. compares_on _ _ c.args.table.now.ready _ _ s _ _ _ _ _ (c.loop-left.invariant s st) _ c.loop-left.spare.rows_are _ _ _ _ c.min-n.ensures c.run_lines-x.ensures _ c.in-Went.is _ c.goes_on-same.ensures _ refl _ c.afresh-m.ensures

pub returns : goal.returns
returns c = λ s st. compare-spent _ _ _ _ _ _ _ _ _ (c.loop-left.invariant s st) c.loop-left-test.false
