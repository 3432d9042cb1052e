use Rattle.std.proofs.Common.{refl, arith, rules}
use Rattle.console.proofs.Taking.{heard-none, heard-more, kept-at-end}
use Rattle.console.proofs.input.take.Goals as goal

pub loop-init : goal.loop-init
loop-init g c = (refl, c.start-r.ensures.sane _ _ (omega arith), heard-none c.start-r.ensures)

pub returns-then-n-eq0 : goal.returns-then-n-eq0
returns-then-n-eq0 g c =
    let inv = c.loop.invariant in
    kept-at-end inv.2 inv.1 inv.0 c.ended.ensures

pub loop-preserved : goal.loop-preserved
loop-preserved g c =
    (search rules, c.feed-r.ensures.sane, heard-more c.loop.invariant.2 c.feed-r.ensures)

pub returns : goal.returns
returns g c =
    let inv = c.loop.invariant in
    kept-at-end inv.2 inv.1 inv.0 c.ended-2.ensures
