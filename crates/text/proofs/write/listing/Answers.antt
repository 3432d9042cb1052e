use Rattle.std.proofs.Common.{◌∙◌}
use Rattle.text.proofs.Groups.{lines_none, lines_more, lines_all, next-room}
use Rattle.text.proofs.write.listing.Goals as goal

pub loop-group-init : goal.loop-group-init
loop-group-init c = (cc, lines_none c.requires cc)

pub put_line-at-requires : goal.put_line-at-requires
put_line-at-requires c =
    let inv = c.loop-group.invariant in
    let s = c.in-Some.ensures.steps in
    next-room inv.1 _ _ s.1.0 (s.1.1 ∙ inv.0)

pub loop-group-preserved : goal.loop-group-preserved
loop-group-preserved c =
    let inv = c.loop-group.invariant in
    let s = c.in-Some.ensures.steps in
    (s.0 ∙ inv.0, lines_more inv.1 _ _ s.1.0 (s.1.1 ∙ inv.0) c.put_line-at.ensures)

pub returns : goal.returns
returns c =
    let inv = c.loop-group.invariant in
    lines_all inv.1 (rw (← inv.0) c.in-None.ensures.steps.1.0)
