-- The laws of Constructs, Nested and Sequence answer the returns, those of Limits say how few are open or opened where a part begins.
use Rattle.std.proofs.Common.{rules, arith, ap, ◌∙◌, Ok}
use Rattle.std.proofs.lemmas.Result.{err_from_is_err_and}
use Rattle.walk.proofs.Constructs.{kind_at, at-function, at-unknown, at-wrong, at-dos, at_call, at_end, at-else, at-break, at-continue}
use Rattle.walk.proofs.Limits.{few-open}
use Rattle.walk.proofs.Nested.{ifs, rest-torn, rest-rows, elses, loops-in}
use Rattle.walk.proofs.Sequence.{to_end, to-else, to-past, sequences, rows_of_lem}
use Rattle.walk.proofs.parts.+walker.Goals as goal

pub construct-returns-in-Function : goal.construct-returns-in-Function
construct-returns-in-Function t c = search (at-function, rules)

pub construct-returns-in-Else : goal.construct-returns-in-Else
construct-returns-in-Else t c = search (at-else, rules)

pub construct-returns-in-End : goal.construct-returns-in-End
construct-returns-in-End t c = search (at_end, rules)

pub construct-returns-in-Break : goal.construct-returns-in-Break
construct-returns-in-Break t c = search (at-break, rules)

pub construct-returns-in-Continue : goal.construct-returns-in-Continue
construct-returns-in-Continue t c = search (at-continue, rules)

pub construct-returns-in-Call : goal.construct-returns-in-Call
construct-returns-in-Call t c = search (at_call, rules)

pub construct-returns-in-Unknown : goal.construct-returns-in-Unknown
construct-returns-in-Unknown t c = search (at-unknown, rules)

pub else_part-returns-then-no_region : goal.else_part-returns-then-no_region
else_part-returns-then-no_region t c = search (elses, rules)

pub else_part-returns-in_err-ended : goal.else_part-returns-in_err-ended
else_part-returns-in_err-ended t c = let p = err_from_is_err_and c.from_residual.result c.from_residual.ensures.1 in rw (p.1, p.2) (search (elses, c.in_err-ended.was, rules))

pub else_part-returns-in-AtElse : goal.else_part-returns-in-AtElse
else_part-returns-in-AtElse t c = let e = c.in_ok-ended.was ∙ ap Ok c.in-AtElse.is in search (elses, rules)

pub else_part-returns-in-AtEnd : goal.else_part-returns-in-AtEnd
else_part-returns-in-AtEnd t c = let e = c.in_ok-ended.was ∙ ap Ok c.in-AtEnd.is in search (elses, rules)

pub else_part-overflow_add-row-in-AtEnd-2 : goal.else_part-overflow_add-row-in-AtEnd-2
else_part-overflow_add-row-in-AtEnd-2 t c = omega (arith, rows_of_lem, (c.in_ok-ended.was ∙ ap Ok c.in-AtEnd.is))

pub else_part-link-requires-in-AtEnd : goal.else_part-link-requires-in-AtEnd
else_part-link-requires-in-AtEnd t c = omega (arith, rows_of_lem, (c.in_ok-ended.was ∙ ap Ok c.in-AtEnd.is))

pub else_part-overflow_add-result : goal.else_part-overflow_add-result
else_part-overflow_add-result t c = omega (arith, rows_of_lem, (c.in_ok-ended.was ∙ ap Ok c.in-AtEnd.is))

pub if_part-returns-then-full : goal.if_part-returns-then-full
if_part-returns-then-full t c = search (ifs, rules)

pub if_part-returns-in_err-ended : goal.if_part-returns-in_err-ended
if_part-returns-in_err-ended t c = let p = err_from_is_err_and c.from_residual.result c.from_residual.ensures.1 in rw (p.1, p.2) (search (ifs, c.in_err-ended.was, rules))

pub if_part-returns-in-AtEnd : goal.if_part-returns-in-AtEnd
if_part-returns-in-AtEnd t c = let e = c.in_ok-ended.was ∙ ap Ok c.in-AtEnd.is in search (ifs, rules)

pub if_part-overflow_add-base-in-AtEnd-2 : goal.if_part-overflow_add-base-in-AtEnd-2
if_part-overflow_add-base-in-AtEnd-2 t c = omega (arith, rows_of_lem, (c.in_ok-ended.was ∙ ap Ok c.in-AtEnd.is))

pub if_part-link-requires-in-AtEnd : goal.if_part-link-requires-in-AtEnd
if_part-link-requires-in-AtEnd t c = omega (arith, rows_of_lem, (c.in_ok-ended.was ∙ ap Ok c.in-AtEnd.is))

pub if_part-overflow_add-result : goal.if_part-overflow_add-result
if_part-overflow_add-result t c = omega (arith, rows_of_lem, (c.in_ok-ended.was ∙ ap Ok c.in-AtEnd.is))

pub if_part-overflow_add-from : goal.if_part-overflow_add-from
if_part-overflow_add-from t c = omega (arith, rows_of_lem, (c.in_ok-ended.was ∙ ap Ok c.in-AtElse.is))

pub if_part-overflow_mul-from : goal.if_part-overflow_mul-from
if_part-overflow_mul-from t c = omega (arith, rows_of_lem, (c.in_ok-ended.was ∙ ap Ok c.in-AtElse.is))

pub if_part-slice_bounds-else_part-count : goal.if_part-slice_bounds-else_part-count
if_part-slice_bounds-else_part-count t c = omega (arith, rows_of_lem, (c.in_ok-ended.was ∙ ap Ok c.in-AtElse.is))

pub if_part-slice_bounds-else_part-start : goal.if_part-slice_bounds-else_part-start
if_part-slice_bounds-else_part-start t c = omega (arith, rows_of_lem, (c.in_ok-ended.was ∙ ap Ok c.in-AtElse.is))

pub if_part-overflow_add-base-in-AtElse-2 : goal.if_part-overflow_add-base-in-AtElse-2
if_part-overflow_add-base-in-AtElse-2 t c = omega (arith, rows_of_lem, (c.in_ok-ended.was ∙ ap Ok c.in-AtElse.is))

pub if_part-else_part-requires : goal.if_part-else_part-requires
if_part-else_part-requires t c = omega (arith, rows_of_lem, (c.in_ok-ended.was ∙ ap Ok c.in-AtElse.is), few-open c.full.ensures c.if-full.false)

pub loop_part-returns-then-full : goal.loop_part-returns-then-full
loop_part-returns-then-full t c = search (loops-in, rules)

pub loop_part-returns-in_err-ended : goal.loop_part-returns-in_err-ended
loop_part-returns-in_err-ended t c = let p = err_from_is_err_and c.from_residual.result c.from_residual.ensures.1 in rw (p.1, p.2) (search (loops-in, c.in_err-ended.was, rules))

pub loop_part-returns-in-AtElse : goal.loop_part-returns-in-AtElse
loop_part-returns-in-AtElse t c = let e = c.in_ok-ended.was ∙ ap Ok c.in-AtElse.is in search (loops-in, rules)

pub loop_part-returns-in-AtEnd : goal.loop_part-returns-in-AtEnd
loop_part-returns-in-AtEnd t c = let e = c.in_ok-ended.was ∙ ap Ok c.in-AtEnd.is in search (loops-in, rules)

pub loop_part-overflow_add-base-in-AtEnd-2 : goal.loop_part-overflow_add-base-in-AtEnd-2
loop_part-overflow_add-base-in-AtEnd-2 t c = omega (arith, rows_of_lem, (c.in_ok-ended.was ∙ ap Ok c.in-AtEnd.is))

pub loop_part-link-requires : goal.loop_part-link-requires
loop_part-link-requires t c = omega (arith, rows_of_lem, (c.in_ok-ended.was ∙ ap Ok c.in-AtEnd.is))

pub loop_part-overflow_add-result : goal.loop_part-overflow_add-result
loop_part-overflow_add-result t c = omega (arith, rows_of_lem, (c.in_ok-ended.was ∙ ap Ok c.in-AtEnd.is))

pub sequence-returns-in_err-step : goal.sequence-returns-in_err-step
sequence-returns-in_err-step t c = let p = err_from_is_err_and c.from_residual.result c.from_residual.ensures.1 in rw (p.1, p.2) (search (sequences, c.in_err-step.was, rules))

pub sequence-returns-in-EndHere : goal.sequence-returns-in-EndHere
sequence-returns-in-EndHere t c = to_end c.loop-at.invariant c.construct.ensures (c.in_ok-step.was ∙ ap Ok c.in-EndHere.is)

pub sequence-returns-in-ElseHere : goal.sequence-returns-in-ElseHere
sequence-returns-in-ElseHere t c = to-else c.loop-at.invariant c.construct.ensures (c.in_ok-step.was ∙ ap Ok c.in-ElseHere.is)

pub sequence-overflow_add-at-in-Past : goal.sequence-overflow_add-at-in-Past
sequence-overflow_add-at-in-Past t c = omega (arith, rows_of_lem, c.in_ok-step.was ∙ ap Ok c.in-Past.is)

pub sequence-loop-at-smaller : goal.sequence-loop-at-smaller
sequence-loop-at-smaller t c = omega (arith, rows_of_lem, c.in_ok-step.was ∙ ap Ok c.in-Past.is)

pub sequence-loop-at-preserved : goal.sequence-loop-at-preserved
sequence-loop-at-preserved t c = let e = c.in_ok-step.was ∙ ap Ok c.in-Past.is in search (to-past, c.construct.ensures)

pub sequence-returns : goal.sequence-returns
sequence-returns t c = search (sequences, rules)

pub construct-returns-in_err-fields-in-Do : goal.construct-returns-in_err-fields-in-Do
construct-returns-in_err-fields-in-Do t c = let p = err_from_is_err_and c.from_residual.result c.from_residual.ensures.1 in rw (p.1, p.2) (at-wrong c.requires.in_bounds c.kind.ensures c.in-Do.is c.fields-in-Do.ensures c.in_err-fields-in-Do.was)

pub construct-returns-in_err-fields-in-If : goal.construct-returns-in_err-fields-in-If
construct-returns-in_err-fields-in-If t c = let p = err_from_is_err_and c.from_residual-in_err-fields-in-If.result c.from_residual-in_err-fields-in-If.ensures.1 in rw (p.1, p.2) (at-wrong c.requires.in_bounds c.kind.ensures c.in-If.is c.fields-in-If.ensures c.in_err-fields-in-If.was)

pub construct-if_part-requires : goal.construct-if_part-requires
construct-if_part-requires t c = search (kind_at _ _ c.kind.ensures c.in-If.is c.fields-in-If.ensures c.in_ok-fields-in-If.was, rules)

pub construct-returns-in_err-fields-in-Loop : goal.construct-returns-in_err-fields-in-Loop
construct-returns-in_err-fields-in-Loop t c = let p = err_from_is_err_and c.from_residual-in_err-fields-in-Loop.result c.from_residual-in_err-fields-in-Loop.ensures.1 in rw (p.1, p.2) (at-wrong c.requires.in_bounds c.kind.ensures c.in-Loop.is c.fields-in-Loop.ensures c.in_err-fields-in-Loop.was)

pub construct-loop_part-requires : goal.construct-loop_part-requires
construct-loop_part-requires t c = search (kind_at _ _ c.kind.ensures c.in-Loop.is c.fields-in-Loop.ensures c.in_ok-fields-in-Loop.was, rules)

pub construct-dos-requires : goal.construct-dos-requires
construct-dos-requires t c = search (kind_at _ _ c.kind.ensures c.in-Do.is c.fields-in-Do.ensures c.in_ok-fields-in-Do.was, rules)

pub construct-returns-in_ok-fields-in-Do : goal.construct-returns-in_ok-fields-in-Do
construct-returns-in_ok-fields-in-Do t c = search (at-dos, rules)

pub if_part-returns-in_err-k-in-AtElse : goal.if_part-returns-in_err-k-in-AtElse
if_part-returns-in_err-k-in-AtElse t c = let p = err_from_is_err_and c.from_residual-in_err-k-in-AtElse.result c.from_residual-in_err-k-in-AtElse.ensures.1 in rw (p.1, p.2) (rest-torn c.requires.in_bounds.0 c.requires.in_bounds.1 c.full.ensures c.if-full.false c.link.ensures c.sequence.ensures (c.in_ok-ended.was ∙ ap Ok c.in-AtElse.is) c.else_part.ensures c.in_err-k-in-AtElse.was)

pub if_part-returns-in_ok-k-in-AtElse : goal.if_part-returns-in_ok-k-in-AtElse
if_part-returns-in_ok-k-in-AtElse t c = rest-rows c.requires.in_bounds.0 c.requires.in_bounds.1 c.full.ensures c.if-full.false c.link.ensures c.sequence.ensures (c.in_ok-ended.was ∙ ap Ok c.in-AtElse.is) c.else_part.ensures c.in_ok-k-in-AtElse.was

pub if_part-overflow_add-result-in-AtElse : goal.if_part-overflow_add-result-in-AtElse
if_part-overflow_add-result-in-AtElse t c = omega (arith, rows_of_lem, c.in_ok-ended.was ∙ ap Ok c.in-AtElse.is, c.in_ok-k-in-AtElse.was, c.else_part.ensures, c.sequence.ensures.fit, c.requires.in_bounds)

pub if_part-overflow_add-result-in-AtElse-2 : goal.if_part-overflow_add-result-in-AtElse-2
if_part-overflow_add-result-in-AtElse-2 t c = omega (arith, rows_of_lem, c.in_ok-ended.was ∙ ap Ok c.in-AtElse.is, c.in_ok-k-in-AtElse.was, c.else_part.ensures, c.sequence.ensures.fit, c.requires.in_bounds)
