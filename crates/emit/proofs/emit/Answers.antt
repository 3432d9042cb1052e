use mathlib.Core.Path.{sym, ◌∙◌}
use Rattle.layout.proofs.ByKind.{in-do, in-if, in-else, in-loop, in_end, in-break, in-continue, in-call}
use Rattle.emit.proofs.Emits.{makes_none, none_out}
use Rattle.emit.proofs.emit.Goals as goal

pub returns-in-Function : goal.returns-in-Function
returns-in-Function c = none_out (makes_none c.requires.0 c.kind.ensures c.in-Function.is)

pub tick_line-k-requires : goal.tick_line-k-requires
tick_line-k-requires c = (in-do c.args.table.now.linked.surveyed c.requires.0 c.kind.ensures c.in-Do.is, sym c.kind.ensures ∙ c.in-Do.is)

pub if_line-l-requires : goal.if_line-l-requires
if_line-l-requires c = (in-if c.args.table.now.linked.surveyed c.requires.0 c.kind.ensures c.in-If.is, sym c.kind.ensures ∙ c.in-If.is)

pub else_line-l-requires : goal.else_line-l-requires
else_line-l-requires c = (in-else c.args.table.now.linked.surveyed c.requires.0 c.kind.ensures c.in-Else.is, sym c.kind.ensures ∙ c.in-Else.is)

pub loop_line-l-requires : goal.loop_line-l-requires
loop_line-l-requires c = (in-loop c.args.table.now.linked.surveyed c.requires.0 c.kind.ensures c.in-Loop.is, sym c.kind.ensures ∙ c.in-Loop.is)

pub end_line-l-requires : goal.end_line-l-requires
end_line-l-requires c = (in_end c.args.table.now.linked.surveyed c.requires.0 c.kind.ensures c.in-End.is, sym c.kind.ensures ∙ c.in-End.is)

pub break_line-l-requires : goal.break_line-l-requires
break_line-l-requires c = (in-break c.args.table.now.linked.surveyed c.requires.0 c.kind.ensures c.in-Break.is, sym c.kind.ensures ∙ c.in-Break.is)

pub continue_line-l-requires : goal.continue_line-l-requires
continue_line-l-requires c = (in-continue c.args.table.now.linked.surveyed c.requires.0 c.kind.ensures c.in-Continue.is, sym c.kind.ensures ∙ c.in-Continue.is)

pub call_line-l-requires : goal.call_line-l-requires
call_line-l-requires c = (in-call c.args.table.now.linked.surveyed c.requires.0 c.kind.ensures c.in-Call.is, sym c.kind.ensures ∙ c.in-Call.is)

pub back_line-k-requires : goal.back_line-k-requires
back_line-k-requires c = (in-call c.args.table.now.linked.surveyed c.requires.0 c.kind.ensures c.in-Call.is, sym c.kind.ensures ∙ c.in-Call.is)
