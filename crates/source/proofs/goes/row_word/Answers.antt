use mathlib.Core.Path.{refl}
use native.Mathlib.Omega.{arith}
use Rattle.rules.specs.declared.kind.Kind.TheVariants.{Do, If, Else, Loop, End, Break, Continue, Call}
use Rattle.layout.proofs.ByKind.{in-else, in_end, in-break, in-continue}
use Rattle.source.proofs.Targets.{next-word, do-goes, if-goes, else-goes, loop-goes, end_goes, break-goes, continue-goes, call-goes, small-code, small-go, word-is}
use Rattle.source.proofs.goes.row_word.Goals as goal

pub overflow_add-op_of : goal.overflow_add-op_of
overflow_add-op_of c = omega (arith, small-code c.args.table.now.surveyed c.requires c.kind.ensures c.op_of.ensures Do c.in-Do.is)

pub in_one-requires-in-Do : goal.in_one-requires-in-Do
in_one-requires-in-Do c = (small-code c.args.table.now.surveyed c.requires c.kind.ensures c.op_of.ensures Do c.in-Do.is, omega arith)

pub overflow_add-op_of-in-If : goal.overflow_add-op_of-in-If
overflow_add-op_of-in-If c = omega (arith, small-code c.args.table.now.surveyed c.requires c.kind.ensures c.op_of-in-If.ensures If c.in-If.is)

pub in_one-requires-in-If : goal.in_one-requires-in-If
in_one-requires-in-If c = (small-code c.args.table.now.surveyed c.requires c.kind.ensures c.op_of-in-If.ensures If c.in-If.is, small-go c.args.table.now.surveyed c.requires (if-goes _ _ c.kind.ensures c.in-If.is c.if_go.ensures))

pub opener_of-requires : goal.opener_of-requires
opener_of-requires c = in-else c.args.table.now.surveyed c.requires c.kind.ensures c.in-Else.is

pub in_one-requires-in-Else : goal.in_one-requires-in-Else
in_one-requires-in-Else c = (omega arith, small-go c.args.table.now.surveyed c.requires (else-goes _ _ c.kind.ensures c.in-Else.is c.opener_of.ensures c.past.ensures))

pub overflow_add-op_of-in-Loop : goal.overflow_add-op_of-in-Loop
overflow_add-op_of-in-Loop c = omega (arith, small-code c.args.table.now.surveyed c.requires c.kind.ensures c.op_of-in-Loop.ensures Loop c.in-Loop.is)

pub in_one-requires-in-Loop : goal.in_one-requires-in-Loop
in_one-requires-in-Loop c = (small-code c.args.table.now.surveyed c.requires c.kind.ensures c.op_of-in-Loop.ensures Loop c.in-Loop.is, small-go c.args.table.now.surveyed c.requires (loop-goes _ _ c.kind.ensures c.in-Loop.is c.past-in-Loop.ensures))

pub end_go-requires : goal.end_go-requires
end_go-requires c = in_end c.args.table.now.surveyed c.requires c.kind.ensures c.in-End.is

pub in_one-requires-in-End : goal.in_one-requires-in-End
in_one-requires-in-End c = (omega arith, small-go c.args.table.now.surveyed c.requires (end_goes _ _ c.kind.ensures c.in-End.is c.end_go.ensures))

pub loop_of-requires : goal.loop_of-requires
loop_of-requires c = in-break c.args.table.now.surveyed c.requires c.kind.ensures c.in-Break.is

pub in_one-requires-in-Break : goal.in_one-requires-in-Break
in_one-requires-in-Break c = (omega arith, small-go c.args.table.now.surveyed c.requires (break-goes _ _ c.kind.ensures c.in-Break.is c.loop_of.ensures c.past-in-Break.ensures))

pub loop_of-requires-in-Continue : goal.loop_of-requires-in-Continue
loop_of-requires-in-Continue c = in-continue c.args.table.now.surveyed c.requires c.kind.ensures c.in-Continue.is

pub returns-in-Function : goal.returns-in-Function
returns-in-Function c = next-word _ _ c.kind.ensures c.in-Function.is c.in_one.ensures

pub returns-in-Do : goal.returns-in-Do
returns-in-Do c = word-is _ _ c.kind.ensures Do c.in-Do.is c.op_of.ensures (do-goes _ _ c.kind.ensures c.in-Do.is) c.in_one-in-Do.ensures

pub returns-in-If : goal.returns-in-If
returns-in-If c = word-is _ _ c.kind.ensures If c.in-If.is c.op_of-in-If.ensures (if-goes _ _ c.kind.ensures c.in-If.is c.if_go.ensures) c.in_one-in-If.ensures

pub returns-in-Else : goal.returns-in-Else
returns-in-Else c = word-is _ _ c.kind.ensures Else c.in-Else.is refl (else-goes _ _ c.kind.ensures c.in-Else.is c.opener_of.ensures c.past.ensures) c.in_one-in-Else.ensures

pub returns-in-Loop : goal.returns-in-Loop
returns-in-Loop c = word-is _ _ c.kind.ensures Loop c.in-Loop.is c.op_of-in-Loop.ensures (loop-goes _ _ c.kind.ensures c.in-Loop.is c.past-in-Loop.ensures) c.in_one-in-Loop.ensures

pub returns-in-End : goal.returns-in-End
returns-in-End c = word-is _ _ c.kind.ensures End c.in-End.is refl (end_goes _ _ c.kind.ensures c.in-End.is c.end_go.ensures) c.in_one-in-End.ensures

pub returns-in-Break : goal.returns-in-Break
returns-in-Break c = word-is _ _ c.kind.ensures Break c.in-Break.is refl (break-goes _ _ c.kind.ensures c.in-Break.is c.loop_of.ensures c.past-in-Break.ensures) c.in_one-in-Break.ensures

pub returns-in-Continue : goal.returns-in-Continue
returns-in-Continue c = word-is _ _ c.kind.ensures Continue c.in-Continue.is refl (continue-goes _ _ c.kind.ensures c.in-Continue.is c.loop_of-in-Continue.ensures) c.in_one-in-Continue.ensures

pub returns-in-Call : goal.returns-in-Call
returns-in-Call c = word-is _ _ c.kind.ensures Call c.in-Call.is refl (call-goes _ _ c.kind.ensures c.in-Call.is c.callee_of.ensures) c.in_one-in-Call.ensures
