use Rattle.source.proofs.Answers.{low, test_op, operands-in, test-variables, test_true, test-false}
use Rattle.source.proofs.kinds.test_row.Goals as goal

pub fields-requires : goal.fields-requires
fields-requires c = (c.requires.0, test_op c.requires.0 c.requires.1 c.requires.2)

pub holds-requires : goal.holds-requires
holds-requires c = operands-in c.requires.0 (test-variables c.requires.0 c.args.table.bytes c.requires.1 c.requires.2) c.fields.ensures

pub next_row-requires : goal.next_row-requires
next_row-requires c = low c.requires.0

pub returns-then-holds : goal.returns-then-holds
returns-then-holds c = test_true _ _ _ c.fields.ensures c.holds.ensures c.if-holds.true c.next_row.ensures

pub returns : goal.returns
returns c = test-false _ _ _ c.fields.ensures c.holds.ensures c.if-holds.false c.go_of.ensures c.to_row.ensures
