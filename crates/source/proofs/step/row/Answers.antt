use borrow.Author.Rules.{rules}
use native.Mathlib.Omega.{arith}
use Rattle.source.proofs.Answers.{low}
use Rattle.source.proofs.Arms.{next-arm, do-arm, test-arm, jump-arm, end-arm, call-arm, no_arm}
use Rattle.source.proofs.step.row.Goals as goal

pub next_row-requires : goal.next_row-requires
next_row-requires c = low c.requires.standing

pub next_row-requires-in_default : goal.next_row-requires-in_default
next_row-requires-in_default c = low c.requires.standing

pub returns-in-0 : goal.returns-in-0
returns-in-0 c = next-arm _ _ c.requires.standing c.code_of.ensures c.in-0.is c.next_row.ensures

pub returns-in-1 : goal.returns-in-1
returns-in-1 c = do-arm _ _ c.requires.standing c.code_of.ensures 0 c.in-1.is (omega arith) c.do_row.ensures

pub returns-in-2 : goal.returns-in-2
returns-in-2 c = do-arm _ _ c.requires.standing c.code_of.ensures 1 c.in-2.is (omega arith) c.do_row-in-2.ensures

pub returns-in-3 : goal.returns-in-3
returns-in-3 c = do-arm _ _ c.requires.standing c.code_of.ensures 2 c.in-3.is (omega arith) c.do_row-in-3.ensures

pub returns-in-4 : goal.returns-in-4
returns-in-4 c = do-arm _ _ c.requires.standing c.code_of.ensures 3 c.in-4.is (omega arith) c.do_row-in-4.ensures

pub returns-in-5 : goal.returns-in-5
returns-in-5 c = test-arm _ _ c.requires.standing c.code_of.ensures 0 c.in-5.is (omega arith) c.test_row.ensures

pub returns-in-6 : goal.returns-in-6
returns-in-6 c = test-arm _ _ c.requires.standing c.code_of.ensures 1 c.in-6.is (omega arith) c.test_row-in-6.ensures

pub returns-in-7 : goal.returns-in-7
returns-in-7 c = test-arm _ _ c.requires.standing c.code_of.ensures 2 c.in-7.is (omega arith) c.test_row-in-7.ensures

pub returns-in-8 : goal.returns-in-8
returns-in-8 c = jump-arm _ _ c.requires.standing c.code_of.ensures c.in-8.is c.jump_row.ensures

pub returns-in-9 : goal.returns-in-9
returns-in-9 c = end-arm _ _ c.requires.standing c.code_of.ensures c.in-9.is c.end_row.ensures

pub returns-in-10 : goal.returns-in-10
returns-in-10 c = call-arm _ _ c.requires.standing c.code_of.ensures c.in-10.is c.call_row.ensures

pub returns-in_default : goal.returns-in_default
returns-in_default c = no_arm _ _ c.requires.standing c.code_of.ensures (search rules) (search rules) (search rules) (search rules) (search rules) (search rules) (search rules) (search rules) (search rules) (search rules) (search rules)
