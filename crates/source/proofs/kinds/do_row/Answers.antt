use native.Mathlib.Omega.{arith}
use Rattle.source.proofs.Answers.{low, do-kind, do_op, operands-in, do-variables, do-is}
use Rattle.source.proofs.kinds.do_row.Goals as goal

pub fields-requires : goal.fields-requires
fields-requires c = (c.requires.0, do_op c.requires.0 c.requires.1 c.requires.2)

pub act-requires : goal.act-requires
act-requires c = (operands-in c.requires.0 (do-variables c.requires.0 (record { each = λ j. (c.type_inv.rows j).fits }) (do-kind c.requires.0 c.requires.1 c.requires.2)) c.fields.ensures, omega (arith, low c.requires.0), c.requires.3)

pub returns : goal.returns
returns c = do-is _ _ _ _ c.fields.ensures c.act.ensures
