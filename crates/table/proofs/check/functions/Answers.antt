use Rattle.std.proofs.Common.{rules, arith}
use Rattle.table.proofs.Whole.{all_start, alls}
use Rattle.table.proofs.check.functions.Goals as goal

pub loop-at-init : goal.loop-at-init
loop-at-init c = all_start c.requires.rows_len_bound (omega arith) (omega arith) (omega arith)

pub returns : goal.returns
returns c = search (alls, rules)
