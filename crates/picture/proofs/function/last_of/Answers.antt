use Rattle.std.proofs.Common.{◌-◌, length, get_or, sym, ap, ◌∙◌, arith}
use Rattle.rules.specs.Line.{lines_in}
use Rattle.line.proofs.Decode.{length-lines}
use Rattle.picture.proofs.function.last_of.Goals as goal

pub overflow_sub-result : goal.overflow_sub-result
overflow_sub-result c = omega (arith, c.args.table.now.ready.sound.within.some_line, length-lines c.args.table.now.lines.now)

pub bounds-table-n : goal.bounds-table-n
bounds-table-n c = omega (arith, c.args.table.now.ready.sound.within.few_lines, length-lines c.args.table.now.lines.now)

pub returns : goal.returns
returns c =
    ap (λ n. get_or c.args.table.now.owners (n - 1) 0) (sym (length-lines c.args.table.now.lines.now))
    ∙ c.args.table.now.ready.mapped.located.owner_is (length (lines_in c.args.table.now.lines.now) - 1) (omega (arith, c.args.table.now.ready.sound.within.some_line))
