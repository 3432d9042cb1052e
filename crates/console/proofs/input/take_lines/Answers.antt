-- It lends the buffer's front.
use Rattle.std.proofs.Common.{sym, ◌∙◌, arith, length-take-le}
use Rattle.console.proofs.Taking.{kept-in-front}
use Rattle.console.proofs.input.take_lines.Goals as goal

pub slice_bounds-take-end-2 : goal.slice_bounds-take-end-2
slice_bounds-take-end-2 g c = sym (length-take-le 40980 c.args.bytes.now (omega arith))

pub returns : goal.returns
returns g c =
    let long = length-take-le 40980 c.args.bytes.now (omega arith) in
    kept-in-front 40 40980 _ _ c.take.result long (c.take.auto.bytes ∙ long) c.take.ensures
