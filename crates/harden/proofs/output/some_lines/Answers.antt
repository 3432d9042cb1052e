use Rattle.std.proofs.Common.{◌-◌, ◌/◌, ◌%◌, length, arith, length-take-le}
use Rattle.harden.proofs.output.some_lines.Goals as goal

pub listing-n-requires : goal.listing-n-requires
listing-n-requires g c =
    let lines = c.args.lines.now in
    let whole = length-take-le (length lines - length lines % 20) lines (omega arith) in
    record {
      count = length lines / 20;
      some_width = omega arith;
      narrow = omega arith;
      few = omega arith;
      whole = omega (arith, whole);
      room = omega arith;
    }
