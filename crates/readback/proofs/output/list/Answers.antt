use Rattle.std.proofs.Common.{◌-◌, ◌/◌, ◌%◌, length, arith, length-take-le}
use Rattle.readback.proofs.output.list.Goals as goal

pub listing-n-requires : goal.listing-n-requires
listing-n-requires g c =
    let rows = c.args.rows.now in
    let whole = length-take-le (length rows - length rows % 6) rows (omega arith) in
    record {
      count = length rows / 6;
      some_width = omega arith;
      narrow = omega arith;
      few = omega arith;
      whole = omega (arith, whole);
      room = omega arith;
    }
