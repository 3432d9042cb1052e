-- The groups before those that the iterator has left are written.
use Rattle.std.proofs.Common.{◌≡◌}
use Rattle.std.specs.Slice.Iter.{chunks_exact_rest, chunks_exact_size}
use Rattle.text.proofs.Groups.{Lines}
use Rattle.text.proofs.write.listing.Given as goal

abbrev pub invariant-loop-group : goal.invariant-loop-group
invariant-loop-group l =
    (chunks_exact_size l.group-iterator ≡ l.width) × Lines l.table l.width l.initial.out l.out l.at (chunks_exact_rest l.group-iterator)
