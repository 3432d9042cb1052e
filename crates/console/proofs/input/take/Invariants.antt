-- What was read so far is what some text says.
use Rattle.std.proofs.Common.{◌≡◌, length}
use Rattle.text.specs.Reading.{Sane}
use Rattle.console.proofs.Taking.{Heard}
use Rattle.console.proofs.input.take.Given as goal

abbrev pub invariant-loop : goal.invariant-loop
invariant-loop g l =
    (length l.bytes ≡ length l.initial.bytes) × (Sane l.digits l.r l.bytes) × (Heard l.digits l.initial.bytes l.r l.bytes)
