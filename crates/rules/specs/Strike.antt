-- What may strike a run: nothing, or a jump before a step to a place.
use Rattle.std.specs.Prelude.{ℕ, Option, Some}
pub use Rattle.std.specs.Prelude.{None}

abbrev pub Strike : Type 0
Strike = Option (ℕ × ℕ)

pattern abbrev pub Jump : (step place : ℕ) → Strike
Jump k p = Some (k, p)
