-- What a do computes: a variable gets a number that fits, or the sum or difference overflows.
use Rattle.std.specs.Prelude.{ℕ, Option, Some, None}

abbrev pub Computed : Type 0
Computed = Option (ℕ × ℕ)

pattern abbrev pub Fits : (variable number : ℕ) → Computed
Fits p x = Some (p, x)

pattern abbrev pub Overflows : Computed
Overflows = None
