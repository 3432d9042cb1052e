-- A table that is not accepted, and one that is. Assumes nothing.
use mathlib.Core.Path.{◌≡◌}
use mathlib.Core.Bool.{Bool, true, false, ◌&&◌}
use Rattle.rules.specs.Verdict.{Verdict}
use Rattle.rules.specs.Refusal.{is_accepted}

pub judged-refused : (v : Verdict) (b : Bool) → is_accepted v ≡ false → false ≡ is_accepted v && b
judged-refused v b e = rw e

pub judged-accepted : (v : Verdict) {r b : Bool} → is_accepted v ≡ true → r ≡ b → r ≡ is_accepted v && b
judged-accepted v e q = rw e q
