-- What hardening gives back, as the definitions' record.
use Rattle.std.specs.Prelude.{ℕ, List}
use Rattle.rules.specs.declared.answer.Wrote.{Wrote}
use Rattle.rules.specs.Calls.{Writing}

abbrev pub written : Wrote → (out : List ℕ) → Writing
written r out = record { wrote = r; out = out }
