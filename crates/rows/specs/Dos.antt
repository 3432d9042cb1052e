-- Dos that stand one after the other. Assumes nothing: these are definitions.
use Rattle.std.specs.Prelude.{ℕ, ◌*◌, ◌≤◌, ◌<◌, ◌≡◌, Bool, true, false, List, length, drop}
use Rattle.rules.specs.declared.kind.Kind.{Kind}
use Rattle.rules.specs.declared.kind.Kind.TheVariants.{Function, Do, If, Else, Loop, End, Break, Continue, Call, Unknown}
use Rattle.rules.specs.Row.{row_width}
use Rattle.rows.specs.First.{first_kind_lem}

abbrev pub is_do_lem : Kind → Bool
is_do_lem Function = false
is_do_lem Do = true
is_do_lem If = false
is_do_lem Else = false
is_do_lem Loop = false
is_do_lem End = false
is_do_lem Break = false
is_do_lem Continue = false
is_do_lem Call = false
is_do_lem Unknown = false

-- the bytes begin with so many dos
pub record DosAre (xs : List ℕ) (count : ℕ) : Type 0 where
  pub some : 0 < count
  pub fit : row_width * count ≤ length xs
  pub each : (j : ℕ) → j < count → first_kind_lem (drop (row_width * j) xs) ≡ Do
