-- The layout of an accepted table: the scope of each row, the bases of its regions, the values of its rows.
use Rattle.std.specs.Prelude.{List, ℕ}
use Rattle.layout.specs.declared.scope.Scope.{Scope}
use Rattle.layout.specs.Scope.{Surveyed}
use Rattle.layout.specs.Number.{Based, Valued}

pub record Laid (bs : List ℕ) (map : List Scope) (bases values : List ℕ) : Type 0 where
  pub surveyed : Surveyed bs map
  pub based : Based bs bases
  pub valued : Valued bs values
