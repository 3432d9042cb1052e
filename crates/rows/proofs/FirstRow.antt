-- The kind of a byte, and what the row that the bytes begin with says, as laws. Assumes nothing.
use Prim.Native.Nat.{ℕ}
use mathlib.Core.Path.{◌≡◌, sym, ◌∙◌}
use mathlib.Core.Bool.{Bool, true, false}
use mathlib.Core.List.{List}
use Rattle.rules.specs.declared.kind.Kind.{Kind}
use Rattle.rules.specs.declared.kind.Kind.TheVariants.{Unknown}
use Rattle.rules.specs.Row.{row_in, fields_fit_lem}
use Rattle.rows.specs.First.{proper_kind, first_kind_lem}

-- ---- the first row
module _ (xs : List ℕ) {k : Kind} {f : Bool} (p : k ≡ (row_in xs 0).kind) (q : f ≡ fields_fit_lem k (row_in xs 0).operands) where
  fits-is : fields_fit_lem (row_in xs 0).kind (row_in xs 0).operands ≡ f
  fits-is = rw (← p) (sym q)

  pub first_fits : f ≡ true → k ≡ first_kind_lem xs
  unfolding proper_kind
  first_fits e = rw (fits-is ∙ e) p

  pub first-wrong : f ≡ false → Unknown ≡ first_kind_lem xs
  unfolding proper_kind
  first-wrong e = rw (fits-is ∙ e)
