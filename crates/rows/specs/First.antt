-- The row that some bytes begin with: its kind where its fields are as that kind uses them. Assumes nothing: these are definitions.
use Rattle.std.specs.Prelude.{ℕ, Bool, cond, ◌&&◌, List, leb}
use Rattle.rules.specs.declared.kind.Kind.{Kind}
use Rattle.rules.specs.declared.kind.Kind.TheVariants.{Unknown}
use Rattle.rules.specs.Row.{Row, row_in, fields_fit_lem}
use Rattle.rules.specs.Check.{is_call}

-- the row's kind, or Unknown where a field is not as that kind uses it
unfoldable pub proper_kind : Row → Kind
proper_kind r = cond (fields_fit_lem r.kind r.operands) r.kind Unknown

abbrev pub first_kind_lem : List ℕ → Kind
first_kind_lem xs = proper_kind (row_in xs 0)

-- the row calls a function whose number is not below `count`
unfoldable pub calls_beyond_lem : (count : ℕ) → Row → Bool
calls_beyond_lem count r = is_call r.kind && leb count r.operands.n
