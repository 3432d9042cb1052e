-- The code's row: its six bytes, and a buffer that bytes are put into. Assumes nothing: these are definitions.
use Rattle.std.specs.Prelude.{ℕ, ◌+◌, ◌≡◌, List, [], ◌∷◌, length, get_or}
use Rattle.std.proofs.lemmas.List.Edits.{sets}
use Rattle.rows.specs.declared.row.Row.{Row}

abbrev pub six : Row → List ℕ
six r = r.kind ∷ r.op ∷ r.p ∷ r.q ∷ r.low ∷ r.high ∷ []

abbrev pub bare_row : (kind : ℕ) → Row
bare_row k = record { kind = k; op = 0; p = 0; q = 0; low = 0; high = 0 }

-- a test of vp against the number of these two bytes
abbrev pub test_row : (kind p low high : ℕ) → Row
test_row k p low high = record { kind = k; op = 0; p = p; q = 0; low = low; high = high }

-- the row that the bytes begin with
abbrev pub read_row : List ℕ → Row
read_row bs =
    record {
      kind = get_or bs 0 0;
      op = get_or bs 1 0;
      p = get_or bs 2 0;
      q = get_or bs 3 0;
      low = get_or bs 4 0;
      high = get_or bs 5 0;
    }

-- these bytes are put from byte `at` on, and `to` is the byte behind them
pub record Added (bytes rows rows' : List ℕ) (at to : ℕ) : Type 0 where
  pub to_is : to ≡ at + length bytes
  pub rows_are : rows' ≡ sets rows at bytes
