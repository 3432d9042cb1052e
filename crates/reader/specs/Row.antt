-- The rows of some lines, by their bytes.
use Rattle.std.specs.Prelude.{ℕ, ◌+◌, ◌*◌, List, get_or}
use Rattle.rules.specs.Bytes.{low, high}
use Rattle.rules.specs.Line.{line_width}
use Rattle.rows.specs.declared.row.Row.{Row}

-- with the bytes of line k that a row has too
abbrev pub copied_row : (kind : ℕ) → List ℕ → (k : ℕ) → Row
copied_row kind bs k =
    record {
      kind = kind;
      op = get_or bs (line_width * k + 1) 0;
      p = get_or bs (line_width * k + 2) 0;
      q = get_or bs (line_width * k + 3) 0;
      low = get_or bs (line_width * k + 4) 0;
      high = get_or bs (line_width * k + 5) 0;
    }

abbrev pub call_row : (kind function : ℕ) → Row
call_row kind n = record { kind = kind; op = 0; p = 0; q = 0; low = low n; high = high n }
