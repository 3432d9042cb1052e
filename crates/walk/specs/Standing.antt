-- Where a walk stands at a row inside a function: what is open there, what was counted, and the links of the rows before. Assumes
-- nothing: these are definitions.
use Rattle.std.specs.Prelude.{ℕ, ◌+◌, ◌*◌, ◌≤◌, ◌<◌, ◌≡◌, Bool, true, false, not, List, ◌∷◌, length, get_or, drop}
use Rattle.rules.specs.declared.kind.Kind.TheVariants.{If}
use Rattle.rules.specs.Verdict.{Accepted}
use Rattle.rules.specs.Limits.{max_rows}
use Rattle.rules.specs.Row.{Table, row_width, table_of, kind_at}
use Rattle.rules.specs.Scan.{Open, regions, open_at, body_region, from_loop, is_end_of, is_else_of, functions}
use Rattle.rules.specs.Check.{is_outside, rows_verdict}

-- a loop is among the open parts
abbrev pub has_loop : List Open → Bool
has_loop fs = not (is_outside (from_loop fs))

-- The links that the rows before row i settle: the end row of what is closed, the else row of what has turned, and 0 for an if that
-- has not.
pub record Linked (t : Table) (i : ℕ) (ends elses : List ℕ) : Type 0 where
  pub ends_long : length ends ≡ max_rows
  pub elses_long : length elses ≡ max_rows
  pub ended : (p j : ℕ) → j < i → is_end_of t p j ≡ true → get_or ends p 0 ≡ j
  pub turned : (p j : ℕ) → j < i → is_else_of t p j ≡ true → get_or elses p 0 ≡ j
  pub bare : (p : ℕ) → p < i → kind_at t p ≡ If → ((j : ℕ) → j < i → is_else_of t p j ≡ false) → get_or elses p 0 ≡ 0

-- Row i of the table that the bytes bs spell, where xs are the bytes from that row on, and no row before it has a fault: inside a
-- function, the part h is the innermost, hs are the parts around it, d of them ifs and loops beside h, o regions are opened in the
-- function, b tells whether a loop is open, and n functions are opened.
pub record Inside (bs xs : List ℕ) (i : ℕ) (h : Open) (hs : List Open) (d o : ℕ) (b : Bool) (n : ℕ) (ends elses : List ℕ) : Type 0 where
  pub cut : xs ≡ drop (row_width * i) bs
  pub within : row_width * i ≤ length bs
  pub few : length (table_of bs) ≤ max_rows
  pub good : rows_verdict (table_of bs) i ≡ Accepted
  pub parts : open_at (table_of bs) i ≡ h ∷ hs
  pub depth : length hs ≡ d
  pub loops : has_loop (h ∷ hs) ≡ b
  pub opened : regions (table_of bs) i ≡ body_region (h ∷ hs) + o
  pub count : functions (table_of bs) i ≡ n
  pub links : Linked (table_of bs) i ends elses
