-- Rows of the chain, one after the other through `scan::open::step` and into a buffer: what holds after them, whatever the table.
-- Assumes nothing: these are definitions.
use Rattle.std.specs.Prelude.{ℕ, ◌+◌, ◌*◌, ◌≤◌, ◌<◌, ◌/◌, ◌≡◌, cond, List, ◌++◌, ltb, length, take, replicate}
use Rattle.std.proofs.lemmas.List.Edits.{sets}
use Rattle.rules.specs.declared.kind.Kind.{Kind}
use Rattle.rules.specs.declared.kind.Kind.TheVariants.{End}
use Rattle.rules.specs.Verdict.{Refused}
use Rattle.rules.specs.Row.{Row, Table, row_width, table_of, kind_at, row_bytes, table_bytes}
use Rattle.rules.specs.Switch.{bare_row}
use Rattle.rules.specs.Given.{span_verdict}
use Rattle.scan.specs.declared.open.Standing.{Standing}
use Rattle.scan.specs.Standing.{Stands, Sane}
use Rattle.scan.specs.Next.{Next, Faulty, On, At, NextSane}
use Rattle.given.specs.declared.plan.Plan.{Plan}
use Rattle.given.specs.Plan.{planned_rows}

-- more than the rows of any chain: three for each of 1,024 rows, and those of the row that is being looked at
abbrev pub many_rows : ℕ
many_rows = 4096

-- the buffer begins with the chain c, as long as it has room for it: what has no room is not stored
abbrev pub Written : (c : Table) → (out : List ℕ) → Type 0
Written c out = row_width * length c ≤ length out → take (row_width * length c) out ≡ table_bytes c

-- a row's six bytes stored behind so many rows, where there is room
abbrev pub stored : (six : List ℕ) → (chained : ℕ) → (out : List ℕ) → List ℕ
stored xs n out = cond (ltb n (length out / row_width)) (sets out (row_width * n) xs) out

-- the rows rs are the rows j, j + 1, .. of the table that the bytes spell, by their kinds
abbrev pub KindsAt : (rs : Table) → (bs : List ℕ) → (j : ℕ) → Type 0
KindsAt rs bs j = (d : ℕ) → d < length rs → At (kind_at rs d) bs (j + d)

-- nothing of them is refused
pub record Passes (rs : Table) (s : Standing) (ps ps' : List ℕ) (chained : ℕ) (out out' : List ℕ) (n : Standing) : Type 0 where
  pub sane : Sane n ps'
  pub leads : (bs : List ℕ) (j : ℕ) → KindsAt rs bs j → Stands bs j s ps → Stands bs (j + length rs) n ps'
  pub kept : (c : Table) → length c ≡ chained → Written c out → Written (c ++ rs) out'
  pub long : length out' ≡ length out

abbrev pub Goes : (rs : Table) (s : Standing) (ps ps' : List ℕ) (chained : ℕ) (out out' : List ℕ) → Next → Type 0
Goes rs s ps ps' n out out' (Faulty c) =
    (bs : List ℕ) (j : ℕ) → KindsAt rs bs j → Stands bs j s ps → span_verdict (table_of bs) j (length rs) ≡ Refused c
Goes rs s ps ps' n out out' (On s') = Passes rs s ps ps' n out out' s'

pub record Through (rs : Table) (s : Standing) (ps ps' : List ℕ) (chained : ℕ) (out out' : List ℕ) (r : Next) : Type 0 where
  pub goes : Goes rs s ps ps' chained out out' r

-- no row, or one of this kind and these bytes
pub record OwnOk (count : ℕ) (k : Kind) (six : List ℕ) (s : Standing) (ps ps' : List ℕ) (chained : ℕ) (out out' : List ℕ) (r : Next) : Type 0 where
  pub sane : NextSane ps' r
  pub through : (row : Row) → (0 < count → row.kind ≡ k) → (0 < count → row_bytes row ≡ six) → Through (replicate count row) s ps ps' chained out out' r

-- the row and the ends of a plan
pub record BehindOk (p : Plan) (six : List ℕ) (s : Standing) (ps ps' : List ℕ) (chained : ℕ) (out out' : List ℕ) (r : Next) : Type 0 where
  pub through : (row : Row) → (0 < p.own → row.kind ≡ p.kind) → (0 < p.own → row_bytes row ≡ six)
      → Through (replicate p.own row ++ replicate p.ends (bare_row End)) s ps ps' chained out out' r

-- all rows of a plan
pub record SpansOk (p : Plan) (six : List ℕ) (s : Standing) (ps ps' : List ℕ) (chained : ℕ) (out out' : List ℕ) (r : Next) : Type 0 where
  pub through : (row : Row) → (0 < p.own → row.kind ≡ p.kind) → (0 < p.own → row_bytes row ≡ six)
      → Through (planned_rows p row) s ps ps' chained out out' r
