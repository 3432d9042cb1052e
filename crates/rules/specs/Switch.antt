-- Switches (02, No. 1): the rows as given, what is open among them, and the chain of ifs in elses that they stand for. Rows, open
-- parts, values, lines and both machines are those of 01, applied to the chain.
use Rattle.std.specs.Prelude.{ℕ, zero, suc, ◌*◌, ◌/◌, Bool, true, false, cond, List, [], ◌∷◌, ◌++◌, eqb, length, get_or, replicate}
use Rattle.rules.specs.declared.operands.Operands.{Operands}
use Rattle.rules.specs.declared.kind.Kind.{Kind}
use Rattle.rules.specs.declared.kind.Kind.TheVariants.{If, Else, End}
use Rattle.rules.specs.Row.{Row, Table, row_width, row_in, no_row, table_bytes}
use Rattle.rules.specs.Scan.{Shape, pushes, turns, closes, stays, shape_of, is_end_lem}

-- "Add rows 0a (switch on vp), 0b (case n) and 0c (default, last)"; every other row is one of 01's
pub data GivenRow : Type 0 where
  as_is : Row → GivenRow
  switch_row case_row default_row : Operands → GivenRow

abbrev pub GivenTable : Type 0
GivenTable = List GivenRow

-- the row that begins with this byte, where 01 reads it as r
unfoldable pub given_as : (kind : ℕ) → (r : Row) → GivenRow
given_as b r =
    cond (eqb b 0x0a) (switch_row r.operands)
    (cond (eqb b 0x0b) (case_row r.operands) (cond (eqb b 0x0c) (default_row r.operands) (as_is r)))

unfoldable pub given_from : List ℕ → (i count : ℕ) → GivenTable
given_from bs i zero = []
given_from bs i (suc count) = given_as (get_or bs (row_width * i) 0) (row_in bs (row_width * i)) ∷ given_from bs (suc i) count

-- the rows as given
unfoldable pub given_of : List ℕ → GivenTable
given_of bs = given_from bs 0 (length bs / row_width)

abbrev pub given_at : GivenTable → ℕ → GivenRow
given_at g i = get_or g i (as_is no_row)

-- An open switch: its variable, the numbers of its cases so far, and whether its default is open. Before the first of its parts it
-- has no number and no default.
pub record Switch : Type 0 where
  pub p : ℕ
  pub used : List ℕ
  pub in_default : Bool

-- what is open among the rows as given: a function, an if or a loop; or a switch
pub data Thing : Type 0 where
  construct : Thing
  switch : Switch → Thing

-- of the things that are open, the innermost first: what f says of a row straight in a switch; anywhere else, that
abbrev pub in_switch : {A : Type 0} → (elsewhere : A) → (f : Switch → A) → List Thing → A
in_switch a f [] = a
in_switch a f (construct ∷ ts) = a
in_switch a f (switch s ∷ ts) = f s

abbrev pub set_switch : (Switch → Switch) → List Thing → List Thing
set_switch f [] = []
set_switch f (construct ∷ ts) = construct ∷ ts
set_switch f (switch s ∷ ts) = switch (f s) ∷ ts

-- what is open after a row of 01: "closed by 06"
abbrev pub things_by : Shape → List Thing → List Thing
things_by (pushes p) ts = construct ∷ ts
things_by turns ts = ts
things_by closes [] = []
things_by closes (t ∷ ts) = ts
things_by stays ts = ts

-- what is open after any row
abbrev pub things_after : GivenRow → List Thing → List Thing
things_after (as_is r) ts = things_by (shape_of r.kind) ts
things_after (switch_row o) ts = switch (record { p = o.p; used = []; in_default = false }) ∷ ts
things_after (case_row o) ts = set_switch (λ s. record { p = s.p; used = o.n ∷ s.used; in_default = s.in_default }) ts
things_after (default_row o) ts = set_switch (λ s. record { p = s.p; used = s.used; in_default = true }) ts

-- the things open before row i
unfoldable pub things_at : GivenTable → (i : ℕ) → List Thing
things_at g zero = []
things_at g (suc i) = things_after (given_at g i) (things_at g i)

-- the chain's own rows: if vp = n; else; end
abbrev pub if_row : (p n : ℕ) → Row
if_row p n = record { kind = If; operands = record { op = 0; p = p; q = 0; n = n } }

abbrev pub bare_row : Kind → Row
bare_row k = record { kind = k; operands = record { op = 0; p = 0; q = 0; n = 0 } }

-- "ifs in elses": a part of a switch begins with an else if a case stands before it
abbrev pub else_after : (used : List ℕ) → Table
else_after [] = []
else_after (n ∷ ns) = bare_row Else ∷ []

-- the rows that a row stands for where the things ts are open: "each case counting as one open if; an empty switch stands for no rows,
-- one with only a default for that part's rows"
abbrev pub chain_rows : GivenRow → (ts : List Thing) → Table
chain_rows (as_is r) ts = in_switch (r ∷ []) (λ s. cond (is_end_lem r.kind) (replicate (length s.used) (bare_row End)) (r ∷ [])) ts
chain_rows (switch_row o) ts = []
chain_rows (case_row o) ts = in_switch [] (λ s. else_after s.used ++ (if_row s.p o.n ∷ [])) ts
chain_rows (default_row o) ts = in_switch [] (λ s. else_after s.used) ts

-- the chain of the rows before row i
unfoldable pub chain_to : GivenTable → (i : ℕ) → Table
chain_to g zero = []
chain_to g (suc i) = chain_to g i ++ chain_rows (given_at g i) (things_at g i)

-- the whole chain, as rows and as bytes
abbrev pub chain_of : GivenTable → Table
chain_of g = chain_to g (length g)

unfoldable pub chain_bytes : List ℕ → List ℕ
chain_bytes bs = table_bytes (chain_of (given_of bs))
