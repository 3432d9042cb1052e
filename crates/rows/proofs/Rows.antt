-- The row that a part of the bytes begins with is a row of the table. Assumes nothing.
use mathlib.Core.Path.{◌≡◌, refl, sym, ap, ◌∙◌}
use mathlib.Core.Bool.{Bool, true, false, cond}
use mathlib.Core.List.{List}
use Prim.Native.Nat.{ℕ, ◌+◌, ◌*◌, ◌-◌, ◌≤◌, ◌<◌}
use native.Mathlib.Omega.{arith}
use lib.ListN.{length, drop, take, length-drop}
use lib.Seq.{take_all, drop-drop}
use Rattle.rules.specs.declared.kind.Kind.{Kind}
use Rattle.rules.specs.declared.kind.Kind.TheVariants.{Function, Do, If, Else, Loop, End, Break, Continue, Call, Unknown}
use Rattle.rules.specs.Row.{Row, row_width, row_in, table_of, row_at, kind_at, operands_at, fields_fit_lem}
use Rattle.rules.proofs.Logic.{clash}
use Rattle.rules.proofs.Accepted.{table-length}
use Rattle.rules.proofs.Encode.{row_drop}
use Rattle.rules.proofs.FieldBound.{row-at}
use Rattle.rows.specs.First.{proper_kind, first_kind_lem}

-- `&xs[a..]` is the list from a on
pub rest_all : (a : ℕ) (xs : List ℕ) → take (length xs - a) (drop a xs) ≡ drop a xs
rest_all a xs = take_all (length xs - a) (drop a xs) (omega (arith, length-drop a xs))

-- what is dropped twice is dropped at once
pub drops : (xs : List ℕ) (a c n : ℕ) → a + c ≡ n → drop c (drop a xs) ≡ drop n xs
drops xs a c n p = drop-drop c a xs ∙ ap (λ k. drop k xs) p

-- the bytes xs from row i on
module _ (bs xs : List ℕ) (i : ℕ) (cut : xs ≡ drop (row_width * i) bs) (within : row_width * i ≤ length bs) where
  pub cut-length : row_width * i + length xs ≡ length bs
  cut-length = omega (arith, ap length cut, length-drop (row_width * i) bs)

  -- there is no row i
  pub cut-end : length xs ≤ 5 → i ≡ length (table_of bs)
  cut-end h = omega (arith, cut-length, table-length bs)

  module _ (long : 5 < length xs) where
    pub cut-within : i < length (table_of bs)
    cut-within = omega (arith, cut-length, table-length bs)

    pub cut-row : row_at (table_of bs) i ≡ row_in xs 0
    cut-row = row-at bs i cut-within ∙ row_drop bs (row_width * i) ∙ ap (λ ys. row_in ys 0) (sym cut)

  -- n rows on
  pub cut_on : (n : ℕ) → drop (row_width * n) xs ≡ drop (row_width * (i + n)) bs
  cut_on n =
      let e : row_width * i + row_width * n ≡ row_width * (i + n) = omega arith in
      ap (drop (row_width * n)) cut ∙ drop-drop (row_width * n) (row_width * i) bs ∙ ap (λ k. drop k bs) e

-- a kind of 01
abbrev pub is_known : Kind → Bool
is_known Function = true
is_known Do = true
is_known If = true
is_known Else = true
is_known Loop = true
is_known End = true
is_known Break = true
is_known Continue = true
is_known Call = true
is_known Unknown = false

-- row i is of kind k, and its fields are as that kind uses them
pub record Reads (bs : List ℕ) (i : ℕ) (k : Kind) : Type 0 where
  pub inside : i < length (table_of bs)
  pub kind_is : kind_at (table_of bs) i ≡ k
  pub fits : fields_fit_lem k (operands_at (table_of bs) i) ≡ true

proper-is : (r : Row) (b : Bool) {k : Kind} → fields_fit_lem r.kind r.operands ≡ b → cond b r.kind Unknown ≡ k → is_known k ≡ true
    → (r.kind ≡ k) × (fields_fit_lem k r.operands ≡ true)
proper-is r true e q n = (q, sym (ap (λ x. fields_fit_lem x r.operands) q) ∙ e)
proper-is r false e q n = clash n (ap is_known (sym q))

proper-wrong : (r : Row) (b : Bool) → fields_fit_lem r.kind r.operands ≡ b → cond b r.kind Unknown ≡ Unknown → fields_fit_lem r.kind r.operands ≡ false
unfolding fields_fit_lem
proper-wrong r true e q = ap (λ x. fields_fit_lem x r.operands) q
proper-wrong r false e q = e

module _ (bs xs : List ℕ) (i : ℕ) (cut : xs ≡ drop (row_width * i) bs) (within : row_width * i ≤ length bs) (long : 5 < length xs) where
  pub reads : {k : Kind} → first_kind_lem xs ≡ k → is_known k ≡ true → Reads bs i k
  unfolding proper_kind
  reads {k} q n =
      let e = cut-row bs xs i cut within long in
      let p = proper-is (row_in xs 0) (fields_fit_lem (row_in xs 0).kind (row_in xs 0).operands) refl q n in
      record {
        inside = cut-within bs xs i cut within long;
        kind_is = ap (λ r. r.kind) e ∙ p.0;
        fits = ap (λ (r : Row). fields_fit_lem k r.operands) e ∙ p.1;
      }

  pub reads_wrong : first_kind_lem xs ≡ Unknown → fields_fit_lem (kind_at (table_of bs) i) (operands_at (table_of bs) i) ≡ false
  unfolding proper_kind
  reads_wrong q = ap (λ (r : Row). fields_fit_lem r.kind r.operands) (cut-row bs xs i cut within long)
      ∙ proper-wrong (row_in xs 0) (fields_fit_lem (row_in xs 0).kind (row_in xs 0).operands) refl q
