-- A row of each kind, as the pass meets it: why it is refused, or where the pass stands after it. Assumes nothing.
use mathlib.Core.Path.{◌≡◌, refl, sym, ap, ◌∙◌}
use mathlib.Core.Bool.{Bool, true, false, ◌&&◌}
use mathlib.Core.List.{List}
use Prim.Native.Nat.{ℕ, suc, ◌*◌, ◌<◌}
use native.Mathlib.Omega.{arith}
use lib.Dec.{leb}
use lib.ListN.{length, drop, length-drop}
use Rattle.rules.specs.declared.kind.Kind.{Kind}
use Rattle.rules.specs.declared.kind.Kind.TheVariants.{Unknown}
use Rattle.rules.specs.declared.refusal.Refusal.TheVariants.{WrongField, Misplaced, TooManyParts}
use Rattle.rules.specs.Verdict.{Refused}
use Rattle.rules.specs.Limits.{max_functions}
use Rattle.rules.specs.Row.{row_width, table_of}
use Rattle.rules.specs.Scan.{Open, Shape, shape_of, regions_after, open_after_lem, regions, open_at, is_function_lem, functions}
use Rattle.rules.specs.Check.{misplaced_in, one_too_many, row_verdict}
use Rattle.rules.proofs.Scan.{open_next, regions-next}
use Rattle.rows.proofs.Rows.{is_known, Reads, reads, reads_wrong}
use Rattle.walk.proofs.Verdicts.{row-wrong, row-misplaced, row-parts, row-good}
use Rattle.walk.proofs.Stepping.{and_none, same-functions}
use Rattle.scan.specs.declared.open.Standing.{Standing}
use Rattle.scan.specs.Standing.{Parts, Stands}
use Rattle.scan.specs.Next.{At}
use Rattle.scan.proofs.Parts.{parts_at}

-- ---- the row
module _ {k : Kind} (bs : List ℕ) (i : ℕ) (a : At k bs i) where
  rest-long : 5 < length (drop (row_width * i) bs)
  rest-long = omega (arith, a.within, length-drop (row_width * i) bs)

  pub read : is_known k ≡ true → Reads bs i k
  read = reads bs (drop (row_width * i) bs) i refl (omega (arith, a.within)) rest-long a.kind_is

  pub wrong_row : k ≡ Unknown → row_verdict (table_of bs) i ≡ Refused WrongField
  wrong_row q = row-wrong (table_of bs) i (reads_wrong bs (drop (row_width * i) bs) i refl (omega (arith, a.within)) rest-long (a.kind_is ∙ q))

-- what a kind of 01 that opens no function does and needs
pub record Does (k : Kind) (shape : Shape) (misplaced : List Open → Bool) (many : ℕ → List Open → Bool) : Type 0 where
  pub known : is_known k ≡ true
  pub plain : is_function_lem k ≡ false
  pub shaped : shape_of k ≡ shape
  pub placed : (fs : List Open) → misplaced_in k fs ≡ misplaced fs
  pub filled : (g : ℕ) (fs : List Open) → one_too_many k g fs ≡ many g fs

-- a row without a fault
module _ {k : Kind} {bs : List ℕ} {i : ℕ} {s s' : Standing} {ps ps' : List ℕ} (w : Stands bs i s ps) (r : Reads bs i k) where
  pub row_on : misplaced_in k (open_at (table_of bs) i) ≡ false → is_function_lem k && leb max_functions (functions (table_of bs) i) ≡ false
      → one_too_many k (regions (table_of bs) i) (open_at (table_of bs) i) ≡ false → functions (table_of bs) (suc i) ≡ s'.count
      → Parts (open_after_lem (shape_of k) i (regions (table_of bs) i) (open_at (table_of bs) i)) (regions_after (shape_of k) (regions (table_of bs) i)) s' ps'
      → Stands bs (suc i) s' ps'
  row_on m f x n v = record {
    good = row-good (table_of bs) i w.good r.kind_is refl r.fits m f x;
    parts = parts_at v (sym (open_next (table_of bs) i r.kind_is refl)) (sym (regions-next (table_of bs) i r.kind_is));
    count_is = n;
  }

module _ {k : Kind} {shape : Shape} {misplaced : List Open → Bool} {many : ℕ → List Open → Bool} (does : Does k shape misplaced many)
    {bs : List ℕ} {i : ℕ} (a : At k bs i) where
  pub row_out : misplaced (open_at (table_of bs) i) ≡ true → row_verdict (table_of bs) i ≡ Refused Misplaced
  row_out m =
      let r = read bs i a does.known in
      row-misplaced (table_of bs) i r.kind_is refl r.fits (does.placed _ ∙ m)

  pub row-over : misplaced (open_at (table_of bs) i) ≡ false → many (regions (table_of bs) i) (open_at (table_of bs) i) ≡ true
      → row_verdict (table_of bs) i ≡ Refused TooManyParts
  row-over m x =
      let r = read bs i a does.known in
      row-parts (table_of bs) i r.kind_is refl r.fits (does.placed _ ∙ m) (and_none (leb max_functions (functions (table_of bs) i)) does.plain)
      (does.filled _ _ ∙ x)

  pub row-does : {s s' : Standing} {ps ps' : List ℕ} → Stands bs i s ps → misplaced (open_at (table_of bs) i) ≡ false
      → many (regions (table_of bs) i) (open_at (table_of bs) i) ≡ false → s.count ≡ s'.count
      → Parts (open_after_lem shape i (regions (table_of bs) i) (open_at (table_of bs) i)) (regions_after shape (regions (table_of bs) i)) s' ps'
      → Stands bs (suc i) s' ps'
  row-does w m x n v =
      let r = read bs i a does.known in
      row_on w r (does.placed _ ∙ m) (and_none (leb max_functions (functions (table_of bs) i)) does.plain) (does.filled _ _ ∙ x)
      (same-functions bs i r.kind_is does.plain ∙ w.count_is ∙ n)
      (parts_at v (ap (λ z. open_after_lem z i (regions (table_of bs) i) (open_at (table_of bs) i)) (sym does.shaped))
      (ap (λ z. regions_after z (regions (table_of bs) i)) (sym does.shaped)))
