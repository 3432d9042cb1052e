-- Reading the lines of an accepted table back gives the table: row after row, the lines read so far give the rows so far.
use mathlib.Core.Path.{◌≡◌, refl, sym, ap, ◌∙◌, subst}
use mathlib.Core.Bool.{Bool, true, false}
use mathlib.Core.List.{List, [], ◌∷◌, ◌++◌, append_assoc, append-nil}
use Prim.Native.Nat.{ℕ, zero, suc, ◌+◌, ◌≤◌, ◌<◌}
use native.Mathlib.Nat.{le_refl, add-zero}
use native.Mathlib.Omega.{arith}
use lib.ListN.{length, take}
use lib.Seq.{take-suc, take-length}
use Rattle.rules.specs.declared.kind.Kind.{Kind}
use Rattle.rules.specs.declared.kind.Kind.TheVariants.{Function, Do, If, Else, Loop, End, Break, Continue, Call, Unknown}
use Rattle.rules.specs.Row.{Row, Table, no_row, row_at, kind_at, fields_fit_lem}
use Rattle.rules.specs.Scan.{Open, shape_of, open_after_lem, regions, open_at, part_of, has_else}
use Rattle.rules.specs.Check.{is_outside, misplaced_in}
use Rattle.rules.specs.Line.{line_at, is_ret}
use Rattle.rules.specs.Harden.{line_count, line_of, row_lines, harden}
use Rattle.rules.specs.ReadBack.{row_for, begins, function_row_if, unread_to, unread}
use Rattle.rules.proofs.Logic.{clash}
use Rattle.rules.proofs.Accepted.{Proper}
use Rattle.rules.proofs.Scan.{open_next}
use Rattle.rules.proofs.Harden.{line-suc, line-at, harden-length}
use Rattle.rules.proofs.Function.{is_body_lem, Formed, formed, placed-in, opens-function, not-unknown}
use Rattle.rules.proofs.Place.{test-no-ret, end-ret}
use Rattle.rules.proofs.ReadRow.{none-used, fits_in, row_is, row-for}

-- ---- the rows whose last line is a ret
ends_function_lem : Kind → List Open → Bool
ends_function_lem Function fs = false
ends_function_lem Do fs = false
ends_function_lem If fs = false
ends_function_lem Else fs = false
ends_function_lem Loop fs = false
ends_function_lem End fs = is_body_lem (part_of fs)
ends_function_lem Break fs = false
ends_function_lem Continue fs = false
ends_function_lem Call fs = false
ends_function_lem Unknown fs = false

-- ---- one row, inside a function
record RowRead (t : Table) (i : ℕ) (k : Kind) (fs : List Open) : Type 0 where
  read : unread_to (harden t) (line_of t (suc i)) ≡ unread_to (harden t) (line_of t i) ++ (function_row_if (begins (harden t) (line_of t i)) ++ (row_at t i ∷ []))
  begins_next : begins (harden t) (line_of t (suc i)) ≡ ends_function_lem k fs

module _ (t : Table) (ok : Proper t) (i : ℕ) (f : Open) (fs : List Open) (l : i < length t) (st : open_at t i ≡ f ∷ fs) where
  line-here : (k : Kind) (ph : ℕ) → kind_at t i ≡ k → ph < line_count k → line_at (harden t) (line_of t i + ph) ≡ line_at (row_lines t i (f ∷ fs) k) ph
  line-here k ph e h =
      line-at t i ph l (rw e h) ∙ ap (λ s. line_at (row_lines t i s (kind_at t i)) ph) st ∙ ap (λ x. line_at (row_lines t i (f ∷ fs) x) ph) e

  first-here : (k : Kind) → kind_at t i ≡ k → 0 < line_count k → line_at (harden t) (line_of t i) ≡ line_at (row_lines t i (f ∷ fs) k) 0
  first-here k e h = ap (line_at (harden t)) (sym (add-zero (line_of t i))) ∙ line-here k 0 e h

  one_line : (k : Kind) → kind_at t i ≡ k → misplaced_in k (f ∷ fs) ≡ false → line_count k ≡ 1 → is_ret (line_at (row_lines t i (f ∷ fs) k) 0) ≡ ends_function_lem k (f ∷ fs)
      → RowRead t i k (f ∷ fs)
  unfolding unread_to
  one_line k e p n b =
      let s : line_of t (suc i) ≡ suc (line_of t i) = omega (arith, line-suc t i e) in
      let x = first-here k e (omega arith) in
      record {
        read = rw (s, x) (ap (λ y. unread_to (harden t) (line_of t i) ++ (function_row_if (begins (harden t) (line_of t i)) ++ y)) (row-for t ok i f fs l st k e p));
        begins_next = rw (s, x) b;
      }

  two_lines : (k : Kind) → kind_at t i ≡ k → misplaced_in k (f ∷ fs) ≡ false → line_count k ≡ 2 → is_ret (line_at (row_lines t i (f ∷ fs) k) 0) ≡ false
      → is_ret (line_at (row_lines t i (f ∷ fs) k) 1) ≡ ends_function_lem k (f ∷ fs) → row_for (harden t) (suc (line_of t i)) (line_at (row_lines t i (f ∷ fs) k) 1) ≡ []
      → RowRead t i k (f ∷ fs)
  unfolding unread_to
  two_lines k e p n b c z =
      let s : line_of t (suc i) ≡ suc (suc (line_of t i)) = omega (arith, line-suc t i e) in
      let x = first-here k e (omega arith) in
      let m : suc (line_of t i) ≡ line_of t i + 1 = omega arith in
      let y : line_at (harden t) (suc (line_of t i)) ≡ line_at (row_lines t i (f ∷ fs) k) 1 = ap (line_at (harden t)) m ∙ line-here k 1 e (omega arith) in
      record {
        read = rw (s, y, x, b, z, row-for t ok i f fs l st k e p) (append-nil _);
        begins_next = rw (s, y) c;
      }

  row_read : (k : Kind) → kind_at t i ≡ k → misplaced_in k (f ∷ fs) ≡ false → RowRead t i k (f ∷ fs)
  unfolding row_lines row_for misplaced_in ends_function_lem
  row_read Function e p = clash refl p
  row_read Do e p = two_lines Do e p refl refl refl refl
  row_read If e p = one_line If e p refl (test-no-ret t i (f ∷ fs) (has_else t i))
  row_read Else e p = one_line Else e p refl refl
  row_read Loop e p = one_line Loop e p refl (test-no-ret t i (f ∷ fs) false)
  row_read End e p = one_line End e p refl (end-ret t i (f ∷ fs) f.part)
  row_read Break e p = one_line Break e p refl refl
  row_read Continue e p = one_line Continue e p refl refl
  row_read Call e p = two_lines Call e p refl refl refl refl
  row_read Unknown e p = absurd (not-unknown t ok i l e)

-- ---- all rows. The row that opens a function has no line: it is read with the first line inside
due : List Open → Bool → List Row
due [] b = []
due (f ∷ fs) b = function_row_if b

record ReadTo (t : Table) (i : ℕ) (fs : List Open) : Type 0 where
  rows : unread_to (harden t) (line_of t i) ++ due fs (begins (harden t) (line_of t i)) ≡ take i t
  outside_begins : fs ≡ [] → begins (harden t) (line_of t i) ≡ true

-- a row inside a function ends it exactly if no part is open after it
ends-outside : (t : Table) (i : ℕ) (k : Kind) (f : Open) (fs : List Open) → misplaced_in k (f ∷ fs) ≡ false → Formed t (f ∷ fs)
    → is_outside (open_after_lem (shape_of k) i (regions t i) (f ∷ fs)) ≡ ends_function_lem k (f ∷ fs)
unfolding ends_function_lem
ends-outside t i Function f fs p g = refl
ends-outside t i Do f fs p g = refl
ends-outside t i If f fs p g = refl
ends-outside t i Else f fs p g = refl
ends-outside t i Loop f fs p g = refl
ends-outside t i End f [] p g = sym (ap is_body_lem g.0)
ends-outside t i End f (h ∷ hs) p g = sym g.0
ends-outside t i Break f fs p g = refl
ends-outside t i Continue f fs p g = refl
ends-outside t i Call f fs p g = refl
ends-outside t i Unknown f fs p g = refl

due-none : (fs : List Open) (b : Bool) → is_outside fs ≡ b → due fs b ≡ []
unfolding due
due-none [] b e = refl
due-none (f ∷ fs) true e = clash {b = false} e refl
due-none (f ∷ fs) false e = refl

read-function : (t : Table) → Proper t → (i : ℕ) → i < length t → open_at t i ≡ [] → ReadTo t i [] → ReadTo t (suc i) (open_at t (suc i))
unfolding due fields_fit_lem
read-function t ok i l q x =
    let e = opens-function t ok i l q in
    let s : line_of t (suc i) ≡ line_of t i = omega (arith, line-suc t i e) in
    let n = open_next t i e q in
    record {
      rows = rw (n, s, x.outside_begins refl, take-suc t i no_row l)
          (ap (λ y. unread_to (harden t) (line_of t i) ++ y) (row_is t i e (none-used _ (fits_in t ok i l e)))
          ∙ ap (λ y. y ++ (row_at t i ∷ [])) (sym (append-nil (unread_to (harden t) (line_of t i))) ∙ x.rows));
      outside_begins = λ y. clash {b = true} refl (cc n);
    }

read-row : (t : Table) → Proper t → (i : ℕ) → i < length t → (f : Open) (fs : List Open) → open_at t i ≡ f ∷ fs → ReadTo t i (f ∷ fs) → ReadTo t (suc i) (open_at t (suc i))
unfolding due
read-row t ok i l f fs q x =
    let k = kind_at t i in
    let p : misplaced_in k (f ∷ fs) ≡ false = placed-in t ok i l refl q in
    let r = row_read t ok i f fs l q k refl p in
    let m : is_outside (open_at t (suc i)) ≡ begins (harden t) (line_of t (suc i))
    = ap is_outside (open_next t i refl q) ∙ ends-outside t i k f fs p (subst (Formed t) q (formed t ok i (omega arith))) ∙ sym r.begins_next in
    record {
      rows = rw (due-none (open_at t (suc i)) (begins (harden t) (line_of t (suc i))) m)
          (append-nil (unread_to (harden t) (line_of t (suc i))) ∙ r.read
          ∙ sym (append_assoc (unread_to (harden t) (line_of t i)) (function_row_if (begins (harden t) (line_of t i))) (row_at t i ∷ []))
          ∙ ap (λ y. y ++ (row_at t i ∷ [])) x.rows ∙ sym (take-suc t i no_row l));
      outside_begins = λ y. sym m ∙ ap is_outside y;
    }

read_next : (t : Table) → Proper t → (i : ℕ) → i < length t → (fs : List Open) → open_at t i ≡ fs → ReadTo t i fs → ReadTo t (suc i) (open_at t (suc i))
read_next t ok i l [] q x = read-function t ok i l q x
read_next t ok i l (f ∷ fs) q x = read-row t ok i l f fs q x

read-to : (t : Table) → Proper t → (i : ℕ) → i ≤ length t → ReadTo t i (open_at t i)
unfolding open_at line_of unread_to due
read-to t ok zero h = record { rows = refl; outside_begins = λ x. refl }
read-to t ok (suc i) h = read_next t ok i h (open_at t i) refl (read-to t ok i (omega arith))

pub unread-harden : (t : Table) → Proper t → unread (harden t) ≡ t
unfolding due
unread-harden t ok =
    let x : ReadTo t (length t) [] = subst (ReadTo t (length t)) ok.closed (read-to t ok (length t) (le_refl _)) in
    ap (unread_to (harden t)) (harden-length t (length t)) ∙ sym (append-nil (unread_to (harden t) (line_of t (length t)))) ∙ x.rows ∙ take-length t
