-- Bytes, rows and lines: what the bytes of a table or of lines spell is that table or those lines. Assumes nothing.
use mathlib.Core.Path.{◌≡◌, refl, sym, ap, ◌∙◌}
use mathlib.Core.Bool.{Bool, true, false, cond}
use mathlib.Core.List.{List, [], ◌∷◌, ◌++◌}
use Prim.Native.Nat.{ℕ, zero, suc, ◌+◌, ◌*◌, ◌/◌, ◌%◌, ◌<◌}
use native.Mathlib.Nat.{add-zero, add_assoc}
use native.Mathlib.Omega.{arith}
use lib.ListN.{length, drop, length-append}
use lib.Seq.{get_or-drop, drop-append-add}
use lib.Dec.{eqb}
use borrow.Author.Tests.{eqb-true, eq-eqb}
use Rattle.rules.specs.declared.kind.Kind.{Kind}
use Rattle.rules.specs.declared.kind.Kind.TheVariants.{Function, Do, If, Else, Loop, End, Break, Continue, Call, Unknown}
use Rattle.rules.specs.Bytes.{AreBytes, same}
use Rattle.rules.specs.Row.{Row, Table, kind_of, kind_byte, row_in, rows_from, table_of, row_bytes, table_bytes, row_width, kind_at}
use Rattle.rules.specs.Check.{no_whole_rows}
use Rattle.rules.specs.Line.{Line, do_line, tick_line, test_line, leave_line, out_line, call_line, back_line, ret_line, line_width, line_bytes, lines_bytes, line_in_lem, lines_from, lines_in}
use Rattle.std.proofs.Math.Nat.{mod-add-div}
use Rattle.std.proofs.lemmas.Bool.{and_from}
use Rattle.rules.proofs.Logic.{clash, and_left, and_right}
use Rattle.rules.proofs.Accepted.{table-length, whole-rows}

-- ---- the test that two lists are the same
pub same_refl : (xs : List ℕ) → same xs xs ≡ true
unfolding same
same_refl [] = refl
same_refl (x ∷ xs) = and_from _ _ (eq-eqb x x refl) (same_refl xs)

pub same-is : (xs ys : List ℕ) → same xs ys ≡ true → xs ≡ ys
unfolding same
same-is [] [] e = refl
same-is [] (y ∷ ys) e = clash e refl
same-is (x ∷ xs) [] e = clash e refl
same-is (x ∷ xs) (y ∷ ys) e =
    ap (λ z. z ∷ xs) (eqb-true x y (and_left _ _ e)) ∙ ap (λ zs. y ∷ zs) (same-is xs ys (and_right (eqb x y) _ e))

-- ---- the two bytes of a word
pub word_low : (a b : ℕ) → a < 256 → (a + 256 * b) % 256 ≡ a
word_low a b h = omega arith

pub word-high : (a b : ℕ) → a < 256 → (a + 256 * b) / 256 ≡ b
word-high a b h = omega arith

-- ---- kinds
kind-of : (k : Kind) → kind_of (kind_byte k) ≡ k
unfolding kind_of kind_byte
kind-of Function = refl
kind-of Do = refl
kind-of If = refl
kind-of Else = refl
kind-of Loop = refl
kind-of End = refl
kind-of Break = refl
kind-of Continue = refl
kind-of Call = refl
kind-of Unknown = refl

abbrev Spells : ℕ → Kind → Type 0
Spells b k = (k ≡ Unknown → ⊥) → kind_byte k ≡ b

spells-or : (b c : ℕ) (k e : Kind) → kind_byte k ≡ c → Spells b e → Spells b (cond (eqb b c) k e)
spells-or b c k e q s = by (eqb b c) refl
  where
    by : (v : Bool) → eqb b c ≡ v → Spells b (cond v k e)
    by true h = λ n. q ∙ sym (eqb-true b c h)
    by false h = s

pub kind-byte : (b : ℕ) → Spells b (kind_of b)
unfolding kind_of kind_byte
kind-byte b =
    spells-or b 1 Function _ refl
    (spells-or b 2 Do _ refl
    (spells-or b 3 If _ refl
    (spells-or b 4 Else _ refl
    (spells-or b 5 Loop _ refl
    (spells-or b 6 End _ refl
    (spells-or b 7 Break _ refl (spells-or b 8 Continue _ refl (spells-or b 9 Call Unknown refl (λ n. absurd (n refl))))))))))

-- ---- rows
pub row_drop : (bs : List ℕ) (k : ℕ) → row_in bs k ≡ row_in (drop k bs) 0
unfolding row_in
row_drop bs k = simp (get_or-drop, add_assoc, add-zero)

rows-shift : (a b : List ℕ) (i n : ℕ) → length a ≡ row_width → rows_from (a ++ b) (suc i) n ≡ rows_from b i n
unfolding rows_from
rows-shift a b i zero h = refl
rows-shift a b i (suc n) h =
    ap (λ r. r ∷ rows_from (a ++ b) (suc (suc i)) n) (row-shift a b i h) ∙ ap (λ rs. row_in b (row_width * i) ∷ rs) (rows-shift a b (suc i) n h)
  where
    row-shift : (a b : List ℕ) (i : ℕ) → length a ≡ row_width → row_in (a ++ b) (row_width * suc i) ≡ row_in b (row_width * i)
    row-shift a b i h =
        let q : row_width * suc i ≡ length a + row_width * i = omega arith in
        row_drop (a ++ b) _ ∙ ap (λ k. row_in (drop k (a ++ b)) 0) q ∙ ap (λ x. row_in x 0) (drop-append-add a b (row_width * i)) ∙ sym (row_drop b _)

row-length : (r : Row) → length (row_bytes r) ≡ row_width
unfolding row_bytes
row-length r = refl

pub table-bytes-length : (t : Table) → length (table_bytes t) ≡ row_width * length t
unfolding table_bytes
table-bytes-length [] = refl
table-bytes-length (r ∷ t) = length-append (row_bytes r) (table_bytes t) ∙ omega (arith, row-length r, table-bytes-length t)

row_of : (r : Row) (bs : List ℕ) → row_in (row_bytes r ++ bs) 0 ≡ r
unfolding row_in row_bytes
row_of r bs = rw (kind-of r.kind, mod-add-div r.operands.n 256)

rows_of : (t : Table) → rows_from (table_bytes t) 0 (length t) ≡ t
unfolding rows_from table_bytes
rows_of [] = refl
rows_of (r ∷ t) =
    ap (λ x. x ∷ rows_from (row_bytes r ++ table_bytes t) 1 (length t)) (row_of r (table_bytes t))
    ∙ ap (λ rs. r ∷ rs) (rows-shift (row_bytes r) (table_bytes t) 0 (length t) (row-length r) ∙ rows_of t)

pub table-of : (t : Table) → table_of (table_bytes t) ≡ t
unfolding table_of
table-of t =
    let n : length (table_bytes t) / row_width ≡ length t = omega (arith, table-bytes-length t) in
    ap (rows_from (table_bytes t) 0) n ∙ rows_of t

-- ---- lines
line-drop : (bs : List ℕ) (k : ℕ) → line_in_lem bs k ≡ line_in_lem (drop k bs) 0
unfolding line_in_lem
line-drop bs k = simp (get_or-drop, add_assoc, add-zero)

lines-shift : (a b : List ℕ) (i n : ℕ) → length a ≡ line_width → lines_from (a ++ b) (suc i) n ≡ lines_from b i n
unfolding lines_from
lines-shift a b i zero h = refl
lines-shift a b i (suc n) h =
    ap (λ l. l ∷ lines_from (a ++ b) (suc (suc i)) n) (line-shift a b i h) ∙ ap (λ ls. line_in_lem b (line_width * i) ∷ ls) (lines-shift a b (suc i) n h)
  where
    line-shift : (a b : List ℕ) (i : ℕ) → length a ≡ line_width → line_in_lem (a ++ b) (line_width * suc i) ≡ line_in_lem b (line_width * i)
    line-shift a b i h =
        let q : line_width * suc i ≡ length a + line_width * i = omega arith in
        line-drop (a ++ b) _ ∙ ap (λ k. line_in_lem (drop k (a ++ b)) 0) q ∙ ap (λ x. line_in_lem x 0) (drop-append-add a b (line_width * i)) ∙ sym (line-drop b _)

pub line-length : (l : Line) → length (line_bytes l) ≡ line_width
unfolding line_bytes
line-length (do_line o e) = refl
line-length (tick_line r e a) = refl
line-length (test_line o r s t e a b c go) = refl
line-length (leave_line r s e a b go) = refl
line-length (out_line r s t e a go) = refl
line-length (call_line r e a b go) = refl
line-length (back_line r e a b) = refl
line-length (ret_line e a) = refl

pub lines-bytes-length : (ls : List Line) → length (lines_bytes ls) ≡ line_width * length ls
unfolding lines_bytes
lines-bytes-length [] = refl
lines-bytes-length (l ∷ ls) = length-append (line_bytes l) (lines_bytes ls) ∙ omega (arith, line-length l, lines-bytes-length ls)

line_in : (l : Line) (bs : List ℕ) → line_in_lem (line_bytes l ++ bs) 0 ≡ l
unfolding line_in_lem line_bytes
line_in (do_line o e) bs = simp mod-add-div
line_in (tick_line r e a) bs = simp mod-add-div
line_in (test_line o r s t e a b c go) bs = simp mod-add-div
line_in (leave_line r s e a b go) bs = simp mod-add-div
line_in (out_line r s t e a go) bs = simp mod-add-div
line_in (call_line r e a b go) bs = simp mod-add-div
line_in (back_line r e a b) bs = simp mod-add-div
line_in (ret_line e a) bs = simp mod-add-div

lines-from : (ls : List Line) → lines_from (lines_bytes ls) 0 (length ls) ≡ ls
unfolding lines_from lines_bytes
lines-from [] = refl
lines-from (l ∷ ls) =
    ap (λ x. x ∷ lines_from (line_bytes l ++ lines_bytes ls) 1 (length ls)) (line_in l (lines_bytes ls))
    ∙ ap (λ xs. l ∷ xs) (lines-shift (line_bytes l) (lines_bytes ls) 0 (length ls) (line-length l) ∙ lines-from ls)

pub lines-in : (ls : List Line) → lines_in (lines_bytes ls) ≡ ls
unfolding lines_in
lines-in ls =
    let n : length (lines_bytes ls) / line_width ≡ length ls = omega (arith, lines-bytes-length ls) in
    ap (lines_from (lines_bytes ls) 0) n ∙ lines-from ls

-- ---- the bytes of the rows that bytes spell
row-bytes : (a b c d e f : ℕ) (bs : List ℕ) → e < 256 → (kind_of a ≡ Unknown → ⊥)
    → row_bytes (row_in (a ∷ b ∷ c ∷ d ∷ e ∷ f ∷ bs) 0) ≡ a ∷ b ∷ c ∷ d ∷ e ∷ f ∷ []
unfolding row_bytes row_in
row-bytes a b c d e f bs h k = rw (kind-byte a k, word_low e f h, word-high e f h)

bytes-from : (n : ℕ) (bs : List ℕ) → length bs ≡ row_width * n → AreBytes bs → ((i : ℕ) → i < n → kind_at (rows_from bs 0 n) i ≡ Unknown → ⊥)
    → table_bytes (rows_from bs 0 n) ≡ bs
unfolding table_bytes rows_from row_in
bytes-from zero [] h w k = refl
bytes-from zero (a ∷ bs) h w k = absurd (omega arith)
bytes-from (suc n) [] h w k = absurd (omega arith)
bytes-from (suc n) (a ∷ []) h w k = absurd (omega arith)
bytes-from (suc n) (a ∷ b ∷ []) h w k = absurd (omega arith)
bytes-from (suc n) (a ∷ b ∷ c ∷ []) h w k = absurd (omega arith)
bytes-from (suc n) (a ∷ b ∷ c ∷ d ∷ []) h w k = absurd (omega arith)
bytes-from (suc n) (a ∷ b ∷ c ∷ d ∷ e ∷ []) h w k = absurd (omega arith)
bytes-from (suc n) (a ∷ b ∷ c ∷ d ∷ e ∷ f ∷ bs) h w k =
    let s : rows_from (a ∷ b ∷ c ∷ d ∷ e ∷ f ∷ bs) 1 n ≡ rows_from bs 0 n = rows-shift (a ∷ b ∷ c ∷ d ∷ e ∷ f ∷ []) bs 0 n refl in
    ap (λ rs. row_bytes (row_in (a ∷ b ∷ c ∷ d ∷ e ∷ f ∷ bs) 0) ++ table_bytes rs) s
    ∙ ap (λ x. x ++ table_bytes (rows_from bs 0 n)) (row-bytes a b c d e f bs (w.each 4) (k 0 (omega arith)))
    ∙ ap (λ x. a ∷ b ∷ c ∷ d ∷ e ∷ f ∷ x)
    (bytes-from n bs (omega arith) (record { each = λ i. w.each (suc (suc (suc (suc (suc (suc i)))))) })
    (λ i l q. k (suc i) (omega arith) (ap (λ rs. kind_at rs i) s ∙ q)))

pub bytes_of : (bs : List ℕ) → AreBytes bs → no_whole_rows bs ≡ false → ((i : ℕ) → i < length (table_of bs) → kind_at (table_of bs) i ≡ Unknown → ⊥)
    → table_bytes (table_of bs) ≡ bs
unfolding table_of
bytes_of bs w h k =
    bytes-from (length bs / row_width) bs (sym (whole-rows bs h).1) w (λ i l. k i (omega (arith, table-length bs)))
