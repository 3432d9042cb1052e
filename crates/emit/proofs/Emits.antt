-- The buffer after the lines of a row, of some rows, and the answer. Assumes nothing.
use mathlib.Core.Logic.{◌⊎◌, inl, inr}
use mathlib.Core.Path.{◌≡◌, refl, sym, ap, ◌∙◌}
use mathlib.Core.List.{List, [], ◌∷◌, ◌++◌, append_assoc}
use Prim.Native.Nat.{ℕ, zero, suc, ◌+◌, ◌*◌, ◌-◌, ◌/◌, ◌≤◌, ◌<◌}
use native.Mathlib.Numerals.{add-one}
use native.Mathlib.Nat.{add-zero, zero-add, add-suc}
use native.Mathlib.Omega.{arith}
use lib.ListN.{length, get_or, take, drop, length-append, take-append-drop}
use lib.Seq.{length-take-le, take_at, drop_at, drop-drop}
use Rattle.rules.specs.declared.kind.Kind.{Kind}
use Rattle.rules.specs.declared.kind.Kind.TheVariants.{Function, Unknown}
use Rattle.rules.specs.Row.{Table, table_of, kind_at}
use Rattle.rules.specs.Scan.{open_at}
use Rattle.rules.specs.Line.{Line, ret_line, line_bytes, lines_bytes}
use Rattle.rules.specs.Harden.{line_count, line_of, lines_of, harden_to, hardened_bytes}
use Rattle.rules.specs.Calls.{over}
use Rattle.rules.proofs.Logic.{append-nil}
use Rattle.rules.proofs.Accepted.{table-length}
use Rattle.rules.proofs.Harden.{line-mono, line-next, row-lines-length, harden-length}
use Rattle.rules.proofs.Encode.{line-length, lines-bytes-length}
use Rattle.line.specs.declared.Line as Declared
use Rattle.line.specs.Line.{struct, put}
use Rattle.emit.specs.Emit.{row_line, row_bytes, rows_bytes, Makes, Holds, Room, over_at, Emitted}
use Rattle.line.proofs.Puts.{put-more}

-- ---- bytes of lines
bytes-append : (a b : List Line) → lines_bytes (a ++ b) ≡ lines_bytes a ++ lines_bytes b
unfolding lines_bytes
bytes-append [] b = refl
bytes-append (l ∷ a) b = ap (λ x. line_bytes l ++ x) (bytes-append a b) ∙ sym (append_assoc (line_bytes l) (lines_bytes a) (lines_bytes b))

bytes_next : (t : Table) (i : ℕ) → lines_bytes (harden_to t (suc i)) ≡ lines_bytes (harden_to t i) ++ row_bytes t i
unfolding harden_to row_bytes
bytes_next t i = bytes-append (harden_to t i) (lines_of t i)

pub bytes-length : (t : Table) (i : ℕ) → length (lines_bytes (harden_to t i)) ≡ 20 * line_of t i
bytes-length t i = lines-bytes-length (harden_to t i) ∙ ap (λ x. 20 * x) (harden-length t i)

none_list : (ls : List Line) → length ls ≡ 0 → lines_bytes ls ≡ []
unfolding lines_bytes
none_list [] e = refl
none_list (l ∷ ls) e = absurd (omega arith)

one_list : (ls : List Line) (d : Line) → length ls ≡ 1 → lines_bytes ls ≡ line_bytes (get_or ls 0 d)
unfolding lines_bytes
one_list [] d e = absurd (omega arith)
one_list (l ∷ []) d e = append-nil (line_bytes l)
one_list (l ∷ k ∷ ls) d e = absurd (omega arith)

two-list : (ls : List Line) (d : Line) → length ls ≡ 2 → lines_bytes ls ≡ line_bytes (get_or ls 0 d) ++ line_bytes (get_or ls 1 d)
unfolding lines_bytes
two-list [] d e = absurd (omega arith)
two-list (l ∷ []) d e = absurd (omega arith)
two-list (l ∷ k ∷ []) d e = ap (λ x. line_bytes l ++ x) (append-nil (line_bytes k))
two-list (l ∷ k ∷ j ∷ ls) d e = absurd (omega arith)

-- ---- the lines of a row
pub makes : {bs : List ℕ} {i count : ℕ} {k : Kind} (j : Kind) → i < length bs / 6 → k ≡ kind_at (table_of bs) i → k ≡ j → line_count j ≡ count → Makes bs i count
makes j l p q h = record { row = l; are = ap line_count (sym p ∙ q) ∙ h }

-- two kinds make no line
pub makes_none : {bs : List ℕ} {i : ℕ} {k : Kind} → i < length bs / 6 → k ≡ kind_at (table_of bs) i → (k ≡ Function) ⊎ (k ≡ Unknown) → Makes bs i 0
makes_none l p (inl q) = makes Function l p q refl
makes_none l p (inr q) = makes Unknown l p q refl

lines_are : {bs : List ℕ} {i count : ℕ} → Makes bs i count → length (lines_of (table_of bs) i) ≡ count
lines_are {bs} {i} m = row-lines-length (table_of bs) i (open_at (table_of bs) i) (kind_at (table_of bs) i) ∙ m.are

-- line g is the first of row i, in a buffer that begins with line f
module _ {bs out : List ℕ} {i f g : ℕ} (h : Holds bs i f out) (w : g ≡ line_of (table_of bs) i) where
  pub room_for : {count : ℕ} → Makes bs i count → 20 * (g - f) + 20 * count ≤ length out
  room_for m = omega (arith, h.low, h.enough, m.are)

-- bytes put from byte n on
placed : (out done : List ℕ) (n : ℕ) {m : ℕ} → length done ≡ m → (take n out ++ done) ++ drop (n + m) out ≡ over_at n done out
placed out done n {m} e =
    append_assoc (take n out) done (drop (n + m) out) ∙ ap (λ x. take n out ++ (done ++ x)) (sym (drop-drop m n out) ∙ ap (λ x. drop x (drop n out)) (sym e))

put-at : (out : List ℕ) (n : ℕ) (l : Line) → n ≤ length out → put out n (struct l) ≡ (take n out ++ line_bytes l) ++ drop (n + 20) out
put-at out n l h =
    ap (λ x. put x n (struct l)) (sym (take-append-drop n out)) ∙ put-more out (take n out) n l (length-take-le n out h)

pub none_out : {bs out : List ℕ} {i f : ℕ} → Makes bs i 0 → Emitted bs i f out out
unfolding row_bytes
none_out {bs} {out} {i} {f} m =
    let n = 20 * (line_of (table_of bs) i - f) in
    record { is = sym (take-append-drop n out) ∙ ap (λ x. over_at n x out) (sym (none_list (lines_of (table_of bs) i) (lines_are m))) }

pub one_out : {bs out out' : List ℕ} {i f g : ℕ} {l : Declared.Line} → Makes bs i 1 → Holds bs i f out → l ≡ struct (row_line (table_of bs) i 0)
    → g ≡ line_of (table_of bs) i → out' ≡ put out (20 * (g - f)) l → Emitted bs i f out out'
unfolding row_bytes row_line
one_out {bs} {out} {i = i} {f} {g} m h e w q =
    let x = row_line (table_of bs) i 0 in
    let n = 20 * (g - f) in
    record {
      is = q ∙ ap (put out n) e ∙ put-at out n x (omega (arith, room_for h w m)) ∙ placed out (line_bytes x) n (line-length x)
          ∙ ap (λ y. over_at n y out) (sym (one_list (lines_of (table_of bs) i) (ret_line 0 0) (lines_are m)))
          ∙ ap (λ y. over_at (20 * (y - f)) (row_bytes (table_of bs) i) out) w;
    }

pub two_out : {bs out mid out' : List ℕ} {i f g : ℕ} {l k : Declared.Line} → Makes bs i 2 → Holds bs i f out → l ≡ struct (row_line (table_of bs) i 0)
    → k ≡ struct (row_line (table_of bs) i 1) → g ≡ line_of (table_of bs) i → mid ≡ put out (20 * (g - f)) l → out' ≡ put mid (20 * (g - f) + 20) k
    → Emitted bs i f out out'
unfolding row_bytes row_line
two_out {bs} {out} {mid} {i = i} {f} {g} {k = k} m h e e' w q q' =
    let x = row_line (table_of bs) i 0 in
    let y = row_line (table_of bs) i 1 in
    let n = 20 * (g - f) in
    let in-out : n ≤ length out = omega (arith, room_for h w m) in
    let so_far : length (take n out ++ line_bytes x) ≡ n + 20
    = length-append (take n out) (line_bytes x) ∙ omega (arith, length-take-le n out in-out, line-length x) in
    let both : length (line_bytes x ++ line_bytes y) ≡ 40 = length-append (line_bytes x) (line_bytes y) ∙ omega (arith, line-length x, line-length y) in
    let far : n + 20 + 20 ≡ n + 40 = omega arith in
    record {
      is = q' ∙ ap (put mid (n + 20)) e' ∙ ap (λ z. put z (n + 20) (struct y)) (q ∙ ap (put out n) e ∙ put-at out n x in-out)
          ∙ put-more out (take n out ++ line_bytes x) (n + 20) y so_far
          ∙ ap (λ z. ((take n out ++ line_bytes x) ++ line_bytes y) ++ drop z out) far
          ∙ ap (λ z. z ++ drop (n + 40) out) (append_assoc (take n out) (line_bytes x) (line_bytes y))
          ∙ placed out (line_bytes x ++ line_bytes y) n both
          ∙ ap (λ z. over_at n z out) (sym (two-list (lines_of (table_of bs) i) (ret_line 0 0) (lines_are m)))
          ∙ ap (λ z. over_at (20 * (z - f)) (row_bytes (table_of bs) i) out) w;
    }

-- ---- the lines of some rows
pub bytes-split : (t : Table) (i d : ℕ) → lines_bytes (harden_to t (i + d)) ≡ lines_bytes (harden_to t i) ++ rows_bytes t i d
unfolding rows_bytes
bytes-split t i zero = ap (λ x. lines_bytes (harden_to t x)) (add-zero i) ∙ sym (append-nil (lines_bytes (harden_to t i)))
bytes-split t i (suc d) =
    ap (λ x. lines_bytes (harden_to t x)) (add-suc i d) ∙ bytes_next t (i + d) ∙ ap (λ x. x ++ row_bytes t (i + d)) (bytes-split t i d)
    ∙ append_assoc (lines_bytes (harden_to t i)) (rows_bytes t i d) (row_bytes t (i + d))

pub rows-length : (t : Table) (i d : ℕ) → 20 * line_of t i + length (rows_bytes t i d) ≡ 20 * line_of t (i + d)
rows-length t i d =
    omega
    (arith, ap length (bytes-split t i d), length-append (lines_bytes (harden_to t i)) (rows_bytes t i d), bytes-length t i, bytes-length t (i + d))

over-more : (a b held : List ℕ) → a ++ over b (drop (length a) held) ≡ over (a ++ b) held
over-more a b held = rw (drop-drop (length b) (length a) held, length-append a b, append_assoc a b (drop (length a + length b) held))

pub record Emitting (bs : List ℕ) (i d : ℕ) (held out : List ℕ) (k : ℕ) : Type 0 where
  pub le : k ≤ d
  pub room : Room bs i d held
  pub same : length out ≡ length held
  pub is : out ≡ over (rows_bytes (table_of bs) i k) held

pub emit-start : {bs held : List ℕ} {i d : ℕ} → Room bs i d held → Emitting bs i d held held 0
unfolding rows_bytes
emit-start r = record { le = omega arith; room = r; same = refl; is = refl }

-- row i + k
module _ {bs held out : List ℕ} {i d k f : ℕ} (e : Emitting bs i d held out k) (l : k < d) (p : f ≡ line_of (table_of bs) i) where
  low : f ≤ line_of (table_of bs) (i + k)
  low = omega (arith, line-mono (table_of bs) {i = i} (i + k) (omega arith))

  pub emit-holds : Holds bs (i + k) f out
  emit-holds =
      record { low = low; enough = omega (arith, e.same, e.room.enough, line-next (table_of bs) (i + k) (i + d) (omega arith)) }

  at_is : 20 * (line_of (table_of bs) (i + k) - f) ≡ length (rows_bytes (table_of bs) i k)
  at_is = omega (arith, low, rows-length (table_of bs) i k)

  pub emit_more : {out' : List ℕ} → Emitted bs (i + k) f out out' → length out' ≡ length out → Emitting bs i d held out' (k + 1)
  unfolding rows_bytes
  emit_more w n =
      let a = rows_bytes (table_of bs) i k in
      let b = row_bytes (table_of bs) (i + k) in
      record {
        le = omega arith;
        room = e.room;
        same = n ∙ e.same;
        is = w.is ∙ rw (at_is, e.is)
            (ap (λ x. x ++ over b (drop (length a) (over a held))) (take_at a (drop (length a) held) (length a) refl)
            ∙ ap (λ x. a ++ over b x) (drop_at a (drop (length a) held) (length a) refl)
            ∙ over-more a b held
            ∙ ap (λ x. over (rows_bytes (table_of bs) i x) held) (sym (add-one k)));
      }

pub emit-all : {bs held out : List ℕ} {i d k : ℕ} → Emitting bs i d held out k → d ≤ k → out ≡ over (rows_bytes (table_of bs) i d) held
emit-all {bs} {held} {i = i} {d} {k} e h = let x : k ≡ d = omega (arith, e.le) in e.is ∙ ap (λ y. over (rows_bytes (table_of bs) i y) held) x

pub all-bytes : (bs : List ℕ) → rows_bytes (table_of bs) 0 (length bs / 6) ≡ hardened_bytes bs
unfolding hardened_bytes harden_to lines_bytes
all-bytes bs =
    sym (bytes-split (table_of bs) 0 (length bs / 6)) ∙ ap (λ x. lines_bytes (harden_to (table_of bs) x)) (zero-add (length bs / 6) ∙ sym (table-length bs))

pub answer-length : (bs : List ℕ) → length (hardened_bytes bs) ≡ 20 * line_of (table_of bs) (length bs / 6)
unfolding hardened_bytes
answer-length bs = bytes-length (table_of bs) (length (table_of bs)) ∙ ap (λ x. 20 * line_of (table_of bs) x) (table-length bs)
