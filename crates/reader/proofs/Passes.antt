-- Reading the rows line by line. Assumes nothing.
use mathlib.Core.Path.{◌≡◌, refl, sym, ap, ◌∙◌, subst}
use mathlib.Core.Bool.{Bool, true, false}
use mathlib.Core.List.{List, [], ◌∷◌, ◌++◌, append_assoc}
use Prim.Native.Nat.{ℕ, zero, suc, ◌+◌, ◌*◌, ◌-◌, ◌/◌, ◌≤◌, ◌<◌}
use native.Mathlib.Omega.{arith}
use lib.ListN.{length, length-append}
use Rattle.rules.specs.Row.{Table, row_bytes, table_bytes}
use Rattle.rules.specs.Line.{Line, do_line, tick_line, test_line, leave_line, out_line, call_line, back_line, ret_line, line_width, lines_in, line_at, is_ret}
use Rattle.rules.specs.ReadBack.{row_for, begins, function_row_if, unread_to, unread, source_bytes}
use Rattle.rules.proofs.Logic.{append-nil, clash}
use Rattle.rows.specs.declared.row.Row as Row
use Rattle.rows.specs.Row.{Added, six}
use Rattle.rows.proofs.Stores.{added_none, added-both, added-length, added-front}
use Rattle.line.specs.declared.kind.LineKind.TheVariants.{Tick}
use Rattle.line.specs.Read.{line_kind_at, struct_at, as_line, ends_function_lem}
use Rattle.line.proofs.Decode.{length-lines, line_is}
use Rattle.reader.specs.Functions.{Short}
use Rattle.reader.specs.Row.{copied_row}
use Rattle.reader.specs.Candidate.{Here, Reading, Pair, DosRead, Fronted}
use Rattle.reader.proofs.LineRows.{do-row, begins_next, no-function-row}

-- ---- bytes of rows
bytes-append : (s t : Table) → table_bytes (s ++ t) ≡ table_bytes s ++ table_bytes t
unfolding table_bytes
bytes-append [] t = refl
bytes-append (r ∷ s) t = ap (λ x. row_bytes r ++ x) (bytes-append s t) ∙ sym (append_assoc (row_bytes r) (table_bytes s) (table_bytes t))

one_row : (t : Table) → length t ≤ 1 → length (table_bytes t) ≤ 6
unfolding table_bytes row_bytes
one_row [] h = omega arith
one_row (r ∷ []) h = omega arith
one_row (r ∷ s ∷ t) h = absurd (let z : ⊥ = omega arith in z)

line-rows : (ls : List Line) (k : ℕ) (l : Line) → length (row_for ls k l) ≤ 1
unfolding row_for
line-rows ls k (do_line o e) = omega arith
line-rows ls k (tick_line r e a) = omega arith
line-rows ls k (test_line o r s t e a b c go) = omega arith
line-rows ls k (leave_line r s e a b go) = omega arith
line-rows ls k (out_line r s t e a go) = omega arith
line-rows ls k (call_line r e a b go) = omega arith
line-rows ls k (back_line r e a b) = omega arith
line-rows ls k (ret_line e a) = omega arith

function-rows : (b : Bool) → length (function_row_if b) ≤ 1
function-rows true = omega arith
function-rows false = omega arith

-- ---- more lines, more rows
grows : (ls : List Line) (k d : ℕ) → length (table_bytes (unread_to ls k)) ≤ length (table_bytes (unread_to ls (d + k)))
unfolding unread_to
grows ls k zero = subst (λ j. length (table_bytes (unread_to ls k)) ≤ length (table_bytes (unread_to ls j))) (let q : k ≡ 0 + k = omega arith in q) (omega arith)
grows ls k (suc d) =
    let more = function_row_if (begins ls (d + k)) ++ row_for ls (d + k) (line_at ls (d + k)) in
    subst (λ j. length (table_bytes (unread_to ls k)) ≤ length (table_bytes (unread_to ls j))) (let q : suc (d + k) ≡ suc d + k = omega arith in q)
    (omega (arith, grows ls k d, ap length (bytes-append (unread_to ls (d + k)) more), length-append (table_bytes (unread_to ls (d + k))) (table_bytes more)))

-- ---- the loop
pub reading-first : {bs rows : List ℕ} → length rows ≡ 6156 → Reading bs rows rows 0 true 0
unfolding unread_to table_bytes
reading-first {bs} {rows} h =
    record { opens = refl; few = omega arith; room = omega arith; length_is = h; length_was = h; added = added_none rows 0 }

-- there is room for the second row of a line
pub opened_low : (b : Bool) {rows rows' : List ℕ} {at opened : ℕ} → Added (table_bytes (function_row_if b)) rows rows' at opened → opened ≤ at + 6
opened_low b a = omega (arith, a.to_is, one_row (function_row_if b) (function-rows b))

pub reading-next : {bs rows₀ rows rows' rows'' : List ℕ} {at opened to line : ℕ} {opening next : Bool} → Reading bs rows₀ rows at opening line → line < length bs / line_width
    → at ≤ 6144 → Added (table_bytes (function_row_if opening)) rows rows' at opened
    → Added (table_bytes (row_for (lines_in bs) line (line_at (lines_in bs) line))) rows' rows'' opened to → next ≡ begins (lines_in bs) (line + 1)
    → Reading bs rows₀ rows'' to next (line + 1)
unfolding unread_to
reading-next {bs} {rows₀} {rows} {rows'} {rows''} {at} {opened} {to} {line} r l h a₀ b n =
    let a : Added (table_bytes (function_row_if (begins (lines_in bs) line))) rows rows' at opened = rw (← r.opens) a₀ in
    let ls = lines_in bs in
    let first = function_row_if (begins ls line) in
    let second = row_for ls line (line_at ls line) in
    let q : suc line ≡ line + 1 = omega arith in
    record {
      opens = n;
      few = omega arith;
      room = omega (arith, opened_low (begins ls line) a, b.to_is, one_row second (line-rows ls line (line_at ls line)));
      length_is = added-length (table_bytes second) b ∙ added-length (table_bytes first) a ∙ r.length_is;
      length_was = r.length_was;
      added =
          subst (λ xs. Added xs rows₀ rows'' 0 to)
          (ap (λ x. table_bytes (unread_to ls line) ++ x) (sym (bytes-append first second)) ∙ sym (bytes-append (unread_to ls line) (first ++ second))
          ∙ ap (λ k. table_bytes (unread_to ls k)) q)
          (added-both (table_bytes (unread_to ls line)) (table_bytes first ++ table_bytes second) r.added (added-both (table_bytes first) (table_bytes second) a b));
    }

-- a tick is passed
reading-skip : {bs rows₀ rows : List ℕ} {at line : ℕ} → Reading bs rows₀ rows at false line → line_width * line + line_width ≤ length bs
    → line_kind_at bs line ≡ Tick → Reading bs rows₀ rows at false (line + 1)
unfolding unread_to row_for
reading-skip {bs} {rows₀} {rows} {at} {line} r h e =
    let ls = lines_in bs in
    let q : suc line ≡ line + 1 = omega arith in
    let within : line < length ls = omega (arith, length-lines bs) in
    let is : line_at ls line ≡ as_line Tick (struct_at bs line) = line_is bs line within ∙ ap (λ k. as_line k (struct_at bs line)) e in
    record {
      opens = sym (ap (begins ls) (sym q) ∙ ap is_ret is);
      few = omega (arith, length-lines bs);
      room = r.room;
      length_is = r.length_is;
      length_was = r.length_was;
      added =
          subst (λ xs. Added xs rows₀ rows 0 at)
          (ap table_bytes
          (sym (append-nil (unread_to ls line)) ∙ ap (λ x. unread_to ls line ++ x) (rw (← r.opens, is) refl))
          ∙ ap (λ k. table_bytes (unread_to ls k)) q)
          r.added;
    }

reading-at : {bs rows₀ rows : List ℕ} {at at' line line' : ℕ} {opening : Bool} → Reading bs rows₀ rows at opening line → at ≡ at' → line ≡ line'
    → Reading bs rows₀ rows at' opening line'
reading-at r p q = rw (← p, ← q) r

pub reading-last : {bs rows₀ rows : List ℕ} {at line : ℕ} {opening : Bool} → Reading bs rows₀ rows at opening line → length bs / line_width ≤ line → Fronted bs rows at
unfolding source_bytes
reading-last {bs} {rows₀} {rows} {at} {line} r h =
    let q : line ≡ length (lines_in bs) = omega (arith, length-lines bs, r.few) in
    let e : table_bytes (unread_to (lines_in bs) line) ≡ table_bytes (unread (lines_in bs)) = ap (λ k. table_bytes (unread_to (lines_in bs) k)) q in
    record {
      room = r.room;
      count_is = omega (arith, r.added.to_is, ap length e);
      front_is = added-front (table_bytes (unread_to (lines_in bs) line)) r.added (omega (arith, r.added.to_is, r.room, r.length_was)) ∙ e;
    }

pub reading-long : {bs rows₀ rows : List ℕ} {at line : ℕ} {opening : Bool} → Reading bs rows₀ rows at opening line → 6144 < at → 6144 < length (source_bytes bs)
unfolding source_bytes
reading-long {bs} {rows₀} {rows} {at} {line} r h =
    let d = length (lines_in bs) - line in
    let q : d + line ≡ length (lines_in bs) = omega (arith, length-lines bs, r.few) in
    omega (arith, r.added.to_is, grows (lines_in bs) line d, ap (λ k. length (table_bytes (unread_to (lines_in bs) k))) q)

-- ---- dos and their ticks
pub no-dos : {opening : Bool} {bs rows : List ℕ} {at line : ℕ} → DosRead opening bs rows rows at line line
no-dos {at = at} {line = line} = record { on = omega arith; leads = λ rows₀ r. reading-at r (let q : at ≡ at + 3 * (line - line) = omega arith in q) refl }

-- none stood here
pub dos-none : {opening : Bool} {bs rows₀ rows rows' : List ℕ} {at line to : ℕ} → DosRead opening bs rows rows' at line to → to ≤ line
    → Reading bs rows₀ rows at opening line → Reading bs rows₀ rows' at opening line
dos-none {at = at} {line = line} {to = to} d h r =
    reading-at (d.leads _ r) (let q : at + 3 * (to - line) ≡ at = omega (arith, d.on) in q) (let q : to ≡ line = omega (arith, d.on) in q)

pub dos-where : {opening : Bool} {bs rows rows' : List ℕ} {at line to : ℕ} → opening ≡ false → DosRead false bs rows rows' at line to
    → DosRead opening bs rows rows' at line to
dos-where e d = rw e d

-- what answers no is never asked for a pair
pub no-pair : {A : Type 0} → false ≡ true → A
no-pair e = clash e refl

-- the loop: so far to line `next` and byte `to`
pub record DosTo (bs rows rows' : List ℕ) (at line next to : ℕ) : Type 0 where
  pub read : DosRead false bs rows rows' at line next
  pub low : next ≤ 2048
  pub to_is : to ≡ at + 3 * (next - line)
  pub length_is : length rows' ≡ 6156

pub dos-start : {bs rows : List ℕ} {at line : ℕ} → line ≤ 2048 → length rows ≡ 6156 → DosTo bs rows rows at line line at
dos-start l q = record { read = no-dos; low = l; to_is = omega arith; length_is = q }

pub dos-more : {bs rows rows' rows'' : List ℕ} {at line next to to' : ℕ} {r : Row.Row} → Short bs → DosTo bs rows rows' at line next to → Pair bs next
    → to ≤ 6144 → r ≡ copied_row 2 bs next → Added (six r) rows' rows'' to to' → DosTo bs rows rows'' at line (next + 2) to'
dos-more {bs} {rows} {rows'} {rows''} {at} {line} {next} {to} {to'} {r} s d p h q a = record {
  read = record {
    on = omega (arith, d.read.on);
    leads = λ rows₀ x. reading-at (both rows₀ (reading-at (d.read.leads rows₀ x) (sym d.to_is) refl)) moved (omega arith);
  };
  low = omega (arith, p.inside, s.short);
  to_is = moved;
  length_is = added-length (six r) a ∙ d.length_is;
}
  where
    moved : to' ≡ at + 3 * (next + 2 - line)
    moved = omega (arith, a.to_is, d.to_is, d.read.on)

    here : Here bs next
    here = record { table = s; inside = omega (arith, p.inside) }

    both : (rows₀ : List ℕ) → Reading bs rows₀ rows' to false next → Reading bs rows₀ rows'' to' false (next + 1 + 1)
    both rows₀ x =
        reading-skip
        (reading-next x (omega (arith, p.inside)) h (no-function-row rows' to refl) (do-row here p.first q a) (begins_next here (sym (ap ends_function_lem p.first))))
        (omega (arith, p.inside))
        p.second

pub ruleset dos-laws = (dos-start, dos-more)

pub ruleset readings = (reading-first, reading-next, reading-last, reading-long)
