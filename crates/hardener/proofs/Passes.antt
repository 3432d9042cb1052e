-- One pass over a table, for both uses: the rows that are made, the lines that agree or are kept, and what it comes to. Assumes nothing.
use mathlib.Core.Path.{◌≡◌, refl, sym, ap, ◌∙◌}
use mathlib.Core.Bool.{Bool, true, false}
use mathlib.Core.List.{List, ◌++◌, append_assoc}
use Prim.Native.Nat.{ℕ, zero, suc, ◌+◌, ◌*◌, ◌-◌, ◌/◌, ◌≤◌, ◌<◌}
use native.Mathlib.Nat.{add-zero, add-suc}
use native.Mathlib.Omega.{arith}
use lib.ListN.{length, take, drop}
use lib.Seq.{take-length, take_at, drop_at, take-add}
use borrow.Author.Tests.{eqb-true, eqb-false, leb-true, leb-false}
use Rattle.rules.specs.declared.refusal.Refusal.TheVariants.{ShortOutput}
use Rattle.rules.specs.Refusal.{refusal_number}
use Rattle.rules.specs.Bytes.{same}
use Rattle.rules.specs.Row.{Table, table_of, kind_at}
use Rattle.rules.specs.Line.{lines_bytes}
use Rattle.rules.specs.Harden.{line_of, harden_to, hardened_bytes}
use Rattle.rules.specs.Calls.{over, Writing}
use Rattle.rules.proofs.Logic.{clash}
use Rattle.rules.proofs.Accepted.{table-length}
use Rattle.rules.proofs.Harden.{line-mono, line-suc}
use Rattle.rules.proofs.Encode.{same_refl, same-is}
use Rattle.rules.proofs.ValueBound.{two_lines}
use Rattle.emit.specs.Emit.{rows_bytes, Room}
use Rattle.hardener.specs.Answer.{written}
use Rattle.hardener.specs.Pass.{Passed, No, Bytes, answered, PassedIs, fitting, Fit, Batch, agreed, Stretch, MadeIs}
use Rattle.emit.proofs.Emits.{bytes-length, bytes-split, rows-length, answer-length}
use Rattle.hardener.proofs.Answers.{short-answer, whole-answer}
use Rattle.hardener.proofs.Compares.{not_same}

-- ---- lines that agree with given bytes
-- the bytes have the lines of d rows from row i on in their place
unfoldable rows_same : Table → (i d : ℕ) → (lines : List ℕ) → Bool
rows_same t i d lines = same (rows_bytes t i d) (take (20 * line_of t (i + d) - 20 * line_of t i) (drop (20 * line_of t i) lines))

-- what was made of these rows agrees where the bytes have them
made-same : (bs held lines : List ℕ) (i d : ℕ) {made : List ℕ} {f g : ℕ} → f ≡ line_of (table_of bs) i → g ≡ line_of (table_of bs) (i + d)
    → made ≡ over (rows_bytes (table_of bs) i d) held → agreed true made lines (20 * f) (20 * g) ≡ rows_same (table_of bs) i d lines
unfolding rows_same
made-same bs held lines i d p q m =
    let t = table_of bs in
    let n : length (rows_bytes t i d) ≡ 20 * line_of t (i + d) - 20 * line_of t i = omega (arith, rows-length t i d) in
    rw (p, q, m)
    (ap (λ x. same x (take (20 * line_of t (i + d) - 20 * line_of t i) (drop (20 * line_of t i) lines)))
    (take_at (rows_bytes t i d) (drop (length (rows_bytes t i d)) held) (20 * line_of t (i + d) - 20 * line_of t i) n))

part_at : (a b c : List ℕ) {m n : ℕ} → length a ≡ m → length b ≡ n → take n (drop m (a ++ (b ++ c))) ≡ b
part_at a b c {m} {n} p q = ap (take n) (drop_at a (b ++ c) m p) ∙ take_at b c n q

rows_in : (bs : List ℕ) (i d : ℕ) → i + d ≤ length bs / 6 → rows_same (table_of bs) i d (hardened_bytes bs) ≡ true
unfolding rows_same hardened_bytes
rows_in bs i d h =
    let t = table_of bs in
    let rest = length bs / 6 - (i + d) in
    let all : i + d + rest ≡ length t = omega (arith, table-length bs) in
    let split : lines_bytes (harden_to t (length t)) ≡ lines_bytes (harden_to t i) ++ (rows_bytes t i d ++ rows_bytes t (i + d) rest)
    = ap (λ x. lines_bytes (harden_to t x)) (sym all) ∙ bytes-split t (i + d) rest
    ∙ ap (λ x. x ++ rows_bytes t (i + d) rest) (bytes-split t i d) ∙ append_assoc (lines_bytes (harden_to t i)) (rows_bytes t i d) (rows_bytes t (i + d) rest) in
    rw split
    (ap (same (rows_bytes t i d)) (part_at (lines_bytes (harden_to t i)) (rows_bytes t i d) (rows_bytes t (i + d) rest) {n = 20 * line_of t (i + d) - 20 * line_of t i} (bytes-length t i) (omega (arith, rows-length t i d)))
    ∙ same_refl (rows_bytes t i d))

-- some rows that differ: the whole differs
differs : (bs lines : List ℕ) (i d : ℕ) → i + d ≤ length bs / 6 → false ≡ rows_same (table_of bs) i d lines → false ≡ same (hardened_bytes bs) lines
differs bs lines i d h e = by (same (hardened_bytes bs) lines) refl
  where
    by : (v : Bool) → same (hardened_bytes bs) lines ≡ v → false ≡ same (hardened_bytes bs) lines
    by true q = clash (ap (rows_same (table_of bs) i d) (sym (same-is (hardened_bytes bs) lines q)) ∙ rows_in bs i d h) (sym e)
    by false q = sym q

-- the bytes begin with the lines of the rows before row i
pub record Agreed (bs lines : List ℕ) (i : ℕ) : Type 0 where
  pub is : take (20 * line_of (table_of bs) i) lines ≡ lines_bytes (harden_to (table_of bs) i)

agree-more : (bs lines : List ℕ) (i d : ℕ) → Agreed bs lines i → true ≡ rows_same (table_of bs) i d lines → Agreed bs lines (i + d)
unfolding rows_same
agree-more bs lines i d g e =
    let t = table_of bs in
    let size = 20 * line_of (table_of bs) (i + d) - 20 * line_of (table_of bs) i in
    let n : 20 * line_of t (i + d) ≡ 20 * line_of t i + size = omega (arith, rows-length t i d) in
    record {
      is = ap (λ x. take x lines) n ∙ take-add (20 * line_of t i) size lines ∙ ap (λ x. x ++ take size (drop (20 * line_of t i) lines)) g.is
          ∙ ap (λ x. lines_bytes (harden_to t i) ++ x) (sym (same-is (rows_bytes t i d) (take size (drop (20 * line_of t i) lines)) (sym e)))
          ∙ sym (bytes-split t i d);
    }

agree-all : (bs lines : List ℕ) (i : ℕ) → Agreed bs lines i → i ≡ length bs / 6 → length lines ≡ 20 * line_of (table_of bs) (length bs / 6)
    → true ≡ same (hardened_bytes bs) lines
unfolding hardened_bytes
agree-all bs lines i g x l =
    let t = table_of bs in
    let n : 20 * line_of t i ≡ length lines = ap (λ y. 20 * line_of t y) x ∙ sym l in
    let e : lines_bytes (harden_to t (length t)) ≡ lines
    = ap (λ y. lines_bytes (harden_to t y)) (table-length bs ∙ sym x) ∙ sym g.is ∙ ap (λ y. take y lines) n ∙ take-length lines in
    sym (ap (λ y. same y lines) e ∙ same_refl lines)

-- ---- the rows before row i are made
-- kept: all of them at once
pub record Kept (bs held out : List ℕ) (i : ℕ) : Type 0 where
  pub start : i < length bs / 6 → i ≡ 0
  pub is : out ≡ over (rows_bytes (table_of bs) 0 i) held

abbrev pub Made : Bool → (bs lines held out : List ℕ) → (i : ℕ) → Type 0
Made true bs lines held out i = Agreed bs lines i
Made false bs lines held out i = Kept bs held out i

pub made-start : (b : Bool) (bs lines held : List ℕ) → Made b bs lines held held 0
unfolding line_of harden_to lines_bytes rows_bytes
made-start true bs lines held = record { is = refl }
made-start false bs lines held = record { start = λ h. refl; is = refl }

lines-few : (t : Table) (i d : ℕ) → line_of t (i + d) ≤ line_of t i + 2 * d
lines-few t i zero = omega (arith, ap (line_of t) (add-zero i))
lines-few t i (suc d) = omega (arith, lines-few t i d, ap (line_of t) (add-suc i d), line-suc t (i + d) {k = kind_at t (i + d)} refl, two_lines (kind_at t (i + d)))

pub made-room : (b : Bool) (bs lines held out : List ℕ) (i d : ℕ) → Made b bs lines held out i → i < length bs / 6 → Fit b bs lines held → Batch b i (length bs / 6) d
    → length out ≡ length held → Room bs i d out
made-room true bs lines held out i d m h f b l =
    record { rows = b.rows; enough = omega (arith, lines-few (table_of bs) i d, b.few refl, f.scratch refl) }
made-room false bs lines held out i d m h f b l =
    record { rows = b.rows; enough = omega (arith, ap (line_of (table_of bs)) (b.all refl), f.room refl) }

pub made-stretch : (b : Bool) (bs lines held out : List ℕ) (i d : ℕ) {f g : ℕ} → Fit b bs lines held → Batch b i (length bs / 6) d → length out ≡ length held
    → f ≡ line_of (table_of bs) i → g ≡ line_of (table_of bs) (i + d) → Stretch b out lines (20 * f) (20 * g)
made-stretch true bs lines held out i d f b l p q =
    record {
      low = λ x. omega (arith, rows-length (table_of bs) i d);
      within = λ x. omega (arith, f.as_long refl, line-mono (table_of bs) {i = i + d} (length bs / 6) b.rows);
      made_in = λ x. omega (arith, lines-few (table_of bs) i d, b.few refl, f.scratch refl);
    }
made-stretch false bs lines held out i d f b l p q = record { low = λ x. clash x refl; within = λ x. clash x refl; made_in = λ x. clash x refl }

pub made_more : (b : Bool) (bs lines held out : List ℕ) (i d : ℕ) {made : List ℕ} {f g : ℕ} → Made b bs lines held out i → i < length bs / 6
    → Batch b i (length bs / 6) d → made ≡ over (rows_bytes (table_of bs) i d) out → f ≡ line_of (table_of bs) i → g ≡ line_of (table_of bs) (i + d)
    → true ≡ agreed b made lines (20 * f) (20 * g) → Made b bs lines held made (i + d)
unfolding rows_bytes
made_more true bs lines held out i d m h b w p q e = agree-more bs lines i d m (e ∙ made-same bs out lines i d p q w)
made_more false bs lines held out i d m h b w p q e =
    let t = table_of bs in
    let z : i ≡ 0 = m.start h in
    let s : d ≡ i + d = omega arith in
    record {
      start = λ x. absurd (let y : ⊥ = omega (arith, b.all refl) in y);
      is = w ∙ ap (over (rows_bytes t i d)) (m.is ∙ ap (λ x. over (rows_bytes t 0 x) held) z) ∙ ap (λ x. over (rows_bytes t x d) held) z
          ∙ ap (λ x. over (rows_bytes t 0 x) held) s;
    }

pub made-differs : (b : Bool) (bs lines held out : List ℕ) (i d : ℕ) {made : List ℕ} {f g : ℕ} → Batch b i (length bs / 6) d
    → made ≡ over (rows_bytes (table_of bs) i d) out → f ≡ line_of (table_of bs) i → g ≡ line_of (table_of bs) (i + d)
    → false ≡ agreed b made lines (20 * f) (20 * g) → MadeIs b bs lines held made false
made-differs true bs lines held out i d b w p q e =
    record {
      compared = λ x. differs bs lines i d b.rows (e ∙ made-same bs out lines i d p q w);
      done = λ x. clash refl x;
      kept = λ x. clash refl x;
    }
made-differs false bs lines held out i d b w p q e = clash refl (sym e)

pub made_all : (b : Bool) (bs lines held out : List ℕ) (i : ℕ) → Made b bs lines held out i → i ≡ length bs / 6 → Fit b bs lines held → MadeIs b bs lines held out true
made_all true bs lines held out i m h f =
    record { compared = λ x. agree-all bs lines i m h (f.as_long refl); done = λ x. refl; kept = λ x. clash refl x }
made_all false bs lines held out i m h f =
    record { compared = λ x. clash x refl; done = λ x. refl; kept = λ x. m.is ∙ ap (λ y. over (rows_bytes (table_of bs) 0 y) held) h }

-- ---- what the pass comes to
pub pass-short : (b : Bool) (bs lines out : List ℕ) {n : ℕ} → n ≡ 20 * line_of (table_of bs) (length bs / 6) → fitting b n (length lines) (length out) ≡ false
    → PassedIs b bs lines out out No
pass-short true bs lines out {n} q e =
    record {
      compared = λ x. not_same (hardened_bytes bs) lines (λ y. eqb-false (length lines) n e (sym y ∙ answer-length bs ∙ sym q));
      kept = λ x. clash refl x;
    }
pass-short false bs lines out {n} q e =
    record {
      compared = λ x. clash x refl;
      kept = λ x. short-answer bs out refl (omega (arith, leb-false n (length out) e));
    }

pub pass-fit : (b : Bool) (bs lines out : List ℕ) {n : ℕ} → n ≡ 20 * line_of (table_of bs) (length bs / 6) → fitting b n (length lines) (length out) ≡ true
    → (b ≡ true → length out ≡ 1280) → Fit b bs lines out
pass-fit true bs lines out {n} q e s =
    record { as_long = λ x. eqb-true (length lines) n e ∙ q; scratch = s; room = λ x. clash refl x }
pass-fit false bs lines out {n} q e s =
    record {
      as_long = λ x. clash x refl;
      scratch = s;
      room = λ x. omega (arith, leb-true n (length out) e);
    }

pub pass-made : (b : Bool) (bs lines out out' : List ℕ) {n : ℕ} {r : Bool} → n ≡ 20 * line_of (table_of bs) (length bs / 6) → Fit b bs lines out
    → MadeIs b bs lines out out' r → r ≡ true → PassedIs b bs lines out out' (Bytes n)
pass-made b bs lines out out' q f m e =
    record { compared = λ x. sym e ∙ m.compared x; kept = λ x. whole-answer bs out q (omega (arith, f.room x)) (m.kept x) }

pub pass-not : (b : Bool) (bs lines out out' : List ℕ) {r : Bool} → MadeIs b bs lines out out' r → r ≡ false → PassedIs b bs lines out out' No
pass-not b bs lines out out' m e = record { compared = λ x. sym e ∙ m.compared x; kept = λ x. clash (m.done x) e }

-- ---- what its two callers answer
pub answer-no : {r : Passed} {n : ℕ} (out : List ℕ) {w : Writing} → n ≡ refusal_number ShortOutput → r ≡ No → written (answered r) out ≡ w
    → written (record { number = n; length = 0 }) out ≡ w
answer-no out e q k = rw e (ap (λ x. written (answered x) out) (sym q) ∙ k)

pub answer-bytes : {r : Passed} {n : ℕ} (out : List ℕ) {w : Writing} → r ≡ Bytes n → written (answered r) out ≡ w → written (record { number = 0; length = n }) out ≡ w
answer-bytes out q k = ap (λ x. written (answered x) out) (sym q) ∙ k
