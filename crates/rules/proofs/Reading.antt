-- Reading back: the hardened bytes of an accepted table are read back to its own bytes, and "is a hardened table" holds of exactly
-- the bytes that some source table hardens to.
use mathlib.Core.Path.{◌≡◌, refl, sym, ap, ◌∙◌, subst}
use mathlib.Core.Bool.{Bool, true, false, cond, ◌&&◌}
use mathlib.Core.List.{List, [], ◌∷◌, ◌++◌}
use Prim.Native.Nat.{ℕ, zero, suc, ◌+◌, ◌*◌, ◌≤◌, ◌<◌}
use native.Mathlib.Omega.{arith}
use lib.ListN.{length, get_or}
use lib.Dec.{eqb, ltb}
use borrow.Author.Tests.{eqb-true, ltb-true}
use Rattle.rules.specs.declared.operands.Operands.{Operands}
use Rattle.rules.specs.declared.kind.Kind.{Kind}
use Rattle.rules.specs.declared.kind.Kind.TheVariants.{Function, Do, If, Else, Loop, End, Break, Continue, Call, Unknown}
use Rattle.rules.specs.Verdict.{Accepted}
use Rattle.rules.specs.Bytes.{AreBytes, word_at, same}
use Rattle.rules.specs.Row.{Row, Table, kind_byte, row_bytes, table_bytes, table_of, kind_at, operands_at, is_variable, uses_none_lem, uses_number_lem, uses_variable_lem, uses_function_lem, fields_fit_lem}
use Rattle.rules.specs.Scan.{Open, open_at, has_else, is_function_lem, functions}
use Rattle.rules.specs.Refusal.{is_accepted}
use Rattle.rules.specs.Check.{verdict_of}
use Rattle.rules.specs.Line.{Line, do_line, tick_line, test_line, leave_line, out_line, call_line, back_line, ret_line, line_width, line_in_lem, lines_from, lines_in, line_at}
use Rattle.rules.specs.Harden.{line_count, line_of, test_of, row_lines, harden, hardened_bytes}
use Rattle.rules.specs.ReadBack.{unread, source_bytes, is_hardened_lem}
use Rattle.rules.specs.Reading.{ReadsBack, Recognises, OneSource}
use Rattle.std.proofs.lemmas.Bool.{and_from}
use Rattle.rules.specs.Bounds.{Word}
use Rattle.rules.proofs.Logic.{and_left, and_right, clash}
use Rattle.rules.proofs.Accepted.{Proper, accepted-is, proper-bytes, proper}
use Rattle.rules.proofs.Harden.{line-at}
use Rattle.rules.proofs.Function.{not-unknown, callee_known}
use Rattle.rules.proofs.Encode.{same_refl, same-is, table-of, bytes_of, lines-in}
use Rattle.rules.proofs.ReadRow.{none-used, operands-with, fits_in}
use Rattle.rules.proofs.ReadBack.{unread-harden}

-- ---- an accepted table is read back
pub lines_of : (rows : List ℕ) → lines_in (hardened_bytes rows) ≡ harden (table_of rows)
unfolding hardened_bytes
lines_of rows = lines-in (harden (table_of rows))

pub reads-back : ReadsBack
unfolding source_bytes
reads-back rows w v =
    let ok = proper rows v in
    ap (λ ls. table_bytes (unread ls)) (lines_of rows) ∙ ap table_bytes (unread-harden (table_of rows) ok)
    ∙ bytes_of rows w (proper-bytes rows v).whole (λ i l. not-unknown (table_of rows) ok i l)

pub one-source : OneSource
one-source rows others w u v x h = sym (reads-back rows w v) ∙ ap source_bytes h ∙ reads-back others u x

-- ---- what "is a hardened table" says
pub hardened-source : (lines : List ℕ) → is_hardened_lem lines ≡ true → (verdict_of (source_bytes lines) ≡ Accepted) × (hardened_bytes (source_bytes lines) ≡ lines)
unfolding is_hardened_lem
hardened-source lines h = (
  accepted-is (verdict_of (source_bytes lines)) (and_left _ _ h),
  same-is (hardened_bytes (source_bytes lines)) lines (and_right (is_accepted (verdict_of (source_bytes lines))) _ h),
)

pub source-hardened : (rows lines : List ℕ) → source_bytes lines ≡ rows → verdict_of rows ≡ Accepted → hardened_bytes rows ≡ lines → is_hardened_lem lines ≡ true
unfolding is_hardened_lem
source-hardened rows lines s v h =
    rw s (and_from _ _ (ap is_accepted v) (ap (λ x. same x lines) h ∙ same_refl lines))

-- ---- the numbers of a table's rows are those of its lines, and words there
number_in : Line → ℕ
number_in (do_line o e) = o.n
number_in (tick_line r e a) = 0
number_in (test_line o r s t e a b c go) = o.n
number_in (leave_line r s e a b go) = 0
number_in (out_line r s t e a go) = 0
number_in (call_line r e a b go) = 0
number_in (back_line r e a b) = 0
number_in (ret_line e a) = 0

word-or : (b : Bool) (l m : Line) → Word (number_in l) → Word (number_in m) → Word (number_in (cond b l m))
word-or true l m p q = p
word-or false l m p q = q

line_word : (bs : List ℕ) → AreBytes bs → (k : ℕ) → Word (number_in (line_in_lem bs k))
unfolding line_in_lem number_in
line_word bs w k =
    let n : Word (word_at bs (k + 4)) = omega (arith, w.each (k + 4), w.each (k + 4 + 1)) in
    let z : Word 0 = omega arith in
    word-or (eqb (get_or bs k 0) 0x21) _ _ n
    (word-or (eqb (get_or bs k 0) 0x22) _ _ z
    (word-or (eqb (get_or bs k 0) 0x23) _ _ n
    (word-or (eqb (get_or bs k 0) 0x24) _ _ z
    (word-or (eqb (get_or bs k 0) 0x25) _ _ z (word-or (eqb (get_or bs k 0) 0x26) _ _ z (word-or (eqb (get_or bs k 0) 0x27) _ _ z z))))))

words-from : (bs : List ℕ) → AreBytes bs → (i n j : ℕ) → Word (number_in (line_at (lines_from bs i n) j))
unfolding lines_from number_in
words-from bs w i zero j = omega arith
words-from bs w i (suc n) zero = line_word bs w (line_width * i)
words-from bs w i (suc n) (suc j) = words-from bs w (suc i) n j

words-in : (bs : List ℕ) → AreBytes bs → (j : ℕ) → Word (number_in (line_at (lines_in bs) j))
unfolding lines_in
words-in bs w j = words-from bs w 0 _ j

functions-few : (t : Table) (i : ℕ) → functions t i ≤ i
unfolding functions
functions-few t zero = omega arith
functions-few t (suc i) = by (is_function_lem (kind_at t i)) (functions-few t i)
  where
    by : (b : Bool) → functions t i ≤ i → cond b (suc (functions t i)) (functions t i) ≤ suc i
    by true h = omega arith
    by false h = omega arith

test-number : (t : Table) (i : ℕ) (fs : List Open) (b : Bool) → number_in (test_of t i fs b) ≡ (operands_at t i).n
unfolding test_of number_in
test-number t i fs true = refl
test-number t i fs false = refl

module _ (t : Table) (ok : Proper t) (words : (j : ℕ) → Word (number_in (line_at (harden t) j))) (i : ℕ) (l : i < length t) where
  -- the row's number stands in its first line
  from-line : (k : Kind) → kind_at t i ≡ k → 0 < line_count k → number_in (line_at (row_lines t i (open_at t i) k) 0) ≡ (operands_at t i).n → Word (operands_at t i).n
  from-line k e h q =
      subst Word (ap number_in (line-at t i 0 l (rw e h)) ∙ ap (λ x. number_in (line_at (row_lines t i (open_at t i) x) 0)) e ∙ q) (words (line_of t i + 0))

  no_number : uses_none_lem (operands_at t i) ≡ true → Word (operands_at t i).n
  no_number u = omega (arith, ap (λ o. o.n) (none-used (operands_at t i) u))

  row_word : (k : Kind) → kind_at t i ≡ k → Word (operands_at t i).n
  unfolding row_lines number_in fields_fit_lem
  row_word Function e = no_number (fits_in t ok i l e)
  row_word Do e = from-line Do e (omega arith) refl
  row_word If e = from-line If e (omega arith) (test-number t i (open_at t i) (has_else t i))
  row_word Else e = no_number (fits_in t ok i l e)
  row_word Loop e = from-line Loop e (omega arith) (test-number t i (open_at t i) false)
  row_word End e = no_number (fits_in t ok i l e)
  row_word Break e = no_number (fits_in t ok i l e)
  row_word Continue e = no_number (fits_in t ok i l e)
  row_word Call e = omega (arith, callee_known t ok i l e, functions-few t (length t), ok.few_rows)
  row_word Unknown e = absurd (not-unknown t ok i l e)

-- ---- the fields of a row that fits are bytes
pub record Small (o : Operands) : Type 0 where
  pub op_small : o.op < 256
  pub p_small : o.p < 256
  pub q_small : o.q < 256

small-none : (o : Operands) → uses_function_lem o ≡ true → Small o
small-none o e =
    let q = operands-with o e refl in
    record { op_small = omega (arith, ap (λ x. x.op) q); p_small = omega (arith, ap (λ x. x.p) q); q_small = omega (arith, ap (λ x. x.q) q) }

small-number : (o : Operands) → o.op < 256 → uses_number_lem o ≡ true → Small o
small-number o h e =
    record {
      op_small = h;
      p_small = omega (arith, ltb-true o.p 16 (and_left _ _ e));
      q_small = omega (arith, eqb-true o.q 0 (and_right (is_variable o.p) _ e));
    }

small-variable : (o : Operands) → o.op < 256 → uses_variable_lem o ≡ true → Small o
small-variable o h e =
    let a : is_variable o.p && is_variable o.q ≡ true = and_left _ _ e in
    record {
      op_small = h;
      p_small = omega (arith, ltb-true o.p 16 (and_left _ _ a));
      q_small = omega (arith, ltb-true o.q 16 (and_right (is_variable o.p) _ a));
    }

small-do : (o : Operands) (b : Bool) → eqb o.op 0 ≡ b → cond b (uses_number_lem o) (ltb o.op 4 && uses_variable_lem o) ≡ true → Small o
small-do o true h e = small-number o (omega (arith, eqb-true o.op 0 h)) e
small-do o false h e = small-variable o (omega (arith, ltb-true o.op 4 (and_left _ _ e))) (and_right (ltb o.op 4) _ e)

small-test : (o : Operands) (b : Bool) → ltb o.op 2 ≡ b → cond b (uses_number_lem o) (eqb o.op 2 && uses_variable_lem o) ≡ true → Small o
small-test o true h e = small-number o (omega (arith, ltb-true o.op 2 h)) e
small-test o false h e = small-variable o (omega (arith, eqb-true o.op 2 (and_left _ _ e))) (and_right (eqb o.op 2) _ e)

pub small : (k : Kind) (o : Operands) → fields_fit_lem k o ≡ true → Small o
unfolding fields_fit_lem
small Function o e = small-none o (and_left _ _ e)
small Do o e = small-do o (eqb o.op 0) refl e
small If o e = small-test o (ltb o.op 2) refl e
small Else o e = small-none o (and_left _ _ e)
small Loop o e = small-test o (ltb o.op 2) refl e
small End o e = small-none o (and_left _ _ e)
small Break o e = small-none o (and_left _ _ e)
small Continue o e = small-none o (and_left _ _ e)
small Call o e = small-none o e
small Unknown o e = clash e refl

-- ---- the bytes of such rows are bytes
no_bytes : AreBytes []
no_bytes = record { each = λ i. omega arith }

more_bytes : (b : ℕ) (bs : List ℕ) → b < 256 → AreBytes bs → AreBytes (b ∷ bs)
more_bytes b bs h w = record { each = at }
  where
    at : (i : ℕ) → get_or (b ∷ bs) i 0 < 256
    at zero = h
    at (suc i) = w.each i

kind-small : (k : Kind) → kind_byte k < 256
unfolding kind_byte
kind-small Function = omega arith
kind-small Do = omega arith
kind-small If = omega arith
kind-small Else = omega arith
kind-small Loop = omega arith
kind-small End = omega arith
kind-small Break = omega arith
kind-small Continue = omega arith
kind-small Call = omega arith
kind-small Unknown = omega arith

row-bytes : (r : Row) (bs : List ℕ) → Small r.operands → Word r.operands.n → AreBytes bs → AreBytes (row_bytes r ++ bs)
unfolding row_bytes
row-bytes r bs s n w =
    more_bytes _ _ (kind-small r.kind)
    (more_bytes _ _ s.op_small
    (more_bytes _ _ s.p_small (more_bytes _ _ s.q_small (more_bytes _ _ (omega arith) (more_bytes _ _ (omega arith) w)))))

pub table-are-bytes : (t : Table) → ((i : ℕ) → i < length t → Small (operands_at t i) × Word (operands_at t i).n) → AreBytes (table_bytes t)
unfolding table_bytes
table-are-bytes [] h = no_bytes
table-are-bytes (r ∷ t) h =
    let first = h 0 (omega arith) in
    row-bytes r (table_bytes t) first.0 first.1 (table-are-bytes t (λ i l. h (suc i) (omega arith)))

-- the source bytes that a hardened table is read back to are bytes
source-bytes : (lines : List ℕ) → AreBytes lines → is_hardened_lem lines ≡ true → AreBytes (source_bytes lines)
unfolding source_bytes
source-bytes lines w h =
    let t = unread (lines_in lines) in
    let s = hardened-source lines h in
    let q : table_of (source_bytes lines) ≡ t = table-of t in
    let ok : Proper t = subst Proper q (proper (source_bytes lines) s.0) in
    let same_lines : lines_in lines ≡ harden t = ap lines_in (sym s.1) ∙ lines_of (source_bytes lines) ∙ ap harden q in
    let words : (j : ℕ) → Word (number_in (line_at (harden t) j)) = λ j. subst (λ ls. Word (number_in (line_at ls j))) same_lines (words-in lines w j) in
    table-are-bytes t (λ i l. (small (kind_at t i) (operands_at t i) (ok.rows i l).fits, row_word t ok words i l (kind_at t i) refl))

pub recognises : Recognises
recognises lines w = (
  λ h. record {
    rows = source_bytes lines;
    are_bytes = source-bytes lines w h;
    accepted = (hardened-source lines h).0;
    hardens = (hardened-source lines h).1;
  },
  λ g. source-hardened g.rows lines (ap source_bytes (sym g.hardens) ∙ reads-back g.rows g.are_bytes g.accepted) g.accepted g.hardens,
)
