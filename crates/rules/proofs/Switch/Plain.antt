-- A table without rows 0a, 0b and 0c is its own chain and gets exactly what 01 gives it. Assumes nothing.
use mathlib.Core.Logic.{◌≢◌}
use mathlib.Core.Path.{◌≡◌, refl, sym, ap, ◌∙◌, subst}
use mathlib.Core.Bool.{Bool, true, false, not}
use mathlib.Core.List.{List, [], ◌∷◌, ◌++◌}
use Prim.Native.Nat.{ℕ, zero, suc, ◌+◌, ◌*◌, ◌/◌, ◌≤◌, ◌<◌}
use native.Mathlib.Nat.{le_refl}
use native.Mathlib.Omega.{arith}
use lib.Dec.{ltb}
use lib.ListN.{length, get_or, take}
use lib.Seq.{take-suc, take-length, length-take-le}
use borrow.Author.Tests.{ne_eqb}
use Rattle.rules.specs.declared.kind.Kind.TheVariants.{Unknown}
use Rattle.rules.specs.declared.refusal.Refusal.TheVariants.{NoWholeRows, TooManyRows, WrongField, Misplaced, RepeatedCase}
use Rattle.rules.specs.Verdict.{Verdict, Accepted}
use Rattle.rules.specs.Limits.{max_rows}
use Rattle.rules.specs.Row.{Row, Table, row_width, kind_of, row_in, rows_from, table_of, table_bytes, row_at, kind_at, operands_at, fields_fit_lem}
use Rattle.rules.specs.Scan.{Open, Shape, pushes, turns, closes, stays, shape_of, open_at}
use Rattle.rules.specs.Refusal.{refuse_if_lem, and_then}
use Rattle.rules.specs.Check.{no_whole_rows, too_many_rows, wrong_field, is_outside, left_open_lem, row_verdict, rows_verdict, calls_verdict, table_verdict, verdict_of}
use Rattle.rules.specs.Switch.{as_is, GivenTable, given_as, given_from, given_of, given_at, Thing, construct, switch, things_by, things_after, things_at, chain_rows, chain_to, chain_of, chain_bytes}
use Rattle.rules.specs.Given.{given_fits, strays, is_any, repeats, span_verdict, given_row_verdict, given_rows_verdict, given_table_verdict, given_verdict}
use Rattle.rules.specs.Chained.{NoSwitch, PlainChain, PlainVerdict, PlainAccepted}
use Rattle.rules.proofs.FieldBound.{row-at}
use Rattle.rules.proofs.Accepted.{proper, proper-bytes, table-length}
use Rattle.rules.proofs.Encode.{bytes_of}
use Rattle.rules.proofs.Function.{not-unknown}
use Rattle.rules.proofs.Switch.Chain.{then-accepted, depth, open-depth}

-- ---- rows of 01 as rows as given
pub plain : Table → GivenTable
plain [] = []
plain (r ∷ rs) = as_is r ∷ plain rs

plain-length : (t : Table) → length (plain t) ≡ length t
unfolding plain
plain-length [] = refl
plain-length (r ∷ t) = ap suc (plain-length t)

plain_at : (t : Table) (i : ℕ) → given_at (plain t) i ≡ as_is (row_at t i)
unfolding plain
plain_at [] i = refl
plain_at (r ∷ t) zero = refl
plain_at (r ∷ t) (suc i) = plain_at t i

-- ---- only constructs are open
abbrev Plain : List Thing → Type 0
Plain [] = Unit {0}
Plain (construct ∷ ts) = Plain ts
Plain (switch s ∷ ts) = ⊥

plain_by : (s : Shape) (ts : List Thing) → Plain ts → Plain (things_by s ts)
plain_by (pushes p) ts h = h
plain_by turns ts h = h
plain_by closes [] h = tt
plain_by closes (construct ∷ ts) h = h
plain_by closes (switch s ∷ ts) h = absurd h
plain_by stays ts h = h

plain-things : (t : Table) (i : ℕ) → Plain (things_at (plain t) i)
unfolding things_at
plain-things t zero = tt
plain-things t (suc i) =
    subst (λ r. Plain (things_after r (things_at (plain t) i))) (sym (plain_at t i)) (plain_by (shape_of (row_at t i).kind) (things_at (plain t) i) (plain-things t i))

plain_rows : (r : Row) (ts : List Thing) → Plain ts → chain_rows (as_is r) ts ≡ r ∷ []
plain_rows r [] h = refl
plain_rows r (construct ∷ ts) h = refl
plain_rows r (switch s ∷ ts) h = absurd h

plain-placed : (r : Row) (ts : List Thing) → Plain ts → strays (as_is r) ts ≡ false
unfolding strays
plain-placed r [] h = refl
plain-placed r (construct ∷ ts) h = refl
plain-placed r (switch s ∷ ts) h = absurd h

plain-depth : (ts : List Thing) → Plain ts → depth ts ≡ length ts
plain-depth [] h = refl
plain-depth (construct ∷ ts) h = ap suc (plain-depth ts h)
plain-depth (switch s ∷ ts) h = absurd h

-- ---- its own chain
rows-here : (t : Table) (i : ℕ) → chain_rows (given_at (plain t) i) (things_at (plain t) i) ≡ row_at t i ∷ []
rows-here t i = ap (λ r. chain_rows r (things_at (plain t) i)) (plain_at t i) ∙ plain_rows (row_at t i) (things_at (plain t) i) (plain-things t i)

pub plain-chain-to : (t : Table) (i : ℕ) → i ≤ length t → chain_to (plain t) i ≡ take i t
unfolding chain_to
plain-chain-to t zero h = refl
plain-chain-to t (suc i) h =
    ap (λ xs. chain_to (plain t) i ++ xs) (rows-here t i) ∙ ap (λ xs. xs ++ (row_at t i ∷ [])) (plain-chain-to t i (omega arith)) ∙ sym (take-suc t i _ h)

pub plain-chain : (t : Table) → chain_of (plain t) ≡ t
plain-chain t = ap (chain_to (plain t)) (plain-length t) ∙ plain-chain-to t (length t) (le_refl _) ∙ take-length t

-- ---- the same verdict, row by row
three-first : (a : Bool) (v : Verdict) → and_then (refuse_if_lem a WrongField) (and_then (refuse_if_lem a WrongField) v) ≡ and_then (refuse_if_lem a WrongField) v
three-first true v = refl
three-first false v = refl

-- a row that 01 reads, by its row in the chain alone
row-verdict : (t : Table) (i : ℕ) → and_then (refuse_if_lem (wrong_field t i) WrongField) (row_verdict t i) ≡ row_verdict t i
unfolding row_verdict
row-verdict t i = three-first (wrong_field t i) _

-- what a row gets, by its causes
row_by : (fits strays repeats : Bool) (chained : Verdict) → Verdict
row_by a b c v = and_then (refuse_if_lem (not a) WrongField) (and_then (refuse_if_lem b Misplaced) (and_then (refuse_if_lem c RepeatedCase) v))

same_row : {a a' b b' c c' : Bool} {v v' : Verdict} → a ≡ a' → b ≡ b' → c ≡ c' → v ≡ v' → row_by a b c v ≡ row_by a' b' c' v'
same_row p q r s = λ i. row_by (p i) (q i) (r i) (s i)

span-one : (t : Table) (i : ℕ) → i ≤ length t
    → span_verdict t (length (chain_to (plain t) i)) (length (chain_rows (given_at (plain t) i) (things_at (plain t) i))) ≡ row_verdict t i
unfolding span_verdict
span-one t i h =
    ap (λ xs. span_verdict t (length (chain_to (plain t) i)) (length xs)) (rows-here t i)
    ∙ ap (λ j. span_verdict t j 1) (ap length (plain-chain-to t i h) ∙ length-take-le i t h) ∙ then-accepted (row_verdict t i)

plain_row : (t : Table) (i : ℕ) → i < length t → given_row_verdict (plain t) t i ≡ row_verdict t i
unfolding given_row_verdict given_fits repeats row_by
plain_row t i h =
    let ts = things_at (plain t) i in
    same_row {a' = fields_fit_lem (kind_at t i) (operands_at t i)} {b' = false} {c' = false} {v' = row_verdict t i} (ap given_fits (plain_at t i))
    (ap (λ r. strays r ts) (plain_at t i) ∙ plain-placed (row_at t i) ts (plain-things t i)) (ap (λ r. repeats r ts) (plain_at t i)) (span-one t i (omega arith))
    ∙ row-verdict t i

plain-rows-verdict : (t : Table) (n : ℕ) → n ≤ length t → given_rows_verdict (plain t) t n ≡ rows_verdict t n
unfolding given_rows_verdict rows_verdict
plain-rows-verdict t zero h = refl
plain-rows-verdict t (suc n) h =
    ap (λ v. and_then v (given_row_verdict (plain t) t n)) (plain-rows-verdict t n (omega arith)) ∙ ap (λ v. and_then (rows_verdict t n) v) (plain_row t n h)

-- ---- and at the end
any_open : (ts : List Thing) (fs : List Open) → length fs ≡ length ts → is_any ts ≡ not (is_outside fs)
any_open [] [] e = refl
any_open [] (f ∷ fs) e = absurd (omega arith)
any_open (t ∷ ts) [] e = absurd (omega arith)
any_open (t ∷ ts) (f ∷ fs) e = refl

plain-left : (t : Table) → is_any (things_at (plain t) (length (plain t))) ≡ left_open_lem t
plain-left t =
    let n = length (plain t) in
    any_open (things_at (plain t) n) (open_at t (length t))
    (sym (ap (λ c. length (open_at c (length c))) (plain-chain t)) ∙ open-depth (plain t) n n (le_refl _) ∙ plain-depth (things_at (plain t) n) (plain-things t n))

plain-table : (t : Table) → given_table_verdict (plain t) (chain_of (plain t))
    ≡ and_then (rows_verdict t (length t))
    (and_then (refuse_if_lem (left_open_lem t) Misplaced) (and_then (refuse_if_lem (ltb max_rows (length t)) TooManyRows) (calls_verdict t (length t))))
unfolding given_table_verdict
plain-table t =
    ap (given_table_verdict (plain t)) (plain-chain t)
    ∙ ap (λ b. and_then (given_rows_verdict (plain t) t (length (plain t)))
    (and_then (refuse_if_lem b Misplaced) (and_then (refuse_if_lem (ltb max_rows (length t)) TooManyRows) (calls_verdict t (length t))))) (plain-left t)
    ∙ ap (λ v. and_then v (and_then (refuse_if_lem (left_open_lem t) Misplaced) (and_then (refuse_if_lem (ltb max_rows (length t)) TooManyRows) (calls_verdict t (length t)))))
    (ap (given_rows_verdict (plain t) t) (plain-length t) ∙ plain-rows-verdict t (length t) (le_refl _))

-- 2 by the rows as given is 2 by the chain
two-first : (b : Bool) (rows : Verdict) (c : Bool) (calls : Verdict)
    → and_then (refuse_if_lem b TooManyRows) (and_then rows (and_then (refuse_if_lem c Misplaced) (and_then (refuse_if_lem b TooManyRows) calls)))
    ≡ and_then (refuse_if_lem b TooManyRows) (and_then rows (and_then (refuse_if_lem c Misplaced) calls))
two-first true rows c calls = refl
two-first false rows c calls = refl

by_rows : (bs : List ℕ) → given_of bs ≡ plain (table_of bs) → given_verdict bs ≡ verdict_of bs
unfolding given_verdict verdict_of table_verdict
by_rows bs e =
    let t = table_of bs in
    ap (λ v. and_then (refuse_if_lem (no_whole_rows bs) NoWholeRows) (and_then (refuse_if_lem (too_many_rows bs) TooManyRows) v))
    (ap (λ g. given_table_verdict g (chain_of g)) e ∙ plain-table t
    ∙ ap (λ n. and_then (rows_verdict t (length t)) (and_then (refuse_if_lem (left_open_lem t) Misplaced)
    (and_then (refuse_if_lem (ltb max_rows n) TooManyRows) (calls_verdict t (length t))))) (table-length bs))
    ∙ ap (λ v. and_then (refuse_if_lem (no_whole_rows bs) NoWholeRows) v)
    (two-first (too_many_rows bs) (rows_verdict t (length t)) (left_open_lem t) (calls_verdict t (length t)))

-- ---- by the bytes
given-as : (b : ℕ) (r : Row) → b ≢ 0x0a → b ≢ 0x0b → b ≢ 0x0c → given_as b r ≡ as_is r
unfolding given_as
given-as b r x y z = rw (ne_eqb b 0x0a x, ne_eqb b 0x0b y, ne_eqb b 0x0c z)

plain-from : (bs : List ℕ) → NoSwitch bs → (i n : ℕ) → i + n ≤ length bs / row_width → given_from bs i n ≡ plain (rows_from bs i n)
unfolding given_from rows_from plain
plain-from bs s i zero h = refl
plain-from bs s i (suc n) h =
    let l : i < length bs / row_width = omega arith in
    ap (λ r. r ∷ given_from bs (suc i) n)
    (given-as (get_or bs (row_width * i) 0) (row_in bs (row_width * i)) (s.no_switch i l) (s.no_case i l) (s.no_default i l))
    ∙ ap (λ rs. as_is (row_in bs (row_width * i)) ∷ rs) (plain-from bs s (suc i) n (omega arith))

pub given-plain : (bs : List ℕ) → NoSwitch bs → given_of bs ≡ plain (table_of bs)
unfolding given_of table_of
given-plain bs s = plain-from bs s 0 (length bs / row_width) (omega arith)

pub plain-verdict : PlainVerdict
plain-verdict bs s = by_rows bs (given-plain bs s)

pub plain-chain-rows : PlainChain
plain-chain-rows bs s = ap chain_of (given-plain bs s) ∙ plain-chain (table_of bs)

-- ---- what 01 accepts has no switch
module _ (bs : List ℕ) (v : verdict_of bs ≡ Accepted) where
  known : (i b : ℕ) → i < length bs / row_width → kind_of b ≡ Unknown → get_or bs (row_width * i) 0 ≢ b
  unfolding table_of row_in
  known i b l u e =
      let h : i < length (table_of bs) = omega (arith, table-length bs) in
      not-unknown (table_of bs) (proper bs v) i h (ap (λ r. r.kind) (row-at bs i h) ∙ ap kind_of e ∙ u)

  pub accepted-plain : NoSwitch bs
  unfolding kind_of
  accepted-plain =
      record {
        no_switch = λ i l. known i 0x0a l refl;
        no_case = λ i l. known i 0x0b l refl;
        no_default = λ i l. known i 0x0c l refl;
      }

pub plain-accepted : PlainAccepted
unfolding chain_bytes
plain-accepted bs w v =
    let s = accepted-plain bs v in
    let ok = proper bs v in
    record {
      accepted = plain-verdict bs s ∙ v;
      chain_is = ap table_bytes (plain-chain-rows bs s) ∙ bytes_of bs w (proper-bytes bs v).whole (λ i l. not-unknown (table_of bs) ok i l);
    }
