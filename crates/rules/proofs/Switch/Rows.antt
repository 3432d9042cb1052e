-- The verdict on a table as given, found row by row: a law for each way in which a pass over the rows can stop. Assumes nothing.
use mathlib.Core.Logic.{◌⊎◌, inl, inr}
use mathlib.Core.Path.{◌≡◌, refl, sym, ap, ◌∙◌}
use mathlib.Core.Bool.{Bool, true, false, cond, not, ◌&&◌}
use mathlib.Core.List.{List, [], ◌∷◌, ◌++◌}
use Prim.Native.Nat.{ℕ, zero, suc, ◌+◌, ◌≤◌, ◌<◌}
use native.Mathlib.Nat.{add-zero, not-suc-le-zero, eq-or-lt_of_le}
use native.Mathlib.Decide.{le_ind}
use native.Mathlib.Omega.{arith}
use lib.Dec.{ltb, leb}
use lib.ListN.{length, replicate}
use borrow.Author.Tests.{lt-ltb, le-ltb}
use Rattle.rules.specs.declared.operands.Operands.{Operands}
use Rattle.rules.specs.declared.kind.Kind.{Kind}
use Rattle.rules.specs.declared.kind.Kind.TheVariants.{Function, Do, If, Else, Loop, End, Break, Continue, Call, Unknown}
use Rattle.rules.specs.declared.refusal.Refusal.{Refusal}
use Rattle.rules.specs.declared.refusal.Refusal.TheVariants.{NoWholeRows, TooManyRows, WrongField, Misplaced, TooManyFunctions, TooManyParts, NoSuchFunction, ShortOutput, ShortRoom, NotHardened, RepeatedCase, NotFinished}
use Rattle.rules.specs.Verdict.{Verdict, Accepted, Refused}
use Rattle.rules.specs.Limits.{max_rows}
use Rattle.rules.specs.Row.{Table, row_at}
use Rattle.rules.specs.Scan.{function_count, is_end_lem}
use Rattle.rules.specs.Refusal.{refuse_if_lem, and_then, is_accepted}
use Rattle.rules.specs.Check.{wrong_field, misplaced, too_many_functions, too_many_parts, is_call, no_such_function, row_verdict, calls_verdict}
use Rattle.rules.specs.Switch.{GivenRow, as_is, switch_row, case_row, default_row, GivenTable, given_of, given_at, Thing, construct, switch, things_at, if_row, bare_row, else_after, chain_rows, chain_to, chain_of}
use Rattle.rules.specs.Given.{given_fits, strays, is_any, repeats, span_verdict, given_row_verdict, given_rows_verdict, given_table_verdict}
use Rattle.rules.specs.Fault.{is_faulty, faulty_row, row_of, calls_beyond_lem, calling_row, fault_row}
use Rattle.rules.proofs.Logic.{clash}
use Rattle.rules.proofs.Accepted.{then-left, then-right}
use Rattle.rules.proofs.Search.{Found, hit, miss, found, first_is}
use Rattle.rules.proofs.Switch.Chain.{then-assoc, then-accepted, chain-grows, in-chain, chain-mono}

-- ---- a row that meets none of its own causes gets what its rows of the chain get
pub row_chained : (g : GivenTable) (c : Table) (i : ℕ) → given_fits (given_at g i) ≡ true → strays (given_at g i) (things_at g i) ≡ false
    → repeats (given_at g i) (things_at g i) ≡ false → (v : Verdict)
    → span_verdict c (length (chain_to g i)) (length (chain_rows (given_at g i) (things_at g i))) ≡ v → given_row_verdict g c i ≡ v
unfolding given_row_verdict
row_chained g c i p q r v s =
    λ x. and_then (refuse_if_lem (not (p x)) WrongField) (and_then (refuse_if_lem (q x) Misplaced) (and_then (refuse_if_lem (r x) RepeatedCase) (s x)))

-- ---- the first row that is refused refuses the table
pub rows-refused : (g : GivenTable) (c : Table) (i n : ℕ) {r : Refusal} → given_rows_verdict g c i ≡ Accepted → given_row_verdict g c i ≡ Refused r → i < n
    → given_rows_verdict g c n ≡ Refused r
unfolding given_rows_verdict
rows-refused g c i n {r} e f l =
    le_ind (λ m. given_rows_verdict g c m ≡ Refused r) (ap (λ v. and_then v (given_row_verdict g c i)) e ∙ f) (λ m a q. ap (λ v. and_then v (given_row_verdict g c m)) q) n l

pub table-refused : (g : GivenTable) (c : Table) (i : ℕ) {r : Refusal} → given_rows_verdict g c i ≡ Accepted → i < length g → given_row_verdict g c i ≡ Refused r
    → given_table_verdict g c ≡ Refused r
unfolding given_table_verdict
table-refused g c i e l f =
    ap (λ v. and_then v (and_then (refuse_if_lem (is_any (things_at g (length g))) Misplaced)
    (and_then (refuse_if_lem (ltb max_rows (length c)) TooManyRows) (calls_verdict c (length c))))) (rows-refused g c i (length g) e f l)

pub row_before : (g : GivenTable) (c : Table) (n : ℕ) → given_rows_verdict g c n ≡ Accepted → (m : ℕ) → m < n → given_row_verdict g c m ≡ Accepted
unfolding given_rows_verdict
row_before g c zero e m h = absurd (not-suc-le-zero h)
row_before g c (suc n) e m h = by (eq-or-lt_of_le h) (λ l. row_before g c n (then-left _ _ e) m l)
  where
    by : (suc m ≡ suc n) ⊎ (suc m < suc n) → (m < n → given_row_verdict g c m ≡ Accepted) → given_row_verdict g c m ≡ Accepted
    by (inl q) ih =
        let r : m ≡ n = omega arith in
        ap (given_row_verdict g c) r ∙ then-right (given_rows_verdict g c n) _ e
    by (inr l) ih = ih (omega arith)

pub faulty-first : (g : GivenTable) (c : Table) (i : ℕ) → given_rows_verdict g c i ≡ Accepted → i ≤ length g → (i < length g → is_faulty g c i ≡ true)
    → faulty_row g c ≡ i
faulty-first g c i e l f =
    first_is (is_faulty g c) (length g) 0 i (omega arith) (omega arith) (λ h. f (omega arith))
    (λ m a b. ap (λ v. not (is_accepted v)) (row_before g c i e m b))

-- the causes that a row can have
pub is_row_cause : Refusal → Bool
is_row_cause NoWholeRows = false
is_row_cause TooManyRows = false
is_row_cause WrongField = true
is_row_cause Misplaced = true
is_row_cause TooManyFunctions = true
is_row_cause TooManyParts = true
is_row_cause NoSuchFunction = false
is_row_cause ShortOutput = false
is_row_cause ShortRoom = false
is_row_cause NotHardened = false
is_row_cause RepeatedCase = true
is_row_cause NotFinished = false

by_row_lem : Verdict → Bool
by_row_lem Accepted = true
by_row_lem (Refused r) = is_row_cause r

by-then : (u v : Verdict) → by_row_lem u ≡ true → by_row_lem v ≡ true → by_row_lem (and_then u v) ≡ true
unfolding by_row_lem
by-then Accepted v p q = q
by-then (Refused r) v p q = p

by_if : (b : Bool) (r : Refusal) → is_row_cause r ≡ true → by_row_lem (refuse_if_lem b r) ≡ true
unfolding by_row_lem
by_if true r e = e
by_if false r e = refl

by_row : (c : Table) (j : ℕ) → by_row_lem (row_verdict c j) ≡ true
unfolding row_verdict is_row_cause
by_row c j =
    by-then _ _ (by_if (wrong_field c j) WrongField refl)
    (by-then _ _ (by_if (misplaced c j) Misplaced refl)
    (by-then _ _ (by_if (too_many_functions c j) TooManyFunctions refl) (by_if (too_many_parts c j) TooManyParts refl)))

by_span : (c : Table) (j n : ℕ) → by_row_lem (span_verdict c j n) ≡ true
unfolding span_verdict by_row_lem
by_span c j zero = refl
by_span c j (suc n) = by-then (row_verdict c j) (span_verdict c (suc j) n) (by_row c j) (by_span c (suc j) n)

pub row-cause : (g : GivenTable) (c : Table) (i : ℕ) {r : Refusal} → given_row_verdict g c i ≡ Refused r → is_row_cause r ≡ true
unfolding given_row_verdict by_row_lem is_row_cause
row-cause g c i e =
    let r = given_at g i in
    let ts = things_at g i in
    sym (ap by_row_lem e)
    ∙ by-then (refuse_if_lem (not (given_fits r)) WrongField) _ (by_if (not (given_fits r)) WrongField refl)
    (by-then (refuse_if_lem (strays r ts) Misplaced) _ (by_if (strays r ts) Misplaced refl)
    (by-then (refuse_if_lem (repeats r ts) RepeatedCase) _ (by_if (repeats r ts) RepeatedCase refl) (by_span c (length (chain_to g i)) (length (chain_rows r ts)))))

pub row-of-cause : (r : Refusal) → is_row_cause r ≡ true → (bs : List ℕ) → fault_row r bs ≡ faulty_row (given_of bs) (chain_of (given_of bs))
unfolding is_row_cause fault_row
row-of-cause NoWholeRows e bs = clash e refl
row-of-cause TooManyRows e bs = clash e refl
row-of-cause WrongField e bs = refl
row-of-cause Misplaced e bs = refl
row-of-cause TooManyFunctions e bs = refl
row-of-cause TooManyParts e bs = refl
row-of-cause NoSuchFunction e bs = clash e refl
row-of-cause ShortOutput e bs = clash e refl
row-of-cause ShortRoom e bs = clash e refl
row-of-cause NotHardened e bs = clash e refl
row-of-cause RepeatedCase e bs = refl
row-of-cause NotFinished e bs = clash e refl

-- ---- the end of the table, in its order: 4, 2 by the chain whatever is called, 7
module _ (g : GivenTable) (c : Table) (good : given_rows_verdict g c (length g) ≡ Accepted) where
  end_by : (a b : Bool) → is_any (things_at g (length g)) ≡ a → ltb max_rows (length c) ≡ b
      → given_table_verdict g c ≡ and_then (refuse_if_lem a Misplaced) (and_then (refuse_if_lem b TooManyRows) (calls_verdict c (length c)))
  unfolding given_table_verdict
  end_by a b p q = λ x. and_then (good x) (and_then (refuse_if_lem (p x) Misplaced) (and_then (refuse_if_lem (q x) TooManyRows) (calls_verdict c (length c))))

  pub end-open : is_any (things_at g (length g)) ≡ true → given_table_verdict g c ≡ Refused Misplaced
  end-open e = end_by true _ e refl

  module _ (closed : is_any (things_at g (length g)) ≡ false) where
    pub end-long : max_rows < length c → given_table_verdict g c ≡ Refused TooManyRows
    end-long h = end_by false true closed (lt-ltb max_rows (length c) h)

    pub end-calls : length c ≤ max_rows → given_table_verdict g c ≡ calls_verdict c (length c)
    end-calls h = end_by false false closed (le-ltb max_rows (length c) h)

-- the row as given that a row of the chain comes of
pub row-of-is : (g : GivenTable) (i j : ℕ) → i < length g → length (chain_to g i) ≤ j → j < length (chain_to g (suc i)) → row_of g j ≡ i
row-of-is g i j h a b =
    first_is (λ i. ltb j (length (chain_to g (suc i)))) (length g) 0 i (omega arith) (omega arith) (λ l. lt-ltb j (length (chain_to g (suc i))) b)
    (λ m x l. le-ltb j (length (chain_to g (suc m))) (omega (arith, chain-mono g (suc m) i l)))

-- ---- 7, by the rows as given: only they call
calls_in : (count : ℕ) → Table → Verdict
calls_in count [] = Accepted
calls_in count (r ∷ rs) = and_then (refuse_if_lem (is_call r.kind && leb count r.operands.n) NoSuchFunction) (calls_in count rs)

calls-over : (c : Table) (j : ℕ) (rs : Table) → ((k : ℕ) → k < length rs → row_at c (j + k) ≡ row_at rs k)
    → calls_verdict c (j + length rs) ≡ and_then (calls_verdict c j) (calls_in (function_count c) rs)
unfolding calls_verdict calls_in
calls-over c j [] h = ap (calls_verdict c) (add-zero j) ∙ sym (then-accepted (calls_verdict c j))
calls-over c j (r ∷ rs) h =
    let q : j + suc (length rs) ≡ suc j + length rs = omega arith in
    let here : row_at c j ≡ r = ap (row_at c) (sym (add-zero j)) ∙ h 0 (omega arith) in
    ap (calls_verdict c) q
    ∙ calls-over c (suc j) rs (λ k l. let m : suc j + k ≡ j + suc k = omega arith in ap (row_at c) m ∙ h (suc k) (omega arith))
    ∙ then-assoc (calls_verdict c j) (refuse_if_lem (no_such_function c j) NoSuchFunction) (calls_in (function_count c) rs)
    ∙ ap (λ x. and_then (calls_verdict c j) (and_then (refuse_if_lem (is_call x.kind && leb (function_count c) x.operands.n) NoSuchFunction) (calls_in (function_count c) rs))) here

ends-call : (count n : ℕ) → calls_in count (replicate n (bare_row End)) ≡ Accepted
unfolding calls_in
ends-call count zero = refl
ends-call count (suc n) = ends-call count n

kind-calls : (count : ℕ) (k : Kind) (o : Operands) (n : ℕ)
    → calls_in count (cond (is_end_lem k) (replicate n (bare_row End)) (record { kind = k; operands = o } ∷ [])) ≡ refuse_if_lem (is_call k && leb count o.n) NoSuchFunction
unfolding calls_in
kind-calls count Function o n = refl
kind-calls count Do o n = refl
kind-calls count If o n = refl
kind-calls count Else o n = refl
kind-calls count Loop o n = refl
kind-calls count End o n = ends-call count n
kind-calls count Break o n = refl
kind-calls count Continue o n = refl
kind-calls count Call o n = then-accepted _
kind-calls count Unknown o n = refl

else-calls : (count : ℕ) (used : List ℕ) → calls_in count (else_after used) ≡ Accepted
unfolding calls_in
else-calls count [] = refl
else-calls count (n ∷ ns) = refl

if-calls : (count : ℕ) (used : List ℕ) (p n : ℕ) → calls_in count (else_after used ++ (if_row p n ∷ [])) ≡ Accepted
unfolding calls_in
if-calls count [] p n = refl
if-calls count (m ∷ ms) p n = refl

row-calls : (count : ℕ) (r : GivenRow) (ts : List Thing) → calls_in count (chain_rows r ts) ≡ refuse_if_lem (calls_beyond_lem count r) NoSuchFunction
unfolding calls_in calls_beyond_lem
row-calls count (as_is r) [] = then-accepted _
row-calls count (as_is r) (construct ∷ ts) = then-accepted _
row-calls count (as_is r) (switch s ∷ ts) = kind-calls count r.kind r.operands (length s.used)
row-calls count (switch_row o) ts = refl
row-calls count (case_row o) [] = refl
row-calls count (case_row o) (construct ∷ ts) = refl
row-calls count (case_row o) (switch s ∷ ts) = if-calls count s.used s.p o.n
row-calls count (default_row o) [] = refl
row-calls count (default_row o) (construct ∷ ts) = refl
row-calls count (default_row o) (switch s ∷ ts) = else-calls count s.used

-- the calls of one more row
pub calls-row : (g : GivenTable) (i : ℕ) → i < length g
    → calls_verdict (chain_of g) (length (chain_to g (suc i)))
    ≡ and_then (calls_verdict (chain_of g) (length (chain_to g i))) (refuse_if_lem (calls_beyond_lem (function_count (chain_of g)) (given_at g i)) NoSuchFunction)
calls-row g i h =
    let c = chain_of g in
    let rs = chain_rows (given_at g i) (things_at g i) in
    ap (calls_verdict c) (chain-grows g i) ∙ calls-over c (length (chain_to g i)) rs (λ k l. (in-chain g i k (length g) h l).row_is)
    ∙ ap (λ v. and_then (calls_verdict c (length (chain_to g i))) v) (row-calls (function_count c) (given_at g i) (things_at g i))

-- what the calls get, by the first row that calls a function that isn't there
module _ (g : GivenTable) where
  abbrev beyond : ℕ → Bool
  beyond i = calls_beyond_lem (function_count (chain_of g)) (given_at g i)

  calls-none : (n : ℕ) → n ≤ length g → ((m : ℕ) → m < n → beyond m ≡ false) → calls_verdict (chain_of g) (length (chain_to g n)) ≡ Accepted
  unfolding calls_verdict chain_to
  calls-none zero h none = refl
  calls-none (suc n) h none =
      calls-row g n h ∙ ap (λ v. and_then v (refuse_if_lem (beyond n) NoSuchFunction)) (calls-none n (omega arith) (λ m l. none m (omega arith)))
      ∙ ap (λ b. refuse_if_lem b NoSuchFunction) (none n (omega arith))

  calls-some : (i n : ℕ) → i < n → n ≤ length g → ((m : ℕ) → m < i → beyond m ≡ false) → beyond i ≡ true
      → calls_verdict (chain_of g) (length (chain_to g n)) ≡ Refused NoSuchFunction
  calls-some i zero l h none e = absurd (not-suc-le-zero l)
  calls-some i (suc n) l h none e = by (eq-or-lt_of_le l) (λ k. calls-some i n k (omega arith) none e)
    where
      by : (suc i ≡ suc n) ⊎ (suc i < suc n) → (i < n → calls_verdict (chain_of g) (length (chain_to g n)) ≡ Refused NoSuchFunction)
          → calls_verdict (chain_of g) (length (chain_to g (suc n))) ≡ Refused NoSuchFunction
      by (inl q) ih =
          let z : i ≡ n = omega arith in
          calls-row g n h ∙ ap (λ v. and_then v (refuse_if_lem (beyond n) NoSuchFunction)) (calls-none n (omega arith) (λ m k. none m (omega arith)))
          ∙ ap (λ b. refuse_if_lem b NoSuchFunction) (ap beyond (sym z) ∙ e)
      by (inr k) ih = calls-row g n h ∙ ap (λ v. and_then v (refuse_if_lem (beyond n) NoSuchFunction)) (ih (omega arith))

  pub calls_found : calling_row g (function_count (chain_of g)) < length g → calls_verdict (chain_of g) (length (chain_of g)) ≡ Refused NoSuchFunction
  calls_found l = by (calling_row g (function_count (chain_of g))) (found beyond (length g) 0) l
    where
      by : (r : ℕ) → Found beyond (length g) 0 r → r < length g → calls_verdict (chain_of g) (length (chain_of g)) ≡ Refused NoSuchFunction
      by r (hit h a u f) l = calls-some r (length g) l (omega arith) (λ m k. f m (omega arith) k) h
      by r (miss q f) l = absurd (omega arith)

  pub calls-all : length g ≤ calling_row g (function_count (chain_of g)) → calls_verdict (chain_of g) (length (chain_of g)) ≡ Accepted
  calls-all l = by (calling_row g (function_count (chain_of g))) (found beyond (length g) 0) l
    where
      by : (r : ℕ) → Found beyond (length g) 0 r → length g ≤ r → calls_verdict (chain_of g) (length (chain_of g)) ≡ Accepted
      by r (hit h a u f) l = absurd (omega arith)
      by r (miss q f) l = calls-none (length g) (omega arith) (λ m k. f m (omega arith) (omega arith))
