-- How long a chain gets, how many cases are open, and that the bytes of a chain are bytes. Assumes nothing.
use mathlib.Core.Path.{◌≡◌, refl, subst}
use mathlib.Core.Bool.{Bool, true, false, cond}
use mathlib.Core.List.{List, [], ◌∷◌, ◌++◌}
use Prim.Native.Nat.{ℕ, zero, suc, ◌+◌, ◌*◌, ◌-◌, ◌/◌, ◌≤◌, ◌<◌}
use native.Mathlib.Nat.{le_refl}
use native.Mathlib.Omega.{arith}
use lib.Dec.{eqb}
use lib.ListN.{length, replicate, length-replicate}
use borrow.Author.Tests.{leb-false}
use Rattle.rules.specs.declared.operands.Operands.{Operands}
use Rattle.rules.specs.declared.kind.Kind.{Kind}
use Rattle.rules.specs.declared.kind.Kind.TheVariants.{Function, Do, If, Else, Loop, End, Break, Continue, Call, Unknown}
use Rattle.rules.specs.Verdict.{Accepted}
use Rattle.rules.specs.Bytes.{AreBytes}
use Rattle.rules.specs.Limits.{max_constructs}
use Rattle.rules.specs.Row.{Row, Table, row_in, row_width, kind_at, operands_at}
use Rattle.rules.specs.Scan.{Open, Shape, pushes, turns, closes, stays, shape_of, open_after_lem, regions, open_at, is_end_lem}
use Rattle.rules.specs.Check.{misplaced_in, all_constructs, one_too_many, rows_verdict}
use Rattle.rules.specs.Switch.{GivenRow, as_is, switch_row, case_row, default_row, GivenTable, given_as, given_from, given_of, given_at, Switch, Thing, construct, switch, things_by, things_after, things_at, if_row, bare_row, else_after, chain_rows, chain_to, chain_of, chain_bytes}
use Rattle.rules.specs.Given.{strays, given_rows_verdict, given_verdict}
use Rattle.rules.specs.Chained.{cases_in, ThreeEach, FewCases, FewChained}
use Rattle.std.proofs.lemmas.Bool.{or_parts}
use Rattle.rules.specs.Bounds.{Word}
use Rattle.rules.proofs.Logic.{clash}
use Rattle.rules.proofs.Accepted.{proper-row, then-left, then-right, Proper, proper}
use Rattle.rules.proofs.Reading.{small, table-are-bytes}
use Rattle.rules.proofs.Switch.Chain.{sound-row, chain-grows, rows-accepted, depth, open-depth, sound, chain-table, chain-accepted}

-- ---- at most 3 rows of the chain for each row as given
shape-costs : (s : Shape) (ts : List Thing) → cases_in (things_by s ts) ≤ cases_in ts
shape-costs (pushes p) ts = le_refl _
shape-costs turns ts = le_refl _
shape-costs closes [] = le_refl _
shape-costs closes (construct ∷ ts) = le_refl _
shape-costs closes (switch s ∷ ts) = omega arith
shape-costs stays ts = le_refl _

kind-costs : (k : Kind) (o : Operands) (s : Switch) (ts : List Thing)
    → length (cond (is_end_lem k) (replicate (length s.used) (bare_row End)) (record { kind = k; operands = o } ∷ [])) + cases_in (things_by (shape_of k) (switch s ∷ ts))
    ≤ 3 + (length s.used + cases_in ts)
kind-costs Function o s ts = omega arith
kind-costs Do o s ts = omega arith
kind-costs If o s ts = omega arith
kind-costs Else o s ts = omega arith
kind-costs Loop o s ts = omega arith
kind-costs End o s ts = omega (arith, length-replicate (length s.used) (bare_row End))
kind-costs Break o s ts = omega arith
kind-costs Continue o s ts = omega arith
kind-costs Call o s ts = omega arith
kind-costs Unknown o s ts = omega arith

case-costs : (used : List ℕ) (p n c : ℕ) → length (else_after used ++ (if_row p n ∷ [])) + (suc (length used) + c) ≤ 3 + (length used + c)
case-costs [] p n c = omega arith
case-costs (m ∷ ms) p n c = omega arith

default-costs : (used : List ℕ) (c : ℕ) → length (else_after used) + (length used + c) ≤ 3 + (length used + c)
default-costs [] c = omega arith
default-costs (m ∷ ms) c = omega arith

row-costs : (r : GivenRow) (ts : List Thing) → length (chain_rows r ts) + cases_in (things_after r ts) ≤ 3 + cases_in ts
row-costs (as_is r) [] = omega (arith, shape-costs (shape_of r.kind) [])
row-costs (as_is r) (construct ∷ ts) = omega (arith, shape-costs (shape_of r.kind) (construct ∷ ts))
row-costs (as_is r) (switch s ∷ ts) = kind-costs r.kind r.operands s ts
row-costs (switch_row o) ts = omega arith
row-costs (case_row o) [] = omega arith
row-costs (case_row o) (construct ∷ ts) = omega arith
row-costs (case_row o) (switch s ∷ ts) = case-costs s.used s.p o.n (cases_in ts)
row-costs (default_row o) [] = omega arith
row-costs (default_row o) (construct ∷ ts) = omega arith
row-costs (default_row o) (switch s ∷ ts) = default-costs s.used (cases_in ts)

pub three-each : ThreeEach
unfolding chain_to things_at
three-each g zero = omega arith
three-each g (suc i) = omega (arith, three-each g i, chain-grows g i, row-costs (given_at g i) (things_at g i))

-- ---- at most 17 parts are open in the chain before a fault
few-next : (k : Kind) (i g : ℕ) (fs : List Open) → misplaced_in k fs ≡ false → one_too_many k g fs ≡ false → length fs ≤ 17
    → length (open_after_lem (shape_of k) i g fs) ≤ 17
unfolding misplaced_in one_too_many
few-next Function i g [] p q h = omega arith
few-next Function i g (f ∷ fs) p q h = clash refl p
few-next Do i g fs p q h = h
few-next If i g fs p q h = omega (arith, leb-false max_constructs (length fs - 1) (or_parts (all_constructs fs) _ q).0)
few-next Else i g [] p q h = h
few-next Else i g (f ∷ fs) p q h = h
few-next Loop i g fs p q h = omega (arith, leb-false max_constructs (length fs - 1) (or_parts (all_constructs fs) _ q).0)
few-next End i g [] p q h = h
few-next End i g (f ∷ fs) p q h = omega arith
few-next Break i g fs p q h = h
few-next Continue i g fs p q h = h
few-next Call i g fs p q h = h
few-next Unknown i g fs p q h = h

pub few-open : (c : Table) (j : ℕ) → rows_verdict c j ≡ Accepted → length (open_at c j) ≤ 17
unfolding rows_verdict open_at
few-open c zero e = omega arith
few-open c (suc j) e =
    let r = proper-row c j (then-right (rows_verdict c j) _ e) in
    few-next (kind_at c j) j (regions c j) (open_at c j) r.placed r.few_parts (few-open c j (then-left _ _ e))

-- ---- the outermost open thing is a function
abbrev pub Rooted : List Thing → Type 0
Rooted [] = Unit {0}
Rooted (construct ∷ []) = Unit {0}
Rooted (switch s ∷ []) = ⊥
Rooted (t ∷ u ∷ ts) = Rooted (u ∷ ts)

pub under-root : (t : Thing) (ts : List Thing) → Rooted (t ∷ ts) → cases_in (t ∷ ts) < depth (t ∷ ts)
under-root construct [] h = omega arith
under-root (switch s) [] h = absurd h
under-root construct (u ∷ ts) h = omega (arith, under-root u ts h)
under-root (switch s) (u ∷ ts) h = omega (arith, under-root u ts h)

rooted-by : (s : Shape) (ts : List Thing) → Rooted ts → Rooted (things_by s ts)
rooted-by (pushes p) [] h = tt
rooted-by (pushes p) (t ∷ ts) h = h
rooted-by turns ts h = h
rooted-by closes [] h = tt
rooted-by closes (t ∷ []) h = tt
rooted-by closes (t ∷ u ∷ ts) h = h
rooted-by stays ts h = h

rooted-after : (r : GivenRow) (ts : List Thing) → strays r ts ≡ false → Rooted ts → Rooted (things_after r ts)
unfolding strays
rooted-after (as_is r) ts e h = rooted-by (shape_of r.kind) ts h
rooted-after (switch_row o) [] e h = clash refl e
rooted-after (switch_row o) (t ∷ ts) e h = h
rooted-after (case_row o) [] e h = tt
rooted-after (case_row o) (construct ∷ ts) e h = h
rooted-after (case_row o) (switch s ∷ []) e h = h
rooted-after (case_row o) (switch s ∷ u ∷ ts) e h = h
rooted-after (default_row o) [] e h = tt
rooted-after (default_row o) (construct ∷ ts) e h = h
rooted-after (default_row o) (switch s ∷ []) e h = h
rooted-after (default_row o) (switch s ∷ u ∷ ts) e h = h

pub rooted : (g : GivenTable) (c : Table) (i : ℕ) → given_rows_verdict g c i ≡ Accepted → Rooted (things_at g i)
unfolding given_rows_verdict things_at
rooted g c zero e = tt
rooted g c (suc i) e =
    rooted-after (given_at g i) (things_at g i) (sound-row g c i (then-right (given_rows_verdict g c i) _ e)).placed (rooted g c i (then-left _ _ e))

few-under : (ts : List Thing) → Rooted ts → depth ts ≤ 17 → cases_in ts ≤ 16
few-under [] h l = omega arith
few-under (t ∷ ts) h l = omega (arith, under-root t ts h)

pub few-cases : FewCases
few-cases g i h e =
    few-under (things_at g i) (rooted g (chain_of g) i e)
    (omega (arith, open-depth g (length g) i h, few-open (chain_of g) (length (chain_to g i)) (rows-accepted g (chain_of g) i e)))

pub few_chained : FewChained
few_chained rows e = (sound rows e).few_chained

-- ---- the numbers of the chain's rows are words
abbrev Words : Table → Type 0
Words [] = Unit {0}
Words (r ∷ rs) = Word r.operands.n × Words rs

words-at : (t : Table) → Words t → (i : ℕ) → Word (operands_at t i).n
words-at [] h i = omega arith
words-at (r ∷ t) h zero = h.0
words-at (r ∷ t) h (suc i) = words-at t h.1 i

words-both : (xs ys : Table) → Words xs → Words ys → Words (xs ++ ys)
words-both [] ys h k = k
words-both (x ∷ xs) ys h k = (h.0, words-both xs ys h.1 k)

words-ends : (n : ℕ) → Words (replicate n (bare_row End))
words-ends zero = tt
words-ends (suc n) = (omega arith, words-ends n)

words-else : (used : List ℕ) → Words (else_after used)
words-else [] = tt
words-else (n ∷ ns) = (omega arith, tt)

abbrev GivenWord : GivenRow → Type 0
GivenWord (as_is r) = Word r.operands.n
GivenWord (switch_row o) = Unit {0}
GivenWord (case_row o) = Word o.n
GivenWord (default_row o) = Unit {0}

words-rows : (r : GivenRow) (ts : List Thing) → GivenWord r → Words (chain_rows r ts)
words-rows (as_is r) [] h = (h, tt)
words-rows (as_is r) (construct ∷ ts) h = (h, tt)
words-rows (as_is r) (switch s ∷ ts) h = by (is_end_lem r.kind)
  where
    by : (b : Bool) → Words (cond b (replicate (length s.used) (bare_row End)) (r ∷ []))
    by true = words-ends (length s.used)
    by false = (h, tt)
words-rows (switch_row o) ts h = tt
words-rows (case_row o) [] h = tt
words-rows (case_row o) (construct ∷ ts) h = tt
words-rows (case_row o) (switch s ∷ ts) h = words-both (else_after s.used) _ (words-else s.used) (h, tt)
words-rows (default_row o) [] h = tt
words-rows (default_row o) (construct ∷ ts) h = tt
words-rows (default_row o) (switch s ∷ ts) h = words-else s.used

given_word : (b : ℕ) (r : Row) → Word r.operands.n → GivenWord (given_as b r)
unfolding given_as
given_word b r h = by (eqb b 0x0a) (eqb b 0x0b) (eqb b 0x0c)
  where
    by : (x y z : Bool) → GivenWord (cond x (switch_row r.operands) (cond y (case_row r.operands) (cond z (default_row r.operands) (as_is r))))
    by true y z = tt
    by false true z = h
    by false false true = tt
    by false false false = h

given-words : (bs : List ℕ) → AreBytes bs → (i n j : ℕ) → GivenWord (given_at (given_from bs i n) j)
unfolding given_from row_in
given-words bs w i zero j = omega arith
given-words bs w i (suc n) zero =
    given_word _ (row_in bs (row_width * i)) (omega (arith, w.each (row_width * i + 4), w.each (row_width * i + 4 + 1)))
given-words bs w i (suc n) (suc j) = given-words bs w (suc i) n j

chain-words : (g : GivenTable) → ((j : ℕ) → GivenWord (given_at g j)) → (i : ℕ) → Words (chain_to g i)
unfolding chain_to
chain-words g h zero = tt
chain-words g h (suc i) = words-both (chain_to g i) _ (chain-words g h i) (words-rows (given_at g i) (things_at g i) (h i))

pub chain-are-bytes : (bs : List ℕ) → AreBytes bs → given_verdict bs ≡ Accepted → AreBytes (chain_bytes bs)
unfolding chain_bytes given_of
chain-are-bytes bs w e =
    let g = given_of bs in
    let c = chain_of g in
    let ok : Proper c = subst Proper (chain-table bs) (proper (chain_bytes bs) (chain-accepted bs e)) in
    table-are-bytes c (λ i l. (
      small (kind_at c i) (operands_at c i) (ok.rows i l).fits,
      words-at c (chain-words g (λ j. given-words bs w 0 (length bs / row_width) j) (length g)) i,
    ))
