-- The chain of an accepted table is an accepted table of 01. Assumes nothing.
use mathlib.Core.Path.{◌≡◌, refl, sym, ap, ◌∙◌}
use mathlib.Core.Logic.{◌⊎◌, inl, inr}
use mathlib.Core.Bool.{Bool, true, false, cond, not, ◌||◌}
use mathlib.Core.List.{List, [], ◌∷◌, ◌++◌}
use Prim.Native.Nat.{ℕ, zero, suc, ◌+◌, ◌-◌, ◌*◌, ◌/◌, ◌%◌, ◌≤◌, ◌<◌}
use native.Mathlib.Nat.{add-zero, le_refl, eq-or-lt_of_le, not-suc-le-zero}
use native.Mathlib.Decide.{le_ind}
use native.Mathlib.Omega.{arith}
use lib.Dec.{eqb, ltb}
use lib.ListN.{length, get_or, replicate, length-append, get_or-append}
use lib.Seq.{get_or-append-add}
use borrow.Author.Tests.{ltb-false, le-ltb, ne_eqb, eq-eqb}
use Rattle.rules.specs.declared.operands.Operands.{Operands}
use Rattle.rules.specs.declared.kind.Kind.{Kind}
use Rattle.rules.specs.declared.kind.Kind.TheVariants.{Function, Do, If, Else, Loop, End, Break, Continue, Call, Unknown}
use Rattle.rules.specs.declared.refusal.Refusal.TheVariants.{NoWholeRows, TooManyRows, WrongField, Misplaced, RepeatedCase}
use Rattle.rules.specs.Verdict.{Verdict, Accepted, Refused}
use Rattle.rules.specs.Limits.{max_rows}
use Rattle.rules.specs.Row.{Table, no_row, row_at, row_in, kind_at, row_width, table_bytes, table_of}
use Rattle.rules.specs.Scan.{Open, Shape, pushes, turns, closes, stays, shape_of, open_after_lem, regions, open_at, is_end_lem}
use Rattle.rules.specs.Refusal.{refuse_if_lem, and_then}
use Rattle.rules.specs.Check.{no_whole_rows, too_many_rows, is_outside, left_open_lem, row_verdict, rows_verdict, calls_verdict, table_verdict, verdict_of}
use Rattle.rules.specs.Switch.{GivenRow, as_is, switch_row, case_row, default_row, GivenTable, given_as, given_from, given_of, given_at, Switch, Thing, construct, switch, things_by, things_after, things_at, if_row, bare_row, else_after, chain_rows, chain_to, chain_of, chain_bytes}
use Rattle.rules.specs.Given.{given_fits, strays, is_any, repeats, span_verdict, given_row_verdict, given_rows_verdict, given_table_verdict, given_verdict}
use Rattle.rules.proofs.Logic.{clash}
use Rattle.rules.proofs.Accepted.{refused-not, then-left, then-right, whole-rows}
use Rattle.rules.proofs.Encode.{table-bytes-length, table-of}

-- ---- verdicts
pub then-assoc : (u v w : Verdict) → and_then (and_then u v) w ≡ and_then u (and_then v w)
then-assoc Accepted v w = refl
then-assoc (Refused r) v w = refl

pub then-accepted : (v : Verdict) → and_then v Accepted ≡ v
then-accepted Accepted = refl
then-accepted (Refused r) = refl

-- 01's verdict on more rows of a chain
pub spans : (c : Table) (j count : ℕ) → rows_verdict c (j + count) ≡ and_then (rows_verdict c j) (span_verdict c j count)
unfolding span_verdict rows_verdict
spans c j zero = ap (rows_verdict c) (add-zero j) ∙ sym (then-accepted (rows_verdict c j))
spans c j (suc n) =
    let q : j + suc n ≡ suc j + n = omega arith in
    ap (rows_verdict c) q ∙ spans c (suc j) n ∙ then-assoc (rows_verdict c j) (row_verdict c j) (span_verdict c (suc j) n)

-- ---- a row as given that has no fault
pub record SoundRow (g : GivenTable) (c : Table) (i : ℕ) : Type 0 where
  pub fits : given_fits (given_at g i) ≡ true
  pub placed : strays (given_at g i) (things_at g i) ≡ false
  pub first_use : repeats (given_at g i) (things_at g i) ≡ false
  pub chained : span_verdict c (length (chain_to g i)) (length (chain_rows (given_at g i) (things_at g i))) ≡ Accepted

row-causes : (a b c : Bool) (v : Verdict)
    → and_then (refuse_if_lem (not a) WrongField) (and_then (refuse_if_lem b Misplaced) (and_then (refuse_if_lem c RepeatedCase) v)) ≡ Accepted
    → (a ≡ true) × (b ≡ false) × (c ≡ false) × (v ≡ Accepted)
row-causes false b c v e = refused-not e
row-causes true true c v e = refused-not e
row-causes true false true v e = refused-not e
row-causes true false false v e = (refl, refl, refl, e)

pub sound-row : (g : GivenTable) (c : Table) (i : ℕ) → given_row_verdict g c i ≡ Accepted → SoundRow g c i
unfolding given_row_verdict
sound-row g c i e =
    let r = given_at g i in
    let ts = things_at g i in
    let q = row-causes (given_fits r) (strays r ts) (repeats r ts) (span_verdict c (length (chain_to g i)) (length (chain_rows r ts))) e in
    record { fits = q.0; placed = q.1; first_use = q.2; chained = q.3 }

pub sound-rows : (g : GivenTable) (c : Table) (n : ℕ) → given_rows_verdict g c n ≡ Accepted → (i : ℕ) → i < n → SoundRow g c i
unfolding given_rows_verdict
sound-rows g c zero e i h = absurd (not-suc-le-zero h)
sound-rows g c (suc n) e i h = by (eq-or-lt_of_le h) (λ l. sound-rows g c n (then-left _ _ e) i l)
  where
    by : (suc i ≡ suc n) ⊎ (suc i < suc n) → (i < n → SoundRow g c i) → SoundRow g c i
    by (inl q) ih =
        let r : i ≡ n = omega arith in
        sound-row g c i (ap (given_row_verdict g c) r ∙ then-right (given_rows_verdict g c n) _ e)
    by (inr l) ih = ih (omega arith)

-- ---- the chain grows row by row
pub chain-grows : (g : GivenTable) (i : ℕ) → length (chain_to g (suc i)) ≡ length (chain_to g i) + length (chain_rows (given_at g i) (things_at g i))
unfolding chain_to
chain-grows g i = length-append (chain_to g i) (chain_rows (given_at g i) (things_at g i))

-- the rows of the chain that row i stands for are in the chain of every longer part
pub record InChain (g : GivenTable) (i k n : ℕ) : Type 0 where
  pub below : length (chain_to g i) + k < length (chain_to g n)
  pub row_is : row_at (chain_to g n) (length (chain_to g i) + k) ≡ row_at (chain_rows (given_at g i) (things_at g i)) k

in-chain-next : (g : GivenTable) (i k n : ℕ) → InChain g i k n → InChain g i k (suc n)
unfolding chain_to
in-chain-next g i k n h =
    record {
      below = omega (arith, h.below, chain-grows g n);
      row_is = get_or-append (chain_to g n) (chain_rows (given_at g n) (things_at g n)) no_row (length (chain_to g i) + k) h.below ∙ h.row_is;
    }

pub in-chain : (g : GivenTable) (i k n : ℕ) → i < n → k < length (chain_rows (given_at g i) (things_at g i)) → InChain g i k n
unfolding chain_to
in-chain g i k n l h = le_ind (λ m. InChain g i k m)
    (record {
      below = omega (arith, h, chain-grows g i);
      row_is = get_or-append-add (chain_to g i) (chain_rows (given_at g i) (things_at g i)) k no_row;
    })
    (λ m a q. in-chain-next g i k m q) n l

pub chain-mono : (g : GivenTable) (i n : ℕ) → i ≤ n → length (chain_to g i) ≤ length (chain_to g n)
chain-mono g i n h =
    le_ind (λ m. length (chain_to g i) ≤ length (chain_to g m)) (le_refl _) (λ m l p. omega (arith, p, chain-grows g m)) n h

-- 01 finds no fault in the chain's rows
pub rows-accepted : (g : GivenTable) (c : Table) (n : ℕ) → given_rows_verdict g c n ≡ Accepted → rows_verdict c (length (chain_to g n)) ≡ Accepted
unfolding given_rows_verdict chain_to rows_verdict
rows-accepted g c zero e = refl
rows-accepted g c (suc n) e =
    let j = length (chain_to g n) in
    let k = length (chain_rows (given_at g n) (things_at g n)) in
    ap (rows_verdict c) (chain-grows g n) ∙ spans c j k
    ∙ ap (λ v. and_then v (span_verdict c j k)) (rows-accepted g c n (then-left _ _ e))
    ∙ (sound-row g c n (then-right (given_rows_verdict g c n) _ e)).chained

-- ---- as many parts are open in the chain as the things open as given stand for
abbrev pub depth : List Thing → ℕ
depth [] = 0
depth (construct ∷ ts) = suc (depth ts)
depth (switch s ∷ ts) = length s.used + depth ts

abbrev depth_by : Shape → ℕ → ℕ
depth_by (pushes p) d = suc d
depth_by turns d = d
depth_by closes d = d - 1
depth_by stays d = d

abbrev depth_over : Table → ℕ → ℕ
depth_over [] d = d
depth_over (r ∷ rs) d = depth_over rs (depth_by (shape_of r.kind) d)

open_by : (s : Shape) (i g : ℕ) (fs : List Open) → length (open_after_lem s i g fs) ≡ depth_by s (length fs)
open_by (pushes p) i g fs = refl
open_by turns i g [] = refl
open_by turns i g (f ∷ fs) = refl
open_by closes i g [] = refl
open_by closes i g (f ∷ fs) = omega arith
open_by stays i g fs = refl

open-over : (c : Table) (j : ℕ) (rs : Table) → ((k : ℕ) → k < length rs → row_at c (j + k) ≡ row_at rs k)
    → length (open_at c (j + length rs)) ≡ depth_over rs (length (open_at c j))
unfolding open_at
open-over c j [] h = ap (λ x. length (open_at c x)) (add-zero j)
open-over c j (r ∷ rs) h =
    let q : j + suc (length rs) ≡ suc j + length rs = omega arith in
    let here : kind_at c j ≡ r.kind = ap (kind_at c) (sym (add-zero j)) ∙ ap (λ x. x.kind) (h 0 (omega arith)) in
    ap (λ x. length (open_at c x)) q
    ∙ open-over c (suc j) rs (λ k l. let m : suc j + k ≡ j + suc k = omega arith in ap (row_at c) m ∙ h (suc k) (omega arith))
    ∙ ap (depth_over rs) (open_by (shape_of (kind_at c j)) j (regions c j) (open_at c j) ∙ ap (λ k. depth_by (shape_of k) (length (open_at c j))) here)

ends-depth : (n d : ℕ) → d ≡ depth_over (replicate n (bare_row End)) (n + d)
ends-depth zero d = omega arith
ends-depth (suc n) d =
    let q : n + d ≡ suc n + d - 1 = omega arith in
    ends-depth n d ∙ ap (depth_over (replicate n (bare_row End))) q

shape-outside : (s : Shape) → depth (things_by s []) ≡ depth_by s 0
shape-outside (pushes p) = refl
shape-outside turns = refl
shape-outside closes = refl
shape-outside stays = refl

shape-inside : (s : Shape) (ts : List Thing) → depth (things_by s (construct ∷ ts)) ≡ depth_by s (suc (depth ts))
shape-inside (pushes p) ts = refl
shape-inside turns ts = refl
shape-inside closes ts = omega arith
shape-inside stays ts = refl

kind-inside : (k : Kind) (o : Operands) (s : Switch) (ts : List Thing)
    → depth (things_by (shape_of k) (switch s ∷ ts))
    ≡ depth_over (cond (is_end_lem k) (replicate (length s.used) (bare_row End)) (record { kind = k; operands = o } ∷ [])) (length s.used + depth ts)
kind-inside Function o s ts = refl
kind-inside Do o s ts = refl
kind-inside If o s ts = refl
kind-inside Else o s ts = refl
kind-inside Loop o s ts = refl
kind-inside End o s ts = ends-depth (length s.used) (depth ts)
kind-inside Break o s ts = refl
kind-inside Continue o s ts = refl
kind-inside Call o s ts = refl
kind-inside Unknown o s ts = refl

case-depth : (used : List ℕ) (p n d : ℕ) → suc (length used) + d ≡ depth_over (else_after used ++ (if_row p n ∷ [])) (length used + d)
case-depth [] p n d = omega arith
case-depth (m ∷ ms) p n d = omega arith

default-depth : (used : List ℕ) (d : ℕ) → length used + d ≡ depth_over (else_after used) (length used + d)
default-depth [] d = refl
default-depth (m ∷ ms) d = refl

depth-after : (r : GivenRow) (ts : List Thing) → depth (things_after r ts) ≡ depth_over (chain_rows r ts) (depth ts)
depth-after (as_is r) [] = shape-outside (shape_of r.kind)
depth-after (as_is r) (construct ∷ ts) = shape-inside (shape_of r.kind) ts
depth-after (as_is r) (switch s ∷ ts) = kind-inside r.kind r.operands s ts
depth-after (switch_row o) ts = omega arith
depth-after (case_row o) [] = refl
depth-after (case_row o) (construct ∷ ts) = refl
depth-after (case_row o) (switch s ∷ ts) = case-depth s.used s.p o.n (depth ts)
depth-after (default_row o) [] = refl
depth-after (default_row o) (construct ∷ ts) = refl
depth-after (default_row o) (switch s ∷ ts) = default-depth s.used (depth ts)

pub open-depth : (g : GivenTable) (n i : ℕ) → i ≤ n → length (open_at (chain_to g n) (length (chain_to g i))) ≡ depth (things_at g i)
unfolding things_at chain_to open_at
open-depth g n zero h = refl
open-depth g n (suc i) h =
    let rs = chain_rows (given_at g i) (things_at g i) in
    ap (λ x. length (open_at (chain_to g n) x)) (chain-grows g i)
    ∙ open-over (chain_to g n) (length (chain_to g i)) rs (λ k l. (in-chain g i k n h l).row_is)
    ∙ ap (depth_over rs) (open-depth g n i (omega arith)) ∙ sym (depth-after (given_at g i) (things_at g i))

-- ---- nothing is left open in the chain
none_open : (ts : List Thing) → is_any ts ≡ false → depth ts ≡ 0
none_open [] e = refl
none_open (t ∷ ts) e = clash refl e

nothing_left : (fs : List Open) → length fs ≡ 0 → is_outside fs ≡ true
nothing_left [] e = refl
nothing_left (f ∷ fs) e = absurd (omega arith)

pub chain-closed : (g : GivenTable) → is_any (things_at g (length g)) ≡ false → left_open_lem (chain_of g) ≡ false
chain-closed g e =
    ap not (nothing_left (open_at (chain_of g) (length (chain_of g))) (open-depth g (length g) (length g) (le_refl _) ∙ none_open (things_at g (length g)) e))

-- ---- the chain has a row
first-stands : (r : GivenRow) → strays r [] ≡ false → length (chain_rows r []) ≡ 1
unfolding strays
first-stands (as_is r) e = refl
first-stands (switch_row o) e = clash refl e
first-stands (case_row o) e = clash refl e
first-stands (default_row o) e = clash refl e

pub chain-some : (g : GivenTable) (c : Table) → 0 < length g → given_rows_verdict g c (length g) ≡ Accepted → 0 < length (chain_of g)
unfolding things_at chain_to
chain-some g c h e =
    let one : length (chain_to g 1) ≡ 1 = chain-grows g 0 ∙ ap (λ x. 0 + x) (first-stands (given_at g 0) (sound-rows g c (length g) e 0 h).placed) in
    omega (arith, one, chain-mono g 1 (length g) h)

-- ---- an accepted table as given
given-from : (bs : List ℕ) (i n : ℕ) → length (given_from bs i n) ≡ n
unfolding given_from
given-from bs i zero = refl
given-from bs i (suc n) = ap suc (given-from bs (suc i) n)

pub given-length : (bs : List ℕ) → length (given_of bs) ≡ length bs / row_width
unfolding given_of
given-length bs = given-from bs 0 (length bs / row_width)

-- a row as the bytes have it
from_at : (bs : List ℕ) (i n j : ℕ) → j < n → given_at (given_from bs i n) j ≡ given_as (get_or bs (row_width * (i + j)) 0) (row_in bs (row_width * (i + j)))
unfolding given_from
from_at bs i zero j l = absurd (omega arith)
from_at bs i (suc n) zero l = ap (λ k. given_as (get_or bs (row_width * k) 0) (row_in bs (row_width * k))) (sym (add-zero i))
from_at bs i (suc n) (suc j) l =
    let q : suc i + j ≡ i + suc j = omega arith in
    from_at bs (suc i) n j (omega arith) ∙ ap (λ k. given_as (get_or bs (row_width * k) 0) (row_in bs (row_width * k))) q

pub row-given : (bs : List ℕ) (i : ℕ) → i < length bs / row_width → given_at (given_of bs) i ≡ given_as (get_or bs (row_width * i) 0) (row_in bs (row_width * i))
unfolding given_of
row-given bs i h =
    let z : 0 + i ≡ i = omega arith in
    from_at bs 0 (length bs / row_width) i h ∙ ap (λ k. given_as (get_or bs (row_width * k) 0) (row_in bs (row_width * k))) z

pub record Sound (bs : List ℕ) : Type 0 where
  pub whole : no_whole_rows bs ≡ false
  pub few : too_many_rows bs ≡ false
  pub rows : given_rows_verdict (given_of bs) (chain_of (given_of bs)) (length (given_of bs)) ≡ Accepted
  pub closed : is_any (things_at (given_of bs) (length (given_of bs))) ≡ false
  pub few_chained : length (chain_of (given_of bs)) ≤ max_rows
  pub calls : calls_verdict (chain_of (given_of bs)) (length (chain_of (given_of bs))) ≡ Accepted

all-causes : (a b : Bool) (rows : Verdict) (c d : Bool) (calls : Verdict)
    → and_then (refuse_if_lem a NoWholeRows) (and_then (refuse_if_lem b TooManyRows)
    (and_then rows (and_then (refuse_if_lem c Misplaced) (and_then (refuse_if_lem d TooManyRows) calls)))) ≡ Accepted
    → (a ≡ false) × (b ≡ false) × (rows ≡ Accepted) × (c ≡ false) × (d ≡ false) × (calls ≡ Accepted)
all-causes true b rows c d calls e = refused-not e
all-causes false true rows c d calls e = refused-not e
all-causes false false (Refused r) c d calls e = refused-not e
all-causes false false Accepted true d calls e = refused-not e
all-causes false false Accepted false true calls e = refused-not e
all-causes false false Accepted false false calls e = (refl, refl, refl, refl, refl, e)

pub sound : (bs : List ℕ) → given_verdict bs ≡ Accepted → Sound bs
unfolding given_verdict given_table_verdict
sound bs e =
    let g = given_of bs in
    let c = chain_of g in
    let q = all-causes (no_whole_rows bs) (too_many_rows bs) (given_rows_verdict g c (length g)) (is_any (things_at g (length g)))
    (ltb max_rows (length c)) (calls_verdict c (length c)) e in
    record {
      whole = q.0;
      few = q.1;
      rows = q.2;
      closed = q.3;
      few_chained = ltb-false max_rows (length c) q.4;
      calls = q.5;
    }

-- ---- its chain is an accepted table of 01
pub chain-table : (bs : List ℕ) → table_of (chain_bytes bs) ≡ chain_of (given_of bs)
unfolding chain_bytes
chain-table bs = table-of (chain_of (given_of bs))

table-accepted : (c : Table) → rows_verdict c (length c) ≡ Accepted → left_open_lem c ≡ false → calls_verdict c (length c) ≡ Accepted → table_verdict c ≡ Accepted
unfolding table_verdict
table-accepted c r o k =
    ap (λ v. and_then v (and_then (refuse_if_lem (left_open_lem c) Misplaced) (calls_verdict c (length c)))) r
    ∙ ap (λ b. and_then (refuse_if_lem b Misplaced) (calls_verdict c (length c))) o ∙ k

bytes-accepted : (c : Table) → 0 < length c → length c ≤ max_rows → table_verdict c ≡ Accepted → verdict_of (table_bytes c) ≡ Accepted
unfolding verdict_of
bytes-accepted c some few ok =
    let l = table-bytes-length c in
    let n : length (table_bytes c) ≡ 0 → ⊥ = λ z. omega arith in
    let whole : no_whole_rows (table_bytes c) ≡ false
    = ap (λ b. b || not (eqb (length (table_bytes c) % row_width) 0)) (ne_eqb (length (table_bytes c)) 0 n)
    ∙ ap not (eq-eqb (length (table_bytes c) % row_width) 0 (omega arith)) in
    ap (λ b. and_then (refuse_if_lem b NoWholeRows) (and_then (refuse_if_lem (too_many_rows (table_bytes c)) TooManyRows) (table_verdict (table_of (table_bytes c))))) whole
    ∙ ap (λ b. and_then (refuse_if_lem b TooManyRows) (table_verdict (table_of (table_bytes c)))) (le-ltb max_rows (length (table_bytes c) / row_width) (omega arith))
    ∙ ap table_verdict (table-of c) ∙ ok

pub chain-accepted : (bs : List ℕ) → given_verdict bs ≡ Accepted → verdict_of (chain_bytes bs) ≡ Accepted
unfolding chain_bytes
chain-accepted bs e =
    let s = sound bs e in
    let g = given_of bs in
    let c = chain_of g in
    let h : 0 < length g = omega (arith, given-length bs, (whole-rows bs s.whole).0) in
    bytes-accepted c (chain-some g c h s.rows) s.few_chained
    (table-accepted c (rows-accepted g c (length g) s.rows) (chain-closed g s.closed) s.calls)
