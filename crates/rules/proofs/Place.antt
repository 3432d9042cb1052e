-- Where functions begin and end among the lines of the hardened table of an accepted table, and which row a line belongs to.
use mathlib.Core.Logic.{◌⊎◌, inl, inr}
use mathlib.Core.Path.{◌≡◌, refl, sym, ap, ◌∙◌, subst}
use mathlib.Core.Bool.{Bool, true, false, cond}
use mathlib.Core.List.{List, [], ◌∷◌, ◌++◌}
use Prim.Native.Nat.{ℕ, zero, suc, ◌+◌, ◌-◌, ◌≤◌, ◌<◌}
use native.Mathlib.Nat.{le_refl, eq-or-lt_of_le, not-suc-le-zero, add-zero}
use native.Mathlib.Decide.{le_ind, dec_lt, dec_le}
use native.Mathlib.Omega.{arith}
use lib.ListN.{length}
use lib.Dec.{eqb}
use borrow.Author.Tests.{eq-eqb, ne_eqb}
use Rattle.rules.specs.declared.kind.Kind.{Kind}
use Rattle.rules.specs.declared.kind.Kind.TheVariants.{Function, Do, If, Else, Loop, End, Break, Continue, Call, Unknown}
use Rattle.rules.specs.Row.{Table, kind_at}
use Rattle.rules.specs.Scan.{Part, body, then_part, else_part, loop_body, Open, shape_of, open_after_lem, regions, open_at, part_of, has_else, is_function_lem, functions, function_count, function_row, end_of}
use Rattle.rules.specs.Check.{misplaced_in}
use Rattle.rules.specs.Value.{value}
use Rattle.rules.specs.Line.{Line, line_at, is_ret}
use Rattle.rules.specs.Harden.{line_count, line_of, test_of, end_line, end_value, row_lines, lines_of, harden_to, harden}
use Rattle.rules.specs.Function.{function_at, start_of, finish_of, a_of_ret, ret_value}
use Rattle.rules.proofs.Logic.{clash}
use Rattle.rules.proofs.Search.{first_is}
use Rattle.rules.proofs.Accepted.{Proper}
use Rattle.rules.proofs.Scan.{open_next}
use Rattle.rules.proofs.Value.{Silent, a_function}
use Rattle.rules.proofs.Harden.{line-mono, line-suc, line-next, line-at, harden-length, harden-split}
use Rattle.rules.proofs.Function.{is_body_lem, Formed, formed, FunctionAt, function-at, functions-mono, opens-function, InFunction, function-end, not-past-end, not-silent, after_it, Somewhere, somewhere}

-- ---- the rets of some lines
abbrev pub one_if : Bool → ℕ
one_if b = cond b 1 0

rets : List Line → ℕ
rets [] = 0
rets (l ∷ ls) = one_if (is_ret l) + rets ls

rets-append : (a b : List Line) → rets (a ++ b) ≡ rets a + rets b
unfolding rets
rets-append [] b = omega arith
rets-append (x ∷ a) b = omega (arith, rets-append a b)

function-at-seam : (a b : List Line) → function_at (a ++ b) (length a) ≡ rets a
unfolding rets function_at
function-at-seam [] b = refl
function-at-seam (x ∷ a) b = ap (λ k. one_if (is_ret x) + k) (function-at-seam a b)

pub function-at-next : (ls : List Line) (k : ℕ) → k < length ls → function_at ls (suc k) ≡ function_at ls k + one_if (is_ret (line_at ls k))
unfolding function_at
function-at-next [] k h = absurd (not-suc-le-zero h)
function-at-next (l ∷ ls) zero h = omega arith
function-at-next (l ∷ ls) (suc k) h = omega (arith, function-at-next ls k (omega arith))

-- ---- as many rets stand before row i as functions opened, less the one that is open
occupied : List Open → ℕ
occupied [] = 0
occupied (f ∷ fs) = 1

pub test-no-ret : (t : Table) (i : ℕ) (fs : List Open) (b : Bool) → is_ret (test_of t i fs b) ≡ false
unfolding test_of
test-no-ret t i fs true = refl
test-no-ret t i fs false = refl

pub end-ret : (t : Table) (i : ℕ) (fs : List Open) (p : Part) → is_ret (end_line t i fs p) ≡ is_body_lem p
end-ret t i fs body = refl
end-ret t i fs then_part = refl
end-ret t i fs else_part = refl
end-ret t i fs loop_body = refl

counts-next : (t : Table) (i : ℕ) (k : Kind) (fs : List Open) (x c : ℕ) → misplaced_in k fs ≡ false → Formed t fs → x + occupied fs ≡ c
    → (x + rets (row_lines t i fs k)) + occupied (open_after_lem (shape_of k) i (regions t i) fs) ≡ cond (is_function_lem k) (suc c) c
unfolding rets row_lines occupied misplaced_in
counts-next t i Function [] x c p g e = omega arith
counts-next t i Function (f ∷ fs) x c p g e = clash refl p
counts-next t i Do [] x c p g e = omega arith
counts-next t i Do (f ∷ fs) x c p g e = omega arith
counts-next t i If [] x c p g e = clash refl p
counts-next t i If (f ∷ fs) x c p g e = rw (test-no-ret t i (f ∷ fs) (has_else t i)) (omega arith)
counts-next t i Else [] x c p g e = clash refl p
counts-next t i Else (f ∷ fs) x c p g e = omega arith
counts-next t i Loop [] x c p g e = clash refl p
counts-next t i Loop (f ∷ fs) x c p g e = rw (test-no-ret t i (f ∷ fs) false) (omega arith)
counts-next t i End [] x c p g e = clash refl p
counts-next t i End (f ∷ []) x c p g e = rw (end-ret t i (f ∷ []) f.part, g.0) (omega arith)
counts-next t i End (f ∷ h ∷ hs) x c p g e = rw (end-ret t i (f ∷ h ∷ hs) f.part, g.0) (omega arith)
counts-next t i Break [] x c p g e = omega arith
counts-next t i Break (f ∷ fs) x c p g e = omega arith
counts-next t i Continue [] x c p g e = omega arith
counts-next t i Continue (f ∷ fs) x c p g e = omega arith
counts-next t i Call [] x c p g e = omega arith
counts-next t i Call (f ∷ fs) x c p g e = omega arith
counts-next t i Unknown fs x c p g e = omega arith

counts : (t : Table) → Proper t → (i : ℕ) → i ≤ length t → rets (harden_to t i) + occupied (open_at t i) ≡ functions t i
unfolding harden_to open_at functions rets occupied
counts t ok zero h = refl
counts t ok (suc i) h = rw (rets-append (harden_to t i) (lines_of t i))
    (counts-next t i (kind_at t i) (open_at t i) (rets (harden_to t i)) (functions t i) (ok.rows i h).placed (formed t ok i (omega arith)) (counts t ok i (omega arith)))

rets-before : (t : Table) (i : ℕ) → i ≤ length t → function_at (harden t) (line_of t i) ≡ rets (harden_to t i)
rets-before t i h =
    let s = harden-split t i (length t) h in
    ap (λ k. function_at (harden t) k) (sym (harden-length t i)) ∙ ap (λ ls. function_at ls (length (harden_to t i))) s.1 ∙ function-at-seam (harden_to t i) s.0

-- outside of functions, and inside
pub function-outside : (t : Table) → Proper t → (i : ℕ) → i ≤ length t → open_at t i ≡ [] → function_at (harden t) (line_of t i) ≡ functions t i
unfolding occupied
function-outside t ok i h q = rets-before t i h ∙ omega (arith, counts t ok i h, ap occupied q)

pub function_inside : (t : Table) → Proper t → (i : ℕ) {f : Open} {fs : List Open} → i ≤ length t → open_at t i ≡ f ∷ fs → suc (function_at (harden t) (line_of t i)) ≡ functions t i
unfolding occupied
function_inside t ok i h q = ap suc (rets-before t i h) ∙ omega (arith, counts t ok i h, ap occupied q)

-- ---- functions t i, in terms of the function that row i stands in
pub functions-next : (t : Table) (i : ℕ) {k : Kind} → kind_at t i ≡ k → functions t (suc i) ≡ cond (is_function_lem k) (suc (functions t i)) (functions t i)
unfolding functions
functions-next t i e = ap (λ x. cond (is_function_lem x) (suc (functions t i)) (functions t i)) e

pub functions-home : (t : Table) → Proper t → (n : ℕ) → n < function_count t → (j : ℕ) → suc (function_row t n) ≤ j → j ≤ end_of t (function_row t n) → functions t j ≡ suc n
functions-home t ok n k j h = le_ind (λ x. x ≤ end_of t (function_row t n) → functions t x ≡ suc n)
    (λ b. functions-next t (function_row t n) a.kind_is ∙ ap suc a.counted)
    (λ x l ih b. let s = somewhere t ok n k x l (omega arith) in same x s.in_function (kind_at t x) refl ∙ ih (omega arith)) j h
  where
    a : FunctionAt t n (function_row t n)
    a = function-at t ok n k

    same : (x : ℕ) {f : Open} {fs : List Open} → InFunction t n x f fs → (c : Kind) → kind_at t x ≡ c → functions t (suc x) ≡ functions t x
    same x m Function e = absurd (not-silent t ok x m.within m.open_is (subst Silent (sym e) a_function))
    same x m Do e = functions-next t x e
    same x m If e = functions-next t x e
    same x m Else e = functions-next t x e
    same x m Loop e = functions-next t x e
    same x m End e = functions-next t x e
    same x m Break e = functions-next t x e
    same x m Continue e = functions-next t x e
    same x m Call e = functions-next t x e
    same x m Unknown e = functions-next t x e

-- ---- the row that a line belongs to
pub record Spot (t : Table) (k m : ℕ) : Type 0 where
  pub row : ℕ
  pub ph : ℕ
  pub row_lt : row < m
  pub ph_lt : ph < line_count (kind_at t row)
  pub is : k ≡ line_of t row + ph

pub locate : (t : Table) (m k : ℕ) → k < line_of t m → Spot t k m
unfolding line_of
locate t zero k h = absurd (not-suc-le-zero h)
locate t (suc m) k h = by (dec_lt k (line_of t m)) (λ l. locate t m k l)
  where
    by : Dec (k < line_of t m) → (k < line_of t m → Spot t k m) → Spot t k (suc m)
    by (yes l) ih =
        let s = ih l in
        record { row = s.row; ph = s.ph; row_lt = omega (arith, s.row_lt); ph_lt = s.ph_lt; is = s.is }
    by (no l) ih = record { row = m; ph = k - line_of t m; row_lt = le_refl _; ph_lt = omega arith; is = omega arith }

pub function-at-mono : (ls : List Line) {k : ℕ} (m : ℕ) → k ≤ m → m ≤ length ls → function_at ls k ≤ function_at ls m
function-at-mono ls {k} m h = le_ind (λ x. x ≤ length ls → function_at ls k ≤ function_at ls x) (λ b. le_refl _)
    (λ x l ih b. omega (arith, ih (omega arith), function-at-next ls x b)) m h

pub lines_all : (t : Table) → length (harden t) ≡ line_of t (length t)
lines_all t = harden-length t (length t)

-- ---- a line of a row before row o belongs to a function opened before it
module _ (t : Table) (ok : Proper t) (o j : ℕ) (h : o ≤ length t) (l : j < o) where
  has-open : 0 < line_count (kind_at t j) → (fs : List Open) → open_at t j ≡ fs → (f : Open) × (hs : List Open) × (open_at t j ≡ f ∷ hs)
  has-open c [] q = absurd (omega (arith, ap line_count (opens-function t ok j (omega arith) q)))
  has-open c (f ∷ fs) q = (f, fs, q)

  first-line : 0 < line_count (kind_at t j) → function_at (harden t) (line_of t j) < functions t o
  first-line c =
      let q = has-open c (open_at t j) refl in
      omega (arith, function_inside t ok j (omega arith) q.2, functions-mono t {i = j} o (omega arith))

  -- a line of a row after which parts are open
  inner-line : (ph : ℕ) (k : Kind) → kind_at t j ≡ k → ph < line_count k → (g : Open) (gs : List Open) → open_at t (suc j) ≡ g ∷ gs → function_at (harden t) (line_of t j + ph) < functions t o
  inner-line ph k e c g gs r =
      omega
      (arith, function_inside t ok (suc j) (omega arith) r, functions-mono t {i = suc j} o l, function-at-mono (harden t) {k = line_of t j + ph} (line_of t (suc j)) (omega (arith, line-suc t j e)) (omega (arith, lines_all t, line-mono t {i = suc j} (length t) (omega arith))))

  -- the parts that are open at a row with lines
  parts : (k : Kind) → kind_at t j ≡ k → 0 < line_count k → (f : Open) × (hs : List Open) × (open_at t j ≡ f ∷ hs)
  parts k e c = has-open (omega (arith, ap line_count e)) (open_at t j) refl

  later-line : (x : ℕ) (k : Kind) → kind_at t j ≡ k → suc x < line_count k → function_at (harden t) (line_of t j + suc x) < functions t o
  later-line x Function e q = absurd (omega arith)
  later-line x Do e q = let p = parts Do e (omega arith) in inner-line (suc x) Do e q p.0 p.1 (open_next t j e p.2)
  later-line x If e q = absurd (omega arith)
  later-line x Else e q = absurd (omega arith)
  later-line x Loop e q = absurd (omega arith)
  later-line x End e q = absurd (omega arith)
  later-line x Break e q = absurd (omega arith)
  later-line x Continue e q = absurd (omega arith)
  later-line x Call e q = let p = parts Call e (omega arith) in inner-line (suc x) Call e q p.0 p.1 (open_next t j e p.2)
  later-line x Unknown e q = absurd (omega arith)

  earlier : (ph : ℕ) → ph < line_count (kind_at t j) → function_at (harden t) (line_of t j + ph) < functions t o
  earlier zero q = subst (λ y. function_at (harden t) y < functions t o) (sym (add-zero (line_of t j))) (first-line q)
  earlier (suc x) q = later-line x (kind_at t j) refl q

before-row : (t : Table) → Proper t → (o k : ℕ) → o ≤ length t → k < line_of t o → function_at (harden t) k < functions t o
before-row t ok o k h l =
    let s = locate t o k l in
    subst (λ y. function_at (harden t) y < functions t o) (sym s.is) (earlier t ok o s.row h s.row_lt s.ph s.ph_lt)

-- the first line that belongs to function n, where row o is the first row after n functions
first-line-is : (t : Table) → Proper t → (n o : ℕ) → o ≤ length t → open_at t o ≡ [] → functions t o ≡ n → start_of (harden t) n ≡ line_of t o
unfolding start_of
first-line-is t ok n o h q c =
    first_is (λ k. eqb (function_at (harden t) k) n) (length (harden t)) 0 (line_of t o) (omega arith) (omega (arith, lines_all t, line-mono t {i = o} (length t) h))
    (λ b. eq-eqb _ _ (function-outside t ok o h q ∙ c)) (λ m a b. ne_eqb _ _ (λ e. omega (arith, before-row t ok o m h b, c)))

pub start_is : (t : Table) → Proper t → (n : ℕ) → n < function_count t → start_of (harden t) n ≡ line_of t (function_row t n)
start_is t ok n k = let a = function-at t ok n k in first-line-is t ok n (function_row t n) (omega (arith, a.within)) a.bare a.counted

pub finish-is : (t : Table) → Proper t → (n : ℕ) → n < function_count t → finish_of (harden t) n ≡ line_of t (suc (end_of t (function_row t n)))
finish-is t ok n k =
    let e = function-end t ok n k in
    first-line-is t ok (suc n) (suc (end_of t (function_row t n))) e.1.within e.1.open_after
    (functions-next t (end_of t (function_row t n)) e.1.kind_is ∙ functions-home t ok n k (end_of t (function_row t n)) (after_it t ok n k) (le_refl _))

pub ret-value : (t : Table) → Proper t → (n : ℕ) → n < function_count t → ret_value (harden t) n ≡ end_value t n
unfolding end_value row_lines
ret-value t ok n k =
    let e = function-end t ok n k in
    let o = end_of t (function_row t n) in
    let q : finish_of (harden t) n - 1 ≡ line_of t o + 0 = omega (arith, finish-is t ok n k, line-suc t o e.1.kind_is) in
    ap (λ x. a_of_ret (line_at (harden t) x)) q ∙ ap a_of_ret (line-at t o 0 e.1.within (omega (arith, ap line_count e.1.kind_is)))
    ∙ ap (λ c. a_of_ret (line_at (row_lines t o (open_at t o) c) 0)) e.1.kind_is ∙ ap (λ fs. a_of_ret (end_line t o fs (part_of fs))) e.1.open_is
    ∙ ap (λ p. a_of_ret (end_line t o (e.0 ∷ []) p)) e.1.is_body ∙ ap (λ g. value t g o + 1) e.1.region_is

-- the function that a call's line goes to
pub callee : (t : Table) → Proper t → (n : ℕ) → n < function_count t → function_at (harden t) (line_of t (suc (function_row t n))) ≡ n
callee t ok n k =
    let a = function-at t ok n k in
    ap (function_at (harden t)) (line-suc t (function_row t n) a.kind_is ∙ add-zero _) ∙ function-outside t ok (function_row t n) (omega (arith, a.within)) a.bare ∙ a.counted

-- ---- the places of function n
pub before_finish : (t : Table) → Proper t → {n i : ℕ} {f : Open} {fs : List Open} → InFunction t n i f fs → line_of t i + line_count (kind_at t i) ≤ finish_of (harden t) n
before_finish t ok {n} {i} m =
    omega (arith, finish-is t ok n m.known, line-next t i (suc (end_of t (function_row t n))) (omega (arith, not-past-end t ok m)))

pub start-finish : (t : Table) → Proper t → (n : ℕ) → n < function_count t → start_of (harden t) n ≤ finish_of (harden t) n
start-finish t ok n k =
    omega (arith, start_is t ok n k, finish-is t ok n k, line-mono t {i = function_row t n} (suc (end_of t (function_row t n))) (omega (arith, after_it t ok n k)))

-- every line of function n is a line of one of its rows
pub record LineOf (t : Table) (n k : ℕ) : Type 0 where
  pub row : ℕ
  pub ph : ℕ
  pub ph_lt : ph < line_count (kind_at t row)
  pub is : k ≡ line_of t row + ph
  pub top : Open
  pub others : List Open
  pub in_function : InFunction t n row top others

pub line-of : (t : Table) → Proper t → (n k : ℕ) → n < function_count t → start_of (harden t) n ≤ k → k < finish_of (harden t) n → LineOf t n k
line-of t ok n k kn a b = by (locate t (suc (end_of t (function_row t n))) k (omega (arith, finish-is t ok n kn)))
  where
    fa : FunctionAt t n (function_row t n)
    fa = function-at t ok n kn

    by : Spot t k (suc (end_of t (function_row t n))) → LineOf t n k
    by s = record { row = s.row; ph = s.ph; ph_lt = s.ph_lt; is = s.is; top = w.top; others = w.others; in_function = w.in_function }
      where
        past : Dec (suc (function_row t n) ≤ s.row) → suc (function_row t n) ≤ s.row
        past (yes x) = x
        past (no x) = absurd (no_line (eq-or-lt_of_le (omega arith)))
          where
            no_line : (s.row ≡ function_row t n) ⊎ (s.row < function_row t n) → ⊥
            no_line (inl e) = omega (arith, s.ph_lt, ap (λ y. line_count (kind_at t y)) e ∙ ap line_count fa.kind_is)
            no_line (inr l) = omega (arith, s.ph_lt, s.is, line-next t s.row (function_row t n) l, start_is t ok n kn)

        w : Somewhere t n s.row
        w = somewhere t ok n kn s.row (past (dec_le (suc (function_row t n)) s.row)) (omega (arith, s.row_lt))
