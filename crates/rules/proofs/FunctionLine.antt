-- The function that each line belongs to: every line is a line of some function's row, `function_at` counts that function, and the
-- lines of its rows lie inside it. Assumes that the table is accepted.
use mathlib.Core.Logic.{◌⊎◌, inl, inr}
use mathlib.Core.Path.{◌≡◌, refl, sym, ap, ◌∙◌, subst}
use mathlib.Core.Bool.{Bool, true, false, cond, ◌&&◌}
use mathlib.Core.List.{List, [], ◌∷◌}
use Prim.Native.Nat.{ℕ, zero, suc, ◌+◌, ◌≤◌, ◌<◌}
use native.Mathlib.Nat.{eq-or-lt_of_le, add-zero}
use native.Mathlib.Omega.{arith}
use lib.ListN.{length}
use lib.Dec.{eqb}
use borrow.Author.Tests.{eq-eqb, ne_eqb}
use Rattle.rules.specs.declared.kind.Kind.{Kind}
use Rattle.rules.specs.declared.kind.Kind.TheVariants.{Function, Do, If, Else, Loop, End, Break, Continue, Call, Unknown}
use Rattle.rules.specs.Row.{Table, kind_at}
use Rattle.rules.specs.Scan.{body, Open, pushes, shape_of, open_at, is_function_lem, functions, function_row, end_of}
use Rattle.rules.specs.Harden.{line_count, line_of, harden}
use Rattle.rules.specs.Function.{function_at}
use Rattle.rules.specs.Bounds.{LineIn}
use Rattle.rules.proofs.Search.{first_is}
use Rattle.rules.proofs.Accepted.{Proper}
use Rattle.rules.proofs.Scan.{origin}
use Rattle.rules.proofs.Value.{AllHeld, held}
use Rattle.rules.proofs.Harden.{line-mono, line-suc, line-next, some_line}
use Rattle.rules.proofs.Function.{Formed, formed, home, not-silent, opens-function, functions-mono, InFunction, function-end, not-past-end, Somewhere, somewhere}
use Rattle.rules.proofs.Place.{function_inside, function-at-mono, lines_all, functions-next, functions-home, start_is, before_finish, Spot, locate, LineOf}

-- ---- the row that opened the function
pushes-body : (k : Kind) → shape_of k ≡ pushes body → k ≡ Function
pushes-body Function e = refl
pushes-body Do e = cc
pushes-body If e = cc
pushes-body Else e = cc
pushes-body Loop e = cc
pushes-body End e = cc
pushes-body Break e = cc
pushes-body Continue e = cc
pushes-body Call e = cc
pushes-body Unknown e = cc

home-function : (t : Table) (i : ℕ) (f : Open) (fs : List Open) → Formed t (f ∷ fs) → AllHeld t i (f ∷ fs) → kind_at t (home (f ∷ fs)) ≡ Function
home-function t i f [] g a = pushes-body (kind_at t f.opener) (a.0.by ∙ ap (λ p. pushes (origin p)) g.0)
home-function t i f (h ∷ hs) g a = home-function t i h hs g.1 a.1

home-before : (t : Table) (i : ℕ) (f : Open) (fs : List Open) → AllHeld t i (f ∷ fs) → home (f ∷ fs) < i
home-before t i f [] a = a.0.before
home-before t i f (h ∷ hs) a = home-before t i h hs a.1

all_held : (t : Table) (i : ℕ) {fs : List Open} → open_at t i ≡ fs → AllHeld t i fs
all_held t i q = subst (AllHeld t i) q (held t i)

-- the function rows before row o are of lower numbers
lower : (t : Table) (o m : ℕ) → m < o → is_function_lem (kind_at t m) && eqb (functions t m) (functions t o) ≡ false
lower t o m l = by (is_function_lem (kind_at t m)) refl
  where
    by : (b : Bool) → is_function_lem (kind_at t m) ≡ b → b && eqb (functions t m) (functions t o) ≡ false
    by true e =
        ne_eqb (functions t m) (functions t o)
        (λ q. omega (arith, functions-mono t {i = suc m} o l, functions-next t m refl, ap (λ b. cond {A = ℕ} b (suc (functions t m)) (functions t m)) e))
    by false e = refl

pub row-of-function : (t : Table) (o : ℕ) → o < length t → kind_at t o ≡ Function → function_row t (functions t o) ≡ o
unfolding function_row
row-of-function t o l e =
    first_is (λ i. is_function_lem (kind_at t i) && eqb (functions t i) (functions t o)) (length t) 0 o (omega arith) (omega arith)
    (λ b. ap (λ k. is_function_lem k && eqb (functions t o) (functions t o)) e ∙ eq-eqb (functions t o) (functions t o) refl) (λ m a b. lower t o m b)

-- every row with open parts stands in a function
pub in-some-function : (t : Table) → Proper t → (i : ℕ) (f : Open) (fs : List Open) → i < length t → open_at t i ≡ f ∷ fs → (n : ℕ) × InFunction t n i f fs
in-some-function t ok i f fs l q =
    let o = home (f ∷ fs) in
    let b = home-before t i f fs (all_held t i q) in
    let e = home-function t i f fs (subst (Formed t) q (formed t ok i (omega arith))) (all_held t i q) in (
      functions t o,
      record {
        known = omega (arith, functions-mono t {i = suc o} (length t) (omega arith), functions-next t o e);
        within = l;
        open_is = q;
        at_home = sym (row-of-function t o (omega arith) e);
      },
    )

-- ---- the lines of its rows
pub home_below : (t : Table) {n i : ℕ} {f : Open} {fs : List Open} → InFunction t n i f fs → function_row t n < i
home_below t {n} {i} {f} {fs} m = omega (arith, m.at_home, home-before t i f fs (all_held t i m.open_is))

pub line_in : (t : Table) → Proper t → {n i : ℕ} {f : Open} {fs : List Open} → InFunction t n i f fs → (ph : ℕ) → ph < line_count (kind_at t i)
    → LineIn (harden t) n (line_of t i + ph)
line_in t ok {n} {i} m ph l =
    record {
      not_before = omega (arith, start_is t ok n m.known, line-mono t {i = function_row t n} i (omega (arith, home_below t m)));
      not_after = omega (arith, before_finish t ok m);
      in_table = omega (arith, lines_all t, line-next t i (length t) m.within);
    }

-- the first line of a row, as a go names it
pub first-in : (t : Table) → Proper t → {n i : ℕ} {f : Open} {fs : List Open} → InFunction t n i f fs → LineIn (harden t) n (line_of t i)
first-in t ok {n} {i} m =
    subst (LineIn (harden t) n) (add-zero (line_of t i))
    (line_in t ok m 0 (some_line (kind_at t i) (not-silent t ok i m.within m.open_is)))

-- ---- the row after one that is no end
pub next_row : (t : Table) → Proper t → {n i : ℕ} {f : Open} {fs : List Open} → InFunction t n i f fs → (kind_at t i ≡ End → ⊥) → Somewhere t n (suc i)
next_row t ok {n} {i} m h = somewhere t ok n m.known (suc i) (omega (arith, home_below t m)) (by (eq-or-lt_of_le (not-past-end t ok m)))
  where
    by : (i ≡ end_of t (function_row t n)) ⊎ (i < end_of t (function_row t n)) → i < end_of t (function_row t n)
    by (inl e) = absurd (h (ap (kind_at t) e ∙ (function-end t ok n m.known).1.kind_is))
    by (inr l) = l

pub next_in : (t : Table) → Proper t → {n i : ℕ} {f : Open} {fs : List Open} → InFunction t n i f fs → (kind_at t i ≡ End → ⊥) → LineIn (harden t) n (line_of t (suc i))
next_in t ok m h = first-in t ok (next_row t ok m h).in_function

-- ---- the number of the function, as `function_at` counts it
pub first-number : (t : Table) → Proper t → {n i : ℕ} {f : Open} {fs : List Open} → InFunction t n i f fs → function_at (harden t) (line_of t i) ≡ n
first-number t ok {n} {i} m =
    omega
    (arith, function_inside t ok i (omega (arith, m.within)) m.open_is, functions-home t ok n m.known i (home_below t m) (not-past-end t ok m))

pub line-number : (t : Table) → Proper t → {n i : ℕ} {f : Open} {fs : List Open} → InFunction t n i f fs → (ph : ℕ) → ph < line_count (kind_at t i)
    → function_at (harden t) (line_of t i + ph) ≡ n
line-number t ok {n} {i} m zero l = ap (function_at (harden t)) (add-zero (line_of t i)) ∙ first-number t ok m
line-number t ok {n} {i} m (suc x) l =
    omega
    (arith, first-number t ok m, first-number t ok s.in_function, function-at-mono (harden t) {k = line_of t i} (line_of t i + suc x) (omega arith) (omega (arith, c, d)), function-at-mono (harden t) {k = line_of t i + suc x} (line_of t (suc i)) d c)
  where
    more-than-one : kind_at t i ≡ End → ⊥
    more-than-one e = omega (arith, ap line_count e)

    s : Somewhere t n (suc i)
    s = next_row t ok m more-than-one

    c : line_of t (suc i) ≤ length (harden t)
    c = omega (arith, lines_all t, line-mono t {i = suc i} (length t) m.within)

    d : line_of t i + suc x ≤ line_of t (suc i)
    d = omega (arith, line-suc t i refl)

-- ---- every line is one of a function's row
pub record Placed (t : Table) (k : ℕ) : Type 0 where
  pub number : ℕ
  pub line : LineOf t number k
  pub counted : function_at (harden t) k ≡ number

pub placed : (t : Table) → Proper t → (k : ℕ) → k < length (harden t) → Placed t k
placed t ok k l = by (open_at t s.row) refl
  where
    s : Spot t k (length t)
    s = locate t (length t) k (omega (arith, lines_all t))

    by : (fs : List Open) → open_at t s.row ≡ fs → Placed t k
    by [] q = absurd (omega (arith, s.ph_lt, ap line_count (opens-function t ok s.row s.row_lt q)))
    by (f ∷ fs) q =
        let n = in-some-function t ok s.row f fs s.row_lt q in
        record {
          number = n.0;
          line = record { row = s.row; ph = s.ph; ph_lt = s.ph_lt; is = s.is; top = f; others = fs; in_function = n.1 };
          counted = ap (function_at (harden t)) s.is ∙ line-number t ok n.1 s.ph s.ph_lt;
        }
