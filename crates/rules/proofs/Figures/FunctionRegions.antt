-- The regions that a function has in the hardened table are those that its rows open. Assumes that the table is accepted.
use mathlib.Core.Logic.{inl, inr}
use mathlib.Core.Path.{◌≡◌, sym, ap, ◌∙◌, subst}
use mathlib.Core.Bool.{true, false}
use mathlib.Core.List.{List, [], ◌∷◌}
use Prim.Native.Nat.{ℕ, suc, ◌+◌, ◌-◌, ◌≤◌, ◌<◌}
use native.Mathlib.Decide.{dec_lt}
use native.Mathlib.Omega.{arith}
use lib.ListN.{length}
use Rattle.rules.specs.Limits.{max_regions}
use Rattle.rules.specs.Row.{Table, kind_at}
use Rattle.rules.specs.Scan.{Open, regions, open_at, body_region, functions, function_count, function_row, end_of}
use Rattle.rules.specs.Line.{line_at}
use Rattle.rules.specs.Harden.{line_count, line_of, own_region, row_lines, harden}
use Rattle.rules.specs.Figures.{guards, has_region, regions_in}
use Rattle.rules.proofs.Logic.{Order, less, same, more, order}
use Rattle.rules.proofs.Accepted.{Proper}
use Rattle.rules.proofs.Scan.{Chain, chain, body-least, regions-mono, regions-next}
use Rattle.rules.proofs.Harden.{line-next, line-at}
use Rattle.rules.proofs.Function.{function-at, InFunction, formed-here, body_is, function-end, not-past-end, Somewhere, somewhere}
use Rattle.rules.proofs.Place.{LineOf, lines_all}
use Rattle.rules.proofs.RegionBound.{regions-few}
use Rattle.rules.proofs.FunctionLine.{in-some-function, line-number, placed}
use Rattle.rules.proofs.Figures.Ended.{Among, Ended, ended, OpenedBy, opened-by}
use Rattle.rules.proofs.Figures.Guarded.{has-by, has-none, count_is, row-off, Ending, ending, ending-line, row_on}

-- the regions that the rows of function n open
abbrev pub own_regions : Table → (n : ℕ) → ℕ
own_regions t n = regions t (end_of t (function_row t n)) - regions t (function_row t n)

-- what line ph of a row of function n guards
line-guards : (t : Table) {n i : ℕ} {f : Open} {fs : List Open} → InFunction t n i f fs → (ph : ℕ) → ph < line_count (kind_at t i) → (g : ℕ)
    → guards g (line_at (harden t) (line_of t i + ph)) ≡ guards g (line_at (row_lines t i (f ∷ fs) (kind_at t i)) ph)
line-guards t {n} {i} m ph l g =
    ap (guards g) (line-at t i ph m.within l ∙ ap (λ gs. line_at (row_lines t i gs (kind_at t i)) ph) m.open_is)

-- ---- no line of the function guards another region
own_below : (t : Table) → Proper t → {n i : ℕ} {f : Open} {fs : List Open} → InFunction t n i f fs → own_region (f ∷ fs) < own_regions t n
own_below t ok {n} {i} {f} {fs} m =
    let c : Chain (regions t i) (f ∷ fs) = subst (Chain (regions t i)) m.open_is (chain t i) in
    omega
    (arith, c.0, body_is t ok m, body-least (regions t i) f fs c, regions-mono t {i = i} (end_of t (function_row t n)) (not-past-end t ok m))

line-off : (t : Table) → Proper t → (n g k : ℕ) → own_regions t n ≤ g → LineOf t n k → guards g (line_at (harden t) k) ≡ false
line-off t ok n g k h s =
    let m = s.in_function in
    ap (λ x. guards g (line_at (harden t) x)) s.is ∙ line-guards t m s.ph s.ph_lt g
    ∙ row-off t s.row s.top s.others g (formed-here t ok m) (λ x. omega (arith, own_below t ok m)) (kind_at t s.row) s.ph s.ph_lt

above : (t : Table) → Proper t → (n g : ℕ) → own_regions t n ≤ g → has_region (harden t) n g (length (harden t)) ≡ false
above t ok n g h =
    has-none (harden t) n g (length (harden t))
    (λ k l e. let p = placed t ok k l in line-off t ok n g k h (subst (λ x. LineOf t x k) (sym p.counted ∙ e) p.line))

-- ---- two functions do not have one body region
one_row : (t : Table) → Proper t → (n m : ℕ) → n < function_count t → regions t (function_row t n) ≡ regions t (function_row t m)
    → function_row t n < function_row t m → ⊥
one_row t ok n m k e h =
    omega (arith, e, regions-next t (function_row t n) (function-at t ok n k).kind_is, regions-mono t {i = suc (function_row t n)} (function_row t m) h)

one_function : (t : Table) → Proper t → (n m : ℕ) → n < function_count t → m < function_count t → regions t (function_row t n) ≡ regions t (function_row t m) → n ≡ m
one_function t ok n m k l e = by (order (function_row t n) (function_row t m))
  where
    by : Order (function_row t n) (function_row t m) → n ≡ m
    by (less h) = absurd (one_row t ok n m k e h)
    by (same h) = sym (function-at t ok n k).counted ∙ ap (functions t) h ∙ (function-at t ok m l).counted
    by (more h) = absurd (one_row t ok m n l (sym e) h)

-- ---- each of them is guarded by the row that ends it
among_below : (b g : ℕ) (fs : List Open) → Chain b fs → Among g fs → g < b
among_below b g [] c a = absurd a
among_below b g (f ∷ fs) c (inl e) = omega (arith, c.0)
among_below b g (f ∷ fs) c (inr a) = omega (arith, c.0, among_below f.region g fs c.1 a)

-- the row that opens it is one of the function's
opener-in : (t : Table) → Proper t → (n g : ℕ) → n < function_count t
    → (o : OpenedBy t (regions t (function_row t n) + g) (end_of t (function_row t n))) → Somewhere t n (suc o.row)
opener-in t ok n g k o = somewhere t ok n k (suc o.row) (from (dec_lt o.row (function_row t n))) o.before
  where
    before : o.row < function_row t n → ⊥
    before h =
        omega
        (arith, among_below (regions t (suc o.row)) (regions t (function_row t n) + g) (open_at t (suc o.row)) (chain t (suc o.row)) o.opens, regions-mono t {i = suc o.row} (function_row t n) h)

    from : Dec (o.row < function_row t n) → suc (function_row t n) ≤ suc o.row
    from (yes h) = absurd (before h)
    from (no h) = omega arith

-- a row of function n that ends region g of it
record Ender (t : Table) (n g : ℕ) : Type 0 where
  row : ℕ
  it : Open
  others : List Open
  in_function : InFunction t n row it others
  own : own_region (it ∷ others) ≡ g
  ends : Ending (kind_at t row)

ender-by : (t : Table) → Proper t → (n g i : ℕ) → n < function_count t → body_region (open_at t i) ≡ regions t (function_row t n)
    → Ended t (regions t (function_row t n) + g) i → Ender t n g
ender-by t ok n g i k b d =
    let m = in-some-function t ok d.row d.it d.others d.within d.open_is in
    let r : body_region (d.it ∷ d.others) ≡ regions t (function_row t n) = d.same_body ∙ b in
    record {
      row = d.row;
      it = d.it;
      others = d.others;
      in_function =
          subst (λ x. InFunction t x d.row d.it d.others)
          (one_function t ok m.0 n m.1.known k (sym (body_is t ok m.1) ∙ r)) m.1;
      own = omega (arith, r, d.region_is);
      ends = ending (kind_at t d.row) d.closing;
    }

ender : (t : Table) → Proper t → (n g : ℕ) → n < function_count t → g < own_regions t n → Ender t n g
ender t ok n g k h = by (opened-by t ok (regions t (function_row t n) + g) (end_of t (function_row t n)) inside (omega arith))
  where
    inside : end_of t (function_row t n) ≤ length t
    inside = omega (arith, (function-end t ok n k).1.within)

    by : OpenedBy t (regions t (function_row t n) + g) (end_of t (function_row t n)) → Ender t n g
    by o =
        let s = opener-in t ok n g k o in
        ender-by t ok n g (suc o.row) k (ap body_region s.in_function.open_is ∙ body_is t ok s.in_function)
        (ended t ok (regions t (function_row t n) + g) (suc o.row) (omega (arith, o.before, inside)) o.opens)

below : (t : Table) → Proper t → (n g : ℕ) → n < function_count t → g < own_regions t n → has_region (harden t) n g (length (harden t)) ≡ true
below t ok n g k h =
    let e = ender t ok n g k h in
    let m = e.in_function in
    let l = ending-line (kind_at t e.row) e.ends in
    has-by (harden t) n g (line_of t e.row + 0) (line-number t ok m 0 l)
    (line-guards t m 0 l g ∙ row_on t e.row e.it e.others g (formed-here t ok m) e.own (kind_at t e.row) e.ends)
    (length (harden t)) (omega (arith, l, lines_all t, line-next t e.row (length t) m.within))

-- ---- so they are as many
own-few : (t : Table) → Proper t → (n : ℕ) → n < function_count t → own_regions t n ≤ max_regions
own-few t ok n k =
    let e = function-end t ok n k in
    omega (arith, e.1.region_is, regions-few t ok (end_of t (function_row t n)) (omega (arith, e.1.within)) e.1.open_is)

pub regions-in : (t : Table) → Proper t → (n : ℕ) → n < function_count t → regions_in (harden t) n max_regions ≡ own_regions t n
regions-in t ok n k =
    omega
    (arith, count_is (harden t) n (own_regions t n) (λ g h. below t ok n g k h) (λ g h. above t ok n g h) max_regions, own-few t ok n k)
