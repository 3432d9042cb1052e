-- All places of a function, counted in ranges: the lines before the two places that no guard parts from where the run stands, these two, the
-- lines behind them, and place m. Assumes nothing.
use mathlib.Core.Path.{◌≡◌, refl, sym, ap, ◌∙◌}
use mathlib.Core.List.{List}
use Prim.Native.Nat.{ℕ, zero, suc, ◌+◌, ◌-◌, ◌≤◌, ◌<◌, min, max}
use native.Mathlib.Nat.{add-zero, add-suc}
use native.Mathlib.Numerals.{add-one}
use native.Mathlib.Omega.{arith}
use borrow.Author.Tests.{eq-eqb, ne_eqb}
use Rattle.rules.specs.declared.ending.Ending.{Ending}
use Rattle.rules.specs.declared.ending.Ending.TheVariants.{Same}
use Rattle.rules.specs.declared.ending.Counts.{Counts}
use Rattle.rules.specs.Sweep.{one, plus, total}
use Rattle.rules.proofs.Logic.{Order, less, same, more, order}
use Rattle.places.specs.Places.{wide_last, wide_at, Beside, ending_at, unguarded_of, counted_to}
use Rattle.places.proofs.Counting.{one_more}

-- ---- ranges
counted_same : (c : Counts) (n : ℕ) (f g : ℕ → Ending) → ((p : ℕ) → p < n → f p ≡ g p) → counted_to c n f ≡ counted_to c n g
unfolding counted_to
counted_same c zero f g e = refl
counted_same c (suc n) f g e = rw (counted_same c n f g (λ p l. e p (omega arith)), e n (omega arith))

counted-on : (c : Counts) (a b : ℕ) (f : ℕ → Ending) → counted_to (counted_to c a f) b (λ p. f (a + p)) ≡ counted_to c (a + b) f
unfolding counted_to
counted-on c a zero f = ap (λ n. counted_to c n f) (sym (add-zero a))
counted-on c a (suc b) f = ap (λ x. plus x (one (f (a + b)))) (counted-on c a b f) ∙ ap (λ n. counted_to c n f) (sym (add-suc a b))

counted-total : (c : Counts) (n : ℕ) (f : ℕ → Ending) → total (counted_to c n f) ≡ total c + n
unfolding counted_to
counted-total c zero f = omega arith
counted-total c (suc n) f = one_more (counted_to c n f) (f n) ∙ omega (arith, counted-total c n f)

pub range-total : (c : Counts) (n : ℕ) (f : ℕ → Ending) {x : Counts} → x ≡ counted_to c n f → total x ≡ total c + n
range-total c n f e = ap total e ∙ counted-total c n f

plus-swap : (c : Counts) (x y : Ending) → plus (plus c (one x)) (one y) ≡ plus (plus c (one y)) (one x)
plus-swap c x y =
    rw (three c.alarms (one x).alarms (one y).alarms, three c.same (one x).same (one y).same, three c.other (one x).other (one y).other, three c.unfinished (one x).unfinished (one y).unfinished)
  where
    three : (u v w : ℕ) → u + v + w ≡ u + w + v
    three u v w = omega arith

-- ---- the two places in the middle
pub record Span (first last at across low high : ℕ) : Type 0 where
  pub from : first ≤ low
  pub low_at : low ≤ at
  pub low_across : low ≤ across
  pub high_at : at ≤ high
  pub high_across : across ≤ high
  pub before : high < last

span : {first last at across : ℕ} → Beside first last at across → Span first last at across (min at across) (max at across)
span b =
    record {
      from = omega (arith, b.at_from, b.across_from);
      low_at = omega arith;
      low_across = omega arith;
      high_at = omega arith;
      high_across = omega arith;
      before = omega (arith, b.at_before, b.across_before);
    }

pub span_of : {first last at across low high : ℕ} → Beside first last at across → low ≡ min at across → high ≡ max at across → Span first last at across low high
span_of b p q = rw (p, q) (span b)

two-more : (c : Counts) (x y : Ending) → total (plus (plus c (one x)) (one y)) ≡ suc (suc (total c))
two-more c x y = one_more (plus c (one x)) y ∙ ap suc (one_more c x)

pub unguarded-total : (at across : ℕ) (narrow : Ending) (c : Counts) {low high : ℕ} {x : Counts} → low ≡ min at across → high ≡ max at across → x ≡ unguarded_of at across narrow c → total x ≤ total c + (high - low) + 1
unguarded-total at across narrow c p q e = rw (p, q, e) (by (order at across))
  where
    by : Order at across → total (unguarded_of at across narrow c) ≤ total c + (max at across - min at across) + 1
    by (less l) = rw (ne_eqb at across (λ e. omega arith)) (omega (arith, two-more c Same narrow))
    by (same e) = rw (eq-eqb at across e) (omega (arith, one_more c Same))
    by (more l) = rw (ne_eqb at across (λ e. omega arith)) (omega (arith, two-more c Same narrow))

-- ---- all of them
module _ (bs vs : List ℕ) (first last at across d left : ℕ) (narrow : Ending) (b : Beside first last at across) where
  abbrev ends : ℕ → Ending
  ends y = ending_at bs last at across d vs narrow left y

  abbrev f : ℕ → Ending
  f p = ends (first + p)

  abbrev low : ℕ
  low = min at across

  abbrev high : ℕ
  high = max at across

  wide-line : (y : ℕ) → (y ≡ at → ⊥) → (y ≡ across → ⊥) → (y ≡ last → ⊥) → wide_at bs vs left y ≡ ends y
  wide-line y a c l = rw (ne_eqb y at a, ne_eqb y across c, ne_eqb y last l)

  own : ends at ≡ Same
  own = rw (eq-eqb at at refl)

  crossed : (at ≡ across → ⊥) → ends across ≡ narrow
  crossed n = rw (ne_eqb across at (λ e. n (sym e)), eq-eqb across across refl)

  at-m : ends last ≡ wide_last d left
  at-m = rw (ne_eqb last at (λ e. omega (arith, b.at_before)), ne_eqb last across (λ e. omega (arith, b.across_before)), eq-eqb last last refl)

  before-is : (c : Counts) → counted_to c (low - first) (λ p. wide_at bs vs left (first + p)) ≡ counted_to c (low - first) f
  before-is c =
      let s = span b in
      counted_same c (low - first) (λ p. wide_at bs vs left (first + p)) f
      (λ p l. wide-line (first + p) (λ e. omega (arith, s.low_at)) (λ e. omega (arith, s.low_across)) (λ e. omega (arith, s.low_at, b.at_before)))

  -- by which of the two is the lower
  there-is : (c : Counts) → unguarded_of at across narrow (counted_to c (low - first) f) ≡ counted_to c (high + 1 - first) f
  unfolding counted_to
  there-is c = by (order at across)
    where
      place : (y : ℕ) → first ≤ y → f (y - first) ≡ ends y
      place y h = ap ends (let z : first + (y - first) ≡ y = omega arith in z)

      by : Order at across → unguarded_of at across narrow (counted_to c (low - first) f) ≡ counted_to c (high + 1 - first) f
      by (less l) =
          let q : across + 1 - first ≡ suc (suc (at - first)) = omega (arith, b.up, b.at_from) in
          let r : suc (at - first) ≡ across - first = omega (arith, b.up, b.at_from) in
          let lo : min at across ≡ at = omega arith in
          let hi : max at across ≡ across = omega arith in
          rw (lo, hi, ne_eqb at across (λ e. omega arith), q, place at b.at_from, own)
          (ap (λ e. plus (plus (counted_to c (at - first) f) (one Same)) (one e)) (sym (ap f r ∙ place across b.across_from ∙ crossed (λ e. omega arith))))
      by (same e) =
          let q : at + 1 - first ≡ suc (across - first) = omega (arith, b.at_from) in
          let r : across - first ≡ at - first = omega arith in
          let lo : min at across ≡ across = omega arith in
          let hi : max at across ≡ at = omega arith in
          rw (lo, hi, eq-eqb at across e, q) (ap (λ x. plus (counted_to c (across - first) f) (one x)) (sym (ap f r ∙ place at b.at_from ∙ own)))
      by (more l) =
          let q : at + 1 - first ≡ suc (suc (across - first)) = omega (arith, b.down, b.across_from) in
          let r : suc (across - first) ≡ at - first = omega (arith, b.down, b.across_from) in
          let lo : min at across ≡ across = omega arith in
          let hi : max at across ≡ at = omega arith in
          rw (lo, hi, ne_eqb at across (λ e. omega arith), q, place across b.across_from, crossed (λ e. omega arith))
          (plus-swap (counted_to c (across - first) f) Same narrow ∙ ap (λ x. plus (plus (counted_to c (across - first) f) (one narrow)) (one x)) (sym (ap f r ∙ place at b.at_from ∙ own)))

  behind-is : (c : Counts) → counted_to (counted_to c (high + 1 - first) f) (last - (high + 1)) (λ p. wide_at bs vs left (high + 1 + p)) ≡ counted_to c (last - first) f
  behind-is c =
      let s = span b in
      let n : high + 1 - first + (last - (high + 1)) ≡ last - first = omega (arith, s.before, s.from, s.low_at, s.high_at) in
      counted_same (counted_to c (high + 1 - first) f) (last - (high + 1)) (λ p. wide_at bs vs left (high + 1 + p)) (λ p. f (high + 1 - first + p))
      (λ p l. wide-line (high + 1 + p) (λ e. omega (arith, s.high_at)) (λ e. omega (arith, s.high_across)) (λ e. omega arith)
      ∙ ap ends (let z : high + 1 + p ≡ first + (high + 1 - first + p) = omega (arith, s.from, s.low_at, s.high_at) in z))
      ∙ counted-on c (high + 1 - first) (last - (high + 1)) f ∙ ap (λ x. counted_to c x f) n

  pub all-places : (c x y z : Counts) {low' high' : ℕ} {e : Ending} {r : Counts} → low' ≡ low → high' ≡ high → x ≡ counted_to c (low' - first) (λ p. wide_at bs vs left (first + p)) → y ≡ unguarded_of at across narrow x
      → z ≡ counted_to y (last - (high' + 1)) (λ p. wide_at bs vs left (high' + 1 + p)) → e ≡ wide_last d left → r ≡ plus z (one e)
      → r ≡ counted_to c (last - first + 1) f
  unfolding counted_to
  all-places c x y z pl ph px py pz pe pr =
      let s = span b in
      let px' = px ∙ ap (λ u. counted_to c (u - first) (λ p. wide_at bs vs left (first + p))) pl ∙ before-is c in
      let py' = py ∙ ap (unguarded_of at across narrow) px' ∙ there-is c in
      let pz' = pz ∙ ap (λ u. counted_to y (last - (u + 1)) (λ p. wide_at bs vs left (u + 1 + p))) ph ∙ ap (λ u. counted_to u (last - (high + 1)) (λ p. wide_at bs vs left (high + 1 + p))) py' ∙ behind-is c in
      let m : first + (last - first) ≡ last = omega (arith, s.before, s.from, s.low_at, s.high_at) in
      pr ∙ ap (λ u. plus z (one u)) (pe ∙ sym at-m ∙ ap ends (sym m)) ∙ ap (λ u. plus u (one (f (last - first)))) pz' ∙ ap (λ n. counted_to c n f) (sym (add-one (last - first)))
