-- The steps of the code, and what holds before each row of its loop. Assumes that the table is accepted.
use mathlib.Core.Path.{◌≡◌, refl, sym, ap, ◌∙◌, subst}
use mathlib.Core.Bool.{Bool, true, false, cond}
use mathlib.Core.List.{List}
use Prim.Native.Nat.{ℕ, suc, ◌+◌, ◌*◌, ◌-◌, ◌/◌, max, ◌≤◌, ◌<◌}
use native.Mathlib.Omega.{arith}
use lib.Dec.{eqb}
use lib.ListN.{length, get_or}
use borrow.Author.Tests.{ltb-false, eq-eqb, ne_eqb, lt-ltb, le-ltb}
use Rattle.rules.specs.declared.kind.Kind.TheVariants.{Function, If, Else}
use Rattle.rules.specs.Verdict.{Accepted}
use Rattle.rules.specs.Limits.{max_rows}
use Rattle.rules.specs.Row.{row_width, kind_of, row_in, table_of}
use Rattle.rules.specs.Switch.{given_as, given_of, given_at, chain_to, chain_bytes}
use Rattle.rules.specs.Given.{given_verdict}
use Rattle.rules.specs.Figures.{sums_from, sums_of}
use Rattle.rules.proofs.Accepted.{whole-rows}
use Rattle.rules.proofs.Switch.Chain.{given-length, row-given, sound, chain-table}
use Rattle.figures.specs.declared.tally.Tally.{Tally}
use Rattle.figures.specs.Counted.{given_counted, is_switch_row, after_switch}
use Rattle.figures.specs.Tallied.{weight, kinds, Weights, added, regions_all, begun_by, plain_tally, else_tally, part_tally, row_tally, sums_in, top, Fits, Tells, Counting}
use Rattle.figures.proofs.Adds.{sums-grow, byte-switch}
use Rattle.figures.proofs.Tallies.{weight-low, fits, sums_are, tells_row}

-- ---- the code's steps
module _ {by : List ℕ} (w : Weights by) where
  pub weight-small : (k : ℕ) → k < kinds → get_or by k 0 ≤ 4295163906
  weight-small k h = omega (arith, w.each k h, weight-low (kind_of k))

  pub added-one : (k : ℕ) (t : Tally) → k < kinds → record { all = t.all + get_or by k 0; before = t.before; most = t.most } ≡ added (kind_of k) t
  added-one k t h = ap (λ x. record { all = t.all + x; before = t.before; most = t.most }) (w.each k h)

  pub begun-one : (t : Tally) {m : ℕ} → m ≡ max t.most (regions_all t - t.before)
      → record { all = t.all + get_or by 1 0; before = regions_all t; most = m } ≡ begun_by t
  unfolding kind_of
  begun-one t {m} e =
      ap (λ x. record { all = t.all + x; before = regions_all t; most = m }) (w.each 1 (omega arith))
      ∙ ap (λ x. record { all = t.all + weight Function; before = regions_all t; most = x }) e

-- by the first byte
module _ (b : ℕ) (t : Tally) where
  pub as_function : {r : Tally} → b ≡ 1 → r ≡ begun_by t → r ≡ plain_tally b t
  unfolding plain_tally
  as_function e q = q ∙ sym (ap (λ x. cond x (begun_by t) (added (kind_of b) t)) (eq-eqb b 0x01 e))

  pub as-other : {r : Tally} → (b ≡ 1 → ⊥) → r ≡ added (kind_of b) t → r ≡ plain_tally b t
  unfolding plain_tally
  as-other n q = q ∙ sym (ap (λ x. cond x (begun_by t) (added (kind_of b) t)) (ne_eqb b 0x01 n))

  pub as_row : (first : Bool) {r : Tally} → b < kinds → r ≡ plain_tally b t → r ≡ row_tally b first t
  as_row first l q = q ∙ sym (ap (λ x. cond x (plain_tally b t) (part_tally b first t)) (lt-ltb b kinds l))

  pub as-part : (first : Bool) {r : Tally} → kinds ≤ b → r ≡ part_tally b first t → r ≡ row_tally b first t
  as-part first l q = q ∙ sym (ap (λ x. cond x (plain_tally b t) (part_tally b first t)) (le-ltb b kinds l))

pub else-later : (first : Bool) (t : Tally) {r : Tally} → first ≡ false → r ≡ added (kind_of 0x04) t → r ≡ else_tally first t
unfolding kind_of
else-later first t e q = q ∙ sym (ap (λ x. cond x t (added Else t)) e)

pub else-room : (first : Bool) (t : Tally) {r : Tally} → r ≡ else_tally first t → Fits t → r.all < top
else-room first t e f = subst (λ x. x.all < top) (sym e) (by first)
  where
    by : (x : Bool) → (else_tally x t).all < top
    by true = omega (arith, f.all_low)
    by false = omega (arith, f.all_low, weight-low Else)

module _ (b : ℕ) (first : Bool) (t : Tally) where
  pub as-case : {p r : Tally} → b ≡ 0x0b → p ≡ else_tally first t → r ≡ added (kind_of 0x03) p → r ≡ part_tally b first t
  unfolding part_tally kind_of
  as-case e q w = w ∙ ap (added If) q ∙ sym (ap (λ x. part_tally x first t) e)

  pub as-default : {r : Tally} → b ≡ 0x0c → r ≡ else_tally first t → r ≡ part_tally b first t
  unfolding part_tally
  as-default e q = q ∙ sym (ap (λ x. part_tally x first t) e)

  pub as_none : (b ≡ 0x0b → ⊥) → (b ≡ 0x0c → ⊥) → t ≡ part_tally b first t
  unfolding part_tally
  as_none x y =
      sym (ap (λ u. cond u (added If (else_tally first t)) (cond (eqb b 0x0c) (else_tally first t) t)) (ne_eqb b 0x0b x)
      ∙ ap (λ u. cond u (else_tally first t) t) (ne_eqb b 0x0c y))

-- ---- the loop
module _ (bs : List ℕ) where
  pub counting-start : Counting bs 0 false (record { all = 0; before = 0; most = 0 })
  unfolding chain_to sums_from
  counting-start =
      record {
        not_past = omega arith;
        first_is = refl;
        tells = record { all_is = refl; most_is = refl; lines_low = omega arith; value_low = omega arith; regions_low = omega arith; most_low = omega arith };
      }

  row_kind : (k : ℕ) → (row_in bs k).kind ≡ kind_of (get_or bs k 0)
  unfolding row_in
  row_kind k = refl

  few_rows : (at : ℕ) → given_verdict bs ≡ Accepted → row_width * at ≤ length bs → 4 * at ≤ 40000
  few_rows at v h = omega (arith, ltb-false max_rows (length bs / row_width) (sound bs v).few)

  pub counting_fits : {at : ℕ} {first : Bool} {t : Tally} → given_verdict bs ≡ Accepted → Counting bs at first t → Fits t
  counting_fits {at} {first} {t} v c = fits (4 * at) t (sums_of (chain_to (given_of bs) at)) c.tells (few_rows at v c.not_past)

  -- the sums behind row at
  grown : (at : ℕ) (first : Bool) → given_verdict bs ≡ Accepted → at < length bs / row_width → first ≡ after_switch (given_of bs) at
      → given_counted (given_as (get_or bs (row_width * at) 0) (row_in bs (row_width * at))) first (sums_of (chain_to (given_of bs) at)) ≡ sums_of (chain_to (given_of bs) (suc at))
  grown at first v h e =
      ap (λ x. given_counted x first (sums_of (chain_to (given_of bs) at))) (sym (row-given bs at h))
      ∙ ap (λ x. given_counted (given_at (given_of bs) at) x (sums_of (chain_to (given_of bs) at))) e
      ∙ sym (sums-grow (given_of bs) (length (given_of bs)) (sound bs v).rows at (omega (arith, given-length bs)))

  pub counting_next : {at : ℕ} {first f : Bool} {t r : Tally} → given_verdict bs ≡ Accepted → row_width * at + 5 < length bs
      → r ≡ row_tally (get_or bs (row_width * at) 0) first t → f ≡ eqb (get_or bs (row_width * at) 0) 0x0a → Counting bs at first t → Counting bs (at + 1) f r
  counting_next {at} {first} {f} {t} {r} v l q w c =
      let h : at < length bs / row_width = omega arith in
      let b = get_or bs (row_width * at) 0 in
      let row = row_in bs (row_width * at) in
      let told = tells_row (4 * at) t (sums_of (chain_to (given_of bs) at)) c.tells (few_rows at v c.not_past) b first row (row_kind (row_width * at)) in
      let more : suc at ≡ at + 1 = omega arith in
      let four : 4 * at + 4 ≡ 4 * suc at = omega arith in
      subst (λ i. Counting bs i f r) more
      (record {
        not_past = omega arith;
        first_is = w ∙ sym (byte-switch b row) ∙ ap is_switch_row (sym (row-given bs at h));
        tells =
            subst (λ x. Tells (4 * suc at) x (sums_of (chain_to (given_of bs) (suc at)))) (sym q)
            (subst (λ n. Tells n (row_tally b first t) (sums_of (chain_to (given_of bs) (suc at)))) four
            (subst (Tells (4 * at + 4) (row_tally b first t)) (grown at first v h c.first_is) told));
      })

  pub counting_all : {at : ℕ} {first : Bool} {t : Tally} → given_verdict bs ≡ Accepted → length bs ≤ row_width * at + 5 → Counting bs at first t
      → sums_in t ≡ sums_of (table_of (chain_bytes bs))
  counting_all {at} {first} {t} v l c =
      let e : at ≡ length (given_of bs) = omega (arith, given-length bs, c.not_past, (whole-rows bs (sound bs v).whole).1) in
      sums_are (4 * at) t (sums_of (chain_to (given_of bs) at)) c.tells (few_rows at v c.not_past)
      ∙ ap (λ i. sums_of (chain_to (given_of bs) i)) e ∙ ap sums_of (sym (chain-table bs))
