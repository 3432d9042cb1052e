-- The tally tells the sums over the chain so far. Assumes nothing.
use mathlib.Core.Path.{◌≡◌, refl, sym, ap, ◌∙◌, subst}
use mathlib.Core.Bool.{Bool, true, false, cond}
use mathlib.Core.List.{[], ◌∷◌}
use Prim.Native.Nat.{ℕ, zero, suc, ◌+◌, ◌-◌, ◌/◌, ◌%◌, max, ◌≤◌, ◌<◌}
use native.Mathlib.Omega.{arith}
use lib.Dec.{eqb, ltb}
use lib.ListN.{get_or}
use borrow.Author.Tests.{eqb-true, ne_eqb, ltb-true, ltb-false}
use Rattle.rules.specs.declared.kind.Kind.{Kind}
use Rattle.rules.specs.declared.kind.Kind.TheVariants.{Function, Do, If, Else, Loop, End, Break, Continue, Call, Unknown}
use Rattle.rules.specs.declared.sums.Sums.{Sums}
use Rattle.rules.specs.Row.{Row, kind_of}
use Rattle.rules.specs.Scan.{is_function_lem}
use Rattle.rules.specs.Switch.{as_is, switch_row, case_row, default_row, given_as}
use Rattle.rules.specs.Figures.{lines_by, values_by, opened_by, counted}
use Rattle.rules.proofs.Figures.Sums.{opened-more}
use Rattle.rules.proofs.Logic.{clash, cond_either}
use Rattle.figures.specs.declared.tally.Tally.{Tally}
use Rattle.figures.specs.Counted.{regions_by, part_counted, given_counted}
use Rattle.figures.specs.Tallied.{weight, kinds, Weights, added, regions_all, begun_by, plain_tally, else_tally, part_tally, row_tally, sums_in, Fits, Tells}

-- ---- the weights
module _
    {w1 w2 w3 w4 w5 w6 w7 w8 w9 : ℕ}
    (e1 : w1 ≡ weight Function)
    (e2 : w2 ≡ weight Do)
    (e3 : w3 ≡ weight If)
    (e4 : w4 ≡ weight Else)
    (e5 : w5 ≡ weight Loop)
    (e6 : w6 ≡ weight End)
    (e7 : w7 ≡ weight Break)
    (e8 : w8 ≡ weight Continue)
    (e9 : w9 ≡ weight Call) where
  of-kind : (i : ℕ) → i < kinds → get_or (0 ∷ w1 ∷ w2 ∷ w3 ∷ w4 ∷ w5 ∷ w6 ∷ w7 ∷ w8 ∷ w9 ∷ []) i 0 ≡ weight (kind_of i)
  unfolding kind_of
  of-kind zero h = refl
  of-kind (suc zero) h = e1
  of-kind (suc (suc zero)) h = e2
  of-kind (suc (suc (suc zero))) h = e3
  of-kind (suc (suc (suc (suc zero)))) h = e4
  of-kind (suc (suc (suc (suc (suc zero))))) h = e5
  of-kind (suc (suc (suc (suc (suc (suc zero)))))) h = e6
  of-kind (suc (suc (suc (suc (suc (suc (suc zero))))))) h = e7
  of-kind (suc (suc (suc (suc (suc (suc (suc (suc zero)))))))) h = e8
  of-kind (suc (suc (suc (suc (suc (suc (suc (suc (suc zero))))))))) h = e9
  of-kind (suc (suc (suc (suc (suc (suc (suc (suc (suc (suc i)))))))))) h = absurd (let z : ⊥ = omega arith in z)

  pub weights-are : Weights (0 ∷ w1 ∷ w2 ∷ w3 ∷ w4 ∷ w5 ∷ w6 ∷ w7 ∷ w8 ∷ w9 ∷ [])
  weights-are = record { long = refl; each = of-kind }

-- ---- what a row adds is little
record Little (k : Kind) : Type 0 where
  few_lines : lines_by k ≤ 2
  few_values : values_by k ≤ 3
  few_regions : regions_by k ≤ 1

little : (k : Kind) → Little k
little Function = record { few_lines = omega arith; few_values = omega arith; few_regions = omega arith }
little Do = record { few_lines = omega arith; few_values = omega arith; few_regions = omega arith }
little If = record { few_lines = omega arith; few_values = omega arith; few_regions = omega arith }
little Else = record { few_lines = omega arith; few_values = omega arith; few_regions = omega arith }
little Loop = record { few_lines = omega arith; few_values = omega arith; few_regions = omega arith }
little End = record { few_lines = omega arith; few_values = omega arith; few_regions = omega arith }
little Break = record { few_lines = omega arith; few_values = omega arith; few_regions = omega arith }
little Continue = record { few_lines = omega arith; few_values = omega arith; few_regions = omega arith }
little Call = record { few_lines = omega arith; few_values = omega arith; few_regions = omega arith }
little Unknown = record { few_lines = omega arith; few_values = omega arith; few_regions = omega arith }

pub weight-low : (k : Kind) → weight k ≤ 4295163906
weight-low k = let w = little k in omega (arith, w.few_lines, w.few_values, w.few_regions)

-- ---- a row more
tells-added : (m : ℕ) (k : Kind) (t : Tally) (s : Sums) → is_function_lem k ≡ false → Tells m t s → Tells (m + 3) (added k t) (counted k s)
tells-added m k t s e w =
    let l = little k in
    let o = opened-more k s.opened e in
    record {
      all_is = omega (arith, w.all_is, o);
      most_is = most t.most s.opened (opened_by k s.opened) s.most (omega (arith, o)) w.most_is;
      lines_low = omega (arith, w.lines_low, l.few_lines);
      value_low = omega (arith, w.value_low, l.few_values);
      regions_low = omega (arith, w.regions_low, o, l.few_regions);
      most_low = omega (arith, w.most_low);
    }
  where
    most : (a o p c : ℕ) → o ≤ p → c ≡ max a o → max c p ≡ max a p
    most a o p c h q = omega arith

-- the regions in all, where the lines and values are few
module _ (m : ℕ) (t : Tally) (s : Sums) (w : Tells m t s) (h : m ≤ 40000) where
  all-regions : regions_all t ≡ t.before + s.opened
  all-regions = omega (arith, w.all_is, w.lines_low, w.value_low)

  tells-begun : Tells (m + 3) (begun_by t) (counted Function s)
  tells-begun =
      let r = all-regions in
      record {
        all_is = omega (arith, w.all_is, r);
        most_is = ap (λ x. max x 1) (w.most_is ∙ ap (max t.most) (let q : s.opened ≡ regions_all t - t.before = omega (arith, r) in q));
        lines_low = omega (arith, w.lines_low);
        value_low = omega (arith, w.value_low);
        regions_low = omega (arith, r, w.regions_low);
        most_low = omega (arith, r, w.regions_low, w.most_low);
      }

  pub fits : Fits t
  fits =
      record {
        all_low = omega (arith, w.all_is, w.lines_low, w.value_low, w.regions_low);
        most_low = omega (arith, w.most_low);
        before_low = omega (arith, all-regions);
      }

  same_most : max t.most (regions_all t - t.before) ≡ s.most
  same_most = ap (max t.most) (let q : regions_all t - t.before ≡ s.opened = omega (arith, all-regions) in q) ∙ sym w.most_is

  pub sums_are : sums_in t ≡ s
  sums_are =
      ap (λ x. record { lines = x; value = t.all / 65536 % 65536; opened = regions_all t - t.before; most = max t.most (regions_all t - t.before) }) (omega (arith, w.all_is, w.lines_low))
      ∙ ap (λ x. record { lines = s.lines; value = x; opened = regions_all t - t.before; most = max t.most (regions_all t - t.before) }) (omega (arith, w.all_is, w.lines_low, w.value_low))
      ∙ ap (λ x. record { lines = s.lines; value = s.value; opened = x; most = max t.most (regions_all t - t.before) }) (omega (arith, all-regions))
      ∙ ap (λ x. record { lines = s.lines; value = s.value; opened = s.opened; most = x }) same_most

-- ---- a row as given more
tells-up : {m : ℕ} (n : ℕ) (t : Tally) (s : Sums) → m ≤ n → Tells m t s → Tells n t s
tells-up n t s h w =
    record {
      all_is = w.all_is;
      most_is = w.most_is;
      lines_low = omega (arith, w.lines_low);
      value_low = omega (arith, w.value_low);
      regions_low = omega (arith, w.regions_low);
      most_low = omega (arith, w.most_low);
    }

-- no row of 01
tells_none : (m : ℕ) (t : Tally) (s : Sums) → Tells m t s → Tells m t (counted Unknown s)
tells_none m t s w =
    record {
      all_is = omega (arith, w.all_is);
      most_is = most t.most s.opened s.most w.most_is;
      lines_low = omega (arith, w.lines_low);
      value_low = omega (arith, w.value_low);
      regions_low = w.regions_low;
      most_low = w.most_low;
    }
  where
    most : (a o c : ℕ) → c ≡ max a o → max c o ≡ max a o
    most a o c q = omega arith

tells-else : (m : ℕ) (first : Bool) (t : Tally) (s : Sums) → Tells m t s → Tells (m + 1) (else_tally first t) (part_counted first s)
tells-else m true t s w = tells-up (m + 1) t s (omega arith) w
tells-else m false t s w =
    let a = tells-added m Else t s refl w in
    record {
      all_is = a.all_is;
      most_is = a.most_is;
      lines_low = omega (arith, w.lines_low);
      value_low = omega (arith, w.value_low);
      regions_low = omega (arith, w.regions_low);
      most_low = omega (arith, w.most_low);
    }

-- a byte that is no kind of 01
other : (b k : ℕ) → k < kinds → kinds ≤ b → eqb b k ≡ false
other b k l h = ne_eqb b k (λ e. omega arith)

no_kind : (b : ℕ) → kinds ≤ b → kind_of b ≡ Unknown
unfolding kind_of
no_kind b h =
    rw (
      other b 0x01 (omega arith) h,
      other b 0x02 (omega arith) h,
      other b 0x03 (omega arith) h,
      other b 0x04 (omega arith) h,
      other b 0x05 (omega arith) h,
      other b 0x06 (omega arith) h,
      other b 0x07 (omega arith) h,
      other b 0x08 (omega arith) h,
      other b 0x09 (omega arith) h,
    ) refl

-- a byte other than a function's is another kind's
either : (x : Bool) (k m : Kind) → is_function_lem k ≡ false → is_function_lem m ≡ false → is_function_lem (cond x k m) ≡ false
either x k m p q = cond_either (λ j. is_function_lem j ≡ false) x k m p q

another : (b : ℕ) → eqb b 0x01 ≡ false → is_function_lem (kind_of b) ≡ false
unfolding kind_of
another b e =
    let k9 : Kind = cond (eqb b 0x09) Call Unknown in
    let k8 : Kind = cond (eqb b 0x08) Continue k9 in
    let k7 : Kind = cond (eqb b 0x07) Break k8 in
    let k6 : Kind = cond (eqb b 0x06) End k7 in
    let k5 : Kind = cond (eqb b 0x05) Loop k6 in
    let k4 : Kind = cond (eqb b 0x04) Else k5 in
    let k3 : Kind = cond (eqb b 0x03) If k4 in
    let k2 : Kind = cond (eqb b 0x02) Do k3 in
    ap (λ x. is_function_lem (cond x Function k2)) e
    ∙ either (eqb b 0x02) Do k3 refl (either (eqb b 0x03) If k4 refl (either (eqb b 0x04) Else k5 refl (either (eqb b 0x05) Loop k6 refl
    (either (eqb b 0x06) End k7 refl (either (eqb b 0x07) Break k8 refl (either (eqb b 0x08) Continue k9 refl (either (eqb b 0x09) Call Unknown refl refl)))))))

a_function : (b : ℕ) → eqb b 0x01 ≡ true → kind_of b ≡ Function
unfolding kind_of
a_function b e = ap kind_of (eqb-true b 0x01 e)

module _ (m : ℕ) (t : Tally) (s : Sums) (w : Tells m t s) (h : m ≤ 40000) where
  tells-plain : (b : ℕ) → Tells (m + 3) (plain_tally b t) (counted (kind_of b) s)
  unfolding plain_tally
  tells-plain b = by (eqb b 0x01) refl
    where
      by : (x : Bool) → eqb b 0x01 ≡ x → Tells (m + 3) (cond x (begun_by t) (added (kind_of b) t)) (counted (kind_of b) s)
      by true e = subst (λ k. Tells (m + 3) (begun_by t) (counted k s)) (sym (a_function b e)) (tells-begun m t s w h)
      by false e = tells-added m (kind_of b) t s (another b e) w

  -- a row of a switch, or of no kind
  tells-part : (b : ℕ) (first : Bool) (r : Row) → r.kind ≡ Unknown → Tells (m + 4) (part_tally b first t) (given_counted (given_as b r) first s)
  unfolding part_tally given_as
  tells-part b first r e = by (eqb b 0x0a) (eqb b 0x0b) (eqb b 0x0c) refl refl refl
    where
      none : Tells (m + 4) t (counted Unknown s)
      none = tells-up (m + 4) t (counted Unknown s) (omega arith) (tells_none m t s w)

      part : Tells (m + 1) (else_tally first t) (part_counted first s)
      part = tells-else m first t s w

      case : Tells (m + 4) (added If (else_tally first t)) (counted If (part_counted first s))
      case =
          tells-up (m + 4) (added If (else_tally first t)) (counted If (part_counted first s)) (omega arith)
          (tells-added (m + 1) If (else_tally first t) (part_counted first s) refl part)

      by : (x y z : Bool) → eqb b 0x0a ≡ x → eqb b 0x0b ≡ y → eqb b 0x0c ≡ z
          → Tells (m + 4) (cond y (added If (else_tally first t)) (cond z (else_tally first t) t))
          (given_counted (cond x (switch_row r.operands) (cond y (case_row r.operands) (cond z (default_row r.operands) (as_is r)))) first s)
      by true true z p q v = clash q (ap (λ x. eqb x 0x0b) (eqb-true b 0x0a p))
      by true false true p q v = clash v (ap (λ x. eqb x 0x0c) (eqb-true b 0x0a p))
      by true false false p q v = tells-up (m + 4) t s (omega arith) w
      by false true z p q v = case
      by false false true p q v = tells-up (m + 4) (else_tally first t) (part_counted first s) (omega arith) part
      by false false false p q v = subst (λ k. Tells (m + 4) t (counted k s)) (sym e) none

  -- a row of 01
  as_row : (b : ℕ) (first : Bool) (r : Row) → b < kinds → given_counted (given_as b r) first s ≡ counted r.kind s
  unfolding given_as
  as_row b first r l =
      by (eqb b 0x0a) (eqb b 0x0b) (eqb b 0x0c) (ne_eqb b 0x0a (λ e. omega arith)) (ne_eqb b 0x0b (λ e. omega arith)) (ne_eqb b 0x0c (λ e. omega arith))
    where
      by : (x y z : Bool) → x ≡ false → y ≡ false → z ≡ false
          → given_counted (cond x (switch_row r.operands) (cond y (case_row r.operands) (cond z (default_row r.operands) (as_is r)))) first s ≡ counted r.kind s
      by true y z p q v = clash refl p
      by false true z p q v = clash refl q
      by false false true p q v = clash refl v
      by false false false p q v = refl

  pub tells_row : (b : ℕ) (first : Bool) (r : Row) → r.kind ≡ kind_of b → Tells (m + 4) (row_tally b first t) (given_counted (given_as b r) first s)
  tells_row b first r e = by (ltb b kinds) refl
    where
      by : (x : Bool) → ltb b kinds ≡ x → Tells (m + 4) (cond x (plain_tally b t) (part_tally b first t)) (given_counted (given_as b r) first s)
      by true l =
          subst (Tells (m + 4) (plain_tally b t)) (sym (as_row b first r (ltb-true b kinds l) ∙ ap (λ k. counted k s) e))
          (tells-up (m + 4) (plain_tally b t) (counted (kind_of b) s) (omega arith) (tells-plain b))
      by false l = tells-part b first r (e ∙ no_kind b (ltb-false b kinds l))
