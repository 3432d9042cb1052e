-- A row as given, as the code meets it: why it is refused, or where the pass stands after it. Assumes nothing.
use mathlib.Core.Path.{◌≡◌, refl, sym, ap, ◌∙◌, subst}
use mathlib.Core.Bool.{Bool, true, false, cond, not}
use mathlib.Core.List.{List, [], ◌∷◌}
use Prim.Native.Nat.{ℕ, ◌+◌, ◌*◌, ◌-◌, ◌≤◌, ◌<◌}
use native.Mathlib.Omega.{arith}
use lib.Dec.{eqb, ltb}
use lib.ListN.{length, get_or, take, drop}
use lib.Seq.{get_or-drop}
use Rattle.rules.specs.declared.kind.Kind.{Kind}
use Rattle.rules.specs.declared.kind.Kind.TheVariants.{Unknown}
use Rattle.rules.specs.declared.refusal.Refusal.{Refusal}
use Rattle.rules.specs.declared.refusal.Refusal.TheVariants.{WrongField, Misplaced, RepeatedCase}
use Rattle.rules.specs.Verdict.{Verdict, Accepted, Refused}
use Rattle.rules.specs.Bytes.{AreBytes, word_at}
use Rattle.rules.specs.Limits.{max_constructs}
use Rattle.rules.specs.Row.{Row, row_width, row_in, row_bytes, fields_fit_lem}
use Rattle.rules.specs.Scan.{is_end_lem}
use Rattle.rules.specs.Links.{is_opening}
use Rattle.rules.specs.Refusal.{refuse_if_lem, and_then}
use Rattle.rules.specs.Switch.{GivenRow, as_is, switch_row, case_row, default_row, given_as, given_of, given_at, Thing, construct, switch, things_at, chain_rows, chain_to, chain_of}
use Rattle.rules.specs.Given.{given_fits, strays, repeats, span_verdict, given_row_verdict}
use Rattle.rules.specs.Chained.{cases_in}
use Rattle.rules.proofs.Logic.{clash}
use Rattle.rules.proofs.Accepted.{refused-not}
use Rattle.rules.proofs.Encode.{row_drop}
use Rattle.rules.proofs.Switch.Chain.{given-length, row-given}
use Rattle.rows.specs.Row.{six, test_row}
use Rattle.rows.proofs.Rows.{rest_all}
use Rattle.rows.proofs.Six.{read-bytes, test-bytes}
use Rattle.scan.specs.declared.open.Standing.{Standing}
use Rattle.given.specs.Reached.{Faulty}
use Rattle.given.specs.declared.sort.Sort.{Sort}
use Rattle.given.specs.declared.sort.Sort.TheVariants.{Wrong, Plain, Switch, Case, Default}
use Rattle.given.specs.declared.things.Things.{Things}
use Rattle.given.specs.Sort.{sort_of_lem, first_given}
use Rattle.given.specs.Things.{marked_cases, top_mark, OpenIs, most_mark}
use Rattle.given.specs.Plan.{count_after_lem, closes_switch_lem, closing_plan, plan_of, cause_of}
use Rattle.given.specs.Reached.{Reached, Here, Sound, var_by, own_row, RowOk}
use Rattle.given.proofs.Marks.{mark-cases, mark_top, top_is, var_is}
use Rattle.given.proofs.Plans.{named, operands_of, own, cause-is, own_of}

-- ---- the row as the bytes have it
operands-as : (b : ℕ) (r : Row) → operands_of (given_as b r) ≡ r.operands
unfolding given_as
operands-as b r = by (eqb b 0x0a) (eqb b 0x0b) (eqb b 0x0c)
  where
    by : (x y z : Bool)
        → operands_of (cond x (switch_row r.operands) (cond y (case_row r.operands) (cond z (default_row r.operands) (as_is r)))) ≡ r.operands
    by true y z = refl
    by false true z = refl
    by false false true = refl
    by false false false = refl

-- ---- the row of its own that a plan has
not-unknown : (k : Kind) (o : _) → fields_fit_lem k o ≡ true → k ≡ Unknown → ⊥
unfolding fields_fit_lem
not-unknown k o e q = clash (sym (ap (λ x. fields_fit_lem x o) q) ∙ e) refl

pub own-kind : (g : GivenRow) (ts : List Thing) (m n c : ℕ) → strays g ts ≡ false → m ≡ mark_top ts → 0 < (plan_of (named g) m n c).own
    → (own_of g ts).kind ≡ (plan_of (named g) m n c).kind
unfolding strays
own-kind (as_is r) ts m n c e q h = by (closes_switch_lem r.kind m) h
  where
    by : (b : Bool) → 0 < (cond b (closing_plan (marked_cases m) n c) (record { elses = 0; own = 1; ends = 0; kind = r.kind; slot = n; mark = 0; count = count_after_lem r.kind n; cases = c })).own
        → r.kind ≡ (cond b (closing_plan (marked_cases m) n c) (record { elses = 0; own = 1; ends = 0; kind = r.kind; slot = n; mark = 0; count = count_after_lem r.kind n; cases = c })).kind
    by true h = absurd (let z : ⊥ = omega arith in z)
    by false h = refl
own-kind (switch_row o) ts m n c e q h = absurd (let z : ⊥ = omega arith in z)
own-kind (case_row o) [] m n c e q h = clash refl e
own-kind (case_row o) (construct ∷ ts) m n c e q h = clash refl e
own-kind (case_row o) (switch s ∷ ts) m n c e q h = refl
own-kind (default_row o) ts m n c e q h = absurd (let z : ⊥ = omega arith in z)

module _ (xs : List ℕ) (w : AreBytes xs) {ts : List Thing} {count cases : ℕ} {ms vs us : List ℕ} (o : OpenIs ts count cases ms vs us) where
  test-six : (ts : List Thing) → OpenIs ts count cases ms vs us → strays (case_row (row_in xs 0).operands) ts ≡ false
      → row_bytes (own_of (case_row (row_in xs 0).operands) ts) ≡ six (test_row 3 (top_mark vs count) (get_or xs 4 0) (get_or xs 5 0))
  unfolding strays row_in
  test-six [] o e = clash refl e
  test-six (construct ∷ ts) o e = clash refl e
  test-six (switch s ∷ ts) o e =
      test-bytes s.p (get_or xs 4 0) (get_or xs 5 0) (w.each 4) ∙ ap (λ v. six (test_row 3 v (get_or xs 4 0) (get_or xs 5 0))) (sym (var_is s ts o))

  pub own-six : (m n c p : ℕ) → given_fits (first_given xs) ≡ true → strays (first_given xs) ts ≡ false → 0 < (plan_of (named (first_given xs)) m n c).own
      → row_bytes (own_of (first_given xs) ts) ≡ six (own_row (named (first_given xs)) (var_by (named (first_given xs)) p vs count) xs)
  unfolding given_as given_fits
  own-six m n c p f e h = by (eqb (get_or xs 0 0) 0x0a) (eqb (get_or xs 0 0) 0x0b) (eqb (get_or xs 0 0) 0x0c) f e h
    where
      by : (x y z : Bool)
          → given_fits (cond x (switch_row (row_in xs 0).operands) (cond y (case_row (row_in xs 0).operands) (cond z (default_row (row_in xs 0).operands) (as_is (row_in xs 0))))) ≡ true
          → strays (cond x (switch_row (row_in xs 0).operands) (cond y (case_row (row_in xs 0).operands) (cond z (default_row (row_in xs 0).operands) (as_is (row_in xs 0))))) ts ≡ false
          → 0 < (plan_of (named (cond x (switch_row (row_in xs 0).operands) (cond y (case_row (row_in xs 0).operands) (cond z (default_row (row_in xs 0).operands) (as_is (row_in xs 0)))))) m n c).own
          → row_bytes (own_of (cond x (switch_row (row_in xs 0).operands) (cond y (case_row (row_in xs 0).operands) (cond z (default_row (row_in xs 0).operands) (as_is (row_in xs 0))))) ts)
          ≡ six (own_row (named (cond x (switch_row (row_in xs 0).operands) (cond y (case_row (row_in xs 0).operands) (cond z (default_row (row_in xs 0).operands) (as_is (row_in xs 0))))))
          (var_by (named (cond x (switch_row (row_in xs 0).operands) (cond y (case_row (row_in xs 0).operands) (cond z (default_row (row_in xs 0).operands) (as_is (row_in xs 0)))))) p vs count) xs)
      by true y z f e h = absurd (let z : ⊥ = omega arith in z)
      by false true z f e h = test-six ts o e
      by false false true f e h = absurd (let z : ⊥ = omega arith in z)
      by false false false f e h = read-bytes xs w (not-unknown (row_in xs 0).kind (row_in xs 0).operands f)

-- ---- a plan is small
pub plan-small : (s : Sort) (m n c : ℕ) → m ≤ most_mark → ((plan_of s m n c).elses ≤ 1) × ((plan_of s m n c).own ≤ 1) × ((plan_of s m n c).ends ≤ 16) × ((plan_of s m n c).slot ≤ n) × ((plan_of s m n c).count ≤ n + 1)
plan-small Wrong m n c h = (omega arith, omega arith, omega arith, omega arith, omega arith)
plan-small (Plain k) m n c h = by (closes_switch_lem k m)
  where
    by : (b : Bool) → ((cond b (closing_plan (marked_cases m) n c) (record { elses = 0; own = 1; ends = 0; kind = k; slot = n; mark = 0; count = count_after_lem k n; cases = c })).elses ≤ 1)
        × ((cond b (closing_plan (marked_cases m) n c) (record { elses = 0; own = 1; ends = 0; kind = k; slot = n; mark = 0; count = count_after_lem k n; cases = c })).own ≤ 1)
        × ((cond b (closing_plan (marked_cases m) n c) (record { elses = 0; own = 1; ends = 0; kind = k; slot = n; mark = 0; count = count_after_lem k n; cases = c })).ends ≤ 16)
        × ((cond b (closing_plan (marked_cases m) n c) (record { elses = 0; own = 1; ends = 0; kind = k; slot = n; mark = 0; count = count_after_lem k n; cases = c })).slot ≤ n)
        × ((cond b (closing_plan (marked_cases m) n c) (record { elses = 0; own = 1; ends = 0; kind = k; slot = n; mark = 0; count = count_after_lem k n; cases = c })).count ≤ n + 1)
    by true = (omega arith, omega arith, omega arith, omega arith, omega arith)
    by false = (omega arith, omega arith, omega arith, omega arith, count_small (is_opening k) (is_end_lem k))
      where
        count_small : (x y : Bool) → cond x (n + 1) (cond y (n - 1) n) ≤ n + 1
        count_small true y = omega arith
        count_small false true = omega arith
        count_small false false = omega arith
plan-small Switch m n c h = (omega arith, omega arith, omega arith, omega arith, omega arith)
plan-small Case m n c h = (else-small (ltb 2 m), omega arith, omega arith, omega arith, omega arith)
  where
    else-small : (b : Bool) → cond b 1 0 ≤ 1
    else-small true = omega arith
    else-small false = omega arith
plan-small Default m n c h = (else-small (ltb 2 m), omega arith, omega arith, omega arith, omega arith)
  where
    else-small : (b : Bool) → cond b 1 0 ≤ 1
    else-small true = omega arith
    else-small false = omega arith

-- ---- row i
-- the bytes from row i on, and the row that they begin with
abbrev pub rest : List ℕ → ℕ → List ℕ
rest bs i = drop (row_width * i) bs

pub rest-bytes : (bs : List ℕ) (i : ℕ) → AreBytes bs → AreBytes (rest bs i)
rest-bytes bs i w = record { each = λ j. subst (λ x. x < 256) (sym (get_or-drop (row_width * i) bs j 0)) (w.each (row_width * i + j)) }

pub given-at : (bs : List ℕ) (i : ℕ) → row_width * i + 5 < length bs → given_at (given_of bs) i ≡ first_given (drop (row_width * i) bs)
given-at bs i within =
    let q : row_width * i ≡ row_width * i + 0 = omega arith in
    row-given bs i (omega arith)
    ∙ ap (λ b. given_as b (row_in bs (row_width * i))) (ap (λ k. get_or bs k 0) q ∙ sym (get_or-drop (row_width * i) bs 0 0))
    ∙ ap (given_as (get_or (rest bs i) 0 0)) (row_drop bs (row_width * i))

module _ {bs : List ℕ} {i : ℕ} (here : Here bs i) where
  pub in_rows : i < length (given_of bs)
  in_rows = omega (arith, given-length bs, here.within)

  pub given-here : given_at (given_of bs) i ≡ first_given (rest bs i)
  given-here = given-at bs i here.within

  pub number-here : (operands_of (given_at (given_of bs) i)).n ≡ word_at bs (row_width * i + 4)
  unfolding row_in
  number-here =
      ap (λ r. (operands_of r).n) (row-given bs i (omega (arith, here.within)))
      ∙ ap (λ o. o.n) (operands-as (get_or bs (row_width * i) 0) (row_in bs (row_width * i)))

  pub variable-here : (operands_of (given_at (given_of bs) i)).p ≡ get_or bs (row_width * i + 2) 0
  unfolding row_in
  variable-here =
      ap (λ r. (operands_of r).p) (row-given bs i (omega (arith, here.within)))
      ∙ ap (λ o. o.p) (operands-as (get_or bs (row_width * i) 0) (row_in bs (row_width * i)))

-- what the innermost thing's mark can be
top_small : (ts : List Thing) → cases_in ts ≤ max_constructs → mark_top ts ≤ most_mark
top_small [] h = omega arith
top_small (construct ∷ ts) h = omega arith
top_small (switch s ∷ ts) h = by s.in_default
  where
    by : (d : Bool) → cond d 2 1 + 2 * length s.used ≤ most_mark
    by true = omega arith
    by false = omega arith

top-cases : (ts : List Thing) → marked_cases (mark_top ts) ≤ cases_in ts
top-cases [] = omega arith
top-cases (construct ∷ ts) = omega arith
top-cases (switch s ∷ ts) = omega (arith, mark-cases s)

module _ {bs : List ℕ} {i : ℕ} {s : Standing} {ps : List ℕ} {t : Things} {ms vs us out : List ℕ} (v : Reached bs i s ps t ms vs us out) where
  pub top-low : {top : ℕ} → top ≡ top_mark ms t.count → top ≤ most_mark
  top-low e = omega (arith, e, top_is (things_at (given_of bs) i) v.things, top_small (things_at (given_of bs) i) (omega (arith, v.things.cases_are, v.cases_low)))

  pub top-few : {top : ℕ} → top ≡ top_mark ms t.count → marked_cases top ≤ t.cases
  top-few e =
      let q = e ∙ top_is (things_at (given_of bs) i) v.things in
      omega (arith, ap marked_cases q, top-cases (things_at (given_of bs) i), v.things.cases_are)

  module _ (here : Here bs i) {sort : Sort} {top number : ℕ} (sort_is : sort ≡ sort_of_lem (first_given (take (length bs - row_width * i) (rest bs i))))
      (top-is' : top ≡ top_mark ms t.count) (number_is : number ≡ word_at bs (row_width * i + 4)) {x : Verdict}
      (caused : x ≡ cause_of sort number top t.count t.cases us) where
    -- the causes of the row itself
    pub cause-here : x ≡ own (given_at (given_of bs) i) (things_at (given_of bs) i)
    cause-here =
        let r = given_at (given_of bs) i in
        let ts = things_at (given_of bs) i in
        let a : sort ≡ sort_of_lem r = sort_is ∙ ap (λ l. sort_of_lem (first_given l)) (rest_all (row_width * i) bs) ∙ ap sort_of_lem (sym (given-here here)) in
        let b : number ≡ (operands_of r).n = number_is ∙ sym (number-here here) in
        let c : top ≡ mark_top ts = top-is' ∙ top_is ts v.things in
        caused ∙ ap (λ z. cause_of z number top t.count t.cases us) a ∙ ap (λ z. cause_of (sort_of_lem r) z top t.count t.cases us) b
        ∙ ap (λ z. cause_of (sort_of_lem r) (operands_of r).n z t.count t.cases us) c ∙ cause-is r ts v.things

    pub row-refused : {c : Refusal} → x ≡ Refused c → RowOk bs i ps ms vs us out (Faulty c)
    unfolding given_row_verdict
    row-refused {c} e =
        let r = given_at (given_of bs) i in
        let ts = things_at (given_of bs) i in
        record { leads = by_own (not (given_fits r)) (strays r ts) (repeats r ts) (span_verdict (chain_of (given_of bs)) (length (chain_to (given_of bs) i)) (length (chain_rows r ts))) (sym cause-here ∙ e) }
      where
        by_own : (a b d : Bool) (z : Verdict) → and_then (refuse_if_lem a WrongField) (and_then (refuse_if_lem b Misplaced) (refuse_if_lem d RepeatedCase)) ≡ Refused c
            → and_then (refuse_if_lem a WrongField) (and_then (refuse_if_lem b Misplaced) (and_then (refuse_if_lem d RepeatedCase) z)) ≡ Refused c
        by_own true b d z e = e
        by_own false true d z e = e
        by_own false false true z e = e
        by_own false false false z e = refused-not (sym e)

    pub row_sound : x ≡ Accepted → Sound bs i t ms us sort top number
    row_sound e =
        record {
          sort_is = sort_is ∙ ap (λ l. sort_of_lem (first_given l)) (rest_all (row_width * i) bs);
          top_is = top-is';
          number_is = number_is;
          no_cause = sym caused ∙ e;
        }
