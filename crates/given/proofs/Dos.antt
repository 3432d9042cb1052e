-- A do, as the code meets it: why it is refused, or where the pass stands after it. Assumes nothing.
use mathlib.Core.Path.{◌≡◌, refl, sym, ap, ◌∙◌, subst}
use mathlib.Core.Bool.{Bool, true, false, cond, not, ◌&&◌}
use mathlib.Core.List.{List, [], ◌∷◌}
use Prim.Native.Nat.{ℕ, suc, ◌+◌, ◌*◌, ◌-◌, ◌/◌, ◌<◌}
use native.Mathlib.Omega.{arith}
use lib.Dec.{eqb}
use lib.ListN.{length, get_or, take, drop}
use lib.Seq.{get_or-drop}
use borrow.Author.Tests.{ne_eqb}
use Rattle.rules.specs.declared.kind.Kind.TheVariants.{Do}
use Rattle.rules.specs.declared.refusal.Refusal.{Refusal}
use Rattle.rules.specs.declared.refusal.Refusal.TheVariants.{WrongField, Misplaced}
use Rattle.rules.specs.Verdict.{Accepted, Refused}
use Rattle.rules.specs.Bytes.{AreBytes, word_at}
use Rattle.rules.specs.Row.{row_width, kind_of, row_in, fields_fit_lem}
use Rattle.rules.specs.Scan.{shape_of}
use Rattle.rules.specs.Refusal.{refuse_if_lem}
use Rattle.rules.specs.Switch.{as_is, given_as, given_of, things_at, things_by, things_after}
use Rattle.rules.proofs.Logic.{not-true, not-false}
use Rattle.rows.specs.declared.row.Row as code
use Rattle.rows.specs.Row.{six, read_row}
use Rattle.rows.proofs.Rows.{rest_all}
use Rattle.scan.specs.declared.open.Standing.{Standing}
use Rattle.scan.specs.Next.{Next}
use Rattle.scan.specs.Next as next
use Rattle.scan.specs.Standing.{Sane}
use Rattle.scan.specs.Next.{NextOk, by_do, PlainOk}
use Rattle.given.specs.declared.plan.Plan.{Plan}
use Rattle.given.specs.Reached.{Faulty, On}
use Rattle.given.specs.declared.sort.Sort.TheVariants.{Wrong, Plain}
use Rattle.given.specs.declared.things.Things.{Things}
use Rattle.given.specs.Sort.{own_sort, sort_of_lem, first_given}
use Rattle.given.specs.Things.{top_mark, OpenIs}
use Rattle.given.specs.Plan.{closing_plan, plan_of, cause_of}
use Rattle.given.specs.Through.{stored, Through, SpansOk, many_rows}
use Rattle.given.specs.Reached.{Reached, Here, Sound, lengthened, RowOk}
use Rattle.given.proofs.Sorts.{sort-plain, first_plain}
use Rattle.given.proofs.Through.{through-refused, through_one}
use Rattle.given.proofs.Rows.{given-here, row-refused}
use Rattle.given.proofs.Taken.{take_refused, take_with}

-- ---- bytes that begin with a do
module _ (xs : List ℕ) (first : get_or xs 0 0 ≡ 2) where
  do-kind : (row_in xs 0).kind ≡ Do
  unfolding row_in kind_of
  do-kind = ap kind_of first

  do-given : first_given xs ≡ as_is (row_in xs 0)
  unfolding given_as
  do-given = ap (λ b. given_as b (row_in xs 0)) first

  do-sort : (f : Bool) → f ≡ fields_fit_lem Do (row_in xs 0).operands → own_sort f (Plain Do) ≡ sort_of_lem (first_given xs)
  do-sort f q =
      first_plain xs (own_sort f (Plain Do)) (λ e. let z : ⊥ = omega arith in z) (λ e. let z : ⊥ = omega arith in z) (λ e. let z : ⊥ = omega arith in z)
      (sort-plain xs Do f (own_sort f (Plain Do)) (sym do-kind) q refl)

-- ---- what a do does: it stands for itself, and what is open stays
abbrev do_plan : (count cases : ℕ) → Plan
do_plan n c = record { elses = 0; own = 1; ends = 0; kind = Do; slot = n; mark = 0; count = n; cases = c }

do-plan : (m n c : ℕ) → do_plan n c ≡ plan_of (Plain Do) m n c
do-plan m n c = by (eqb m 0)
  where
    by : (b : Bool) → do_plan n c ≡ cond (not b && false) (closing_plan ((m - 1) / 2) n c) (do_plan n c)
    by true = refl
    by false = refl

-- straight in a switch before its first part, and elsewhere
do-stray : (x m n c : ℕ) (us : List ℕ) → m ≡ 1 → cause_of (Plain Do) x m n c us ≡ Refused Misplaced
do-stray x m n c us e = ap (λ z. refuse_if_lem (not (eqb z 0) && eqb z 1) Misplaced) e

do-placed : (x m n c : ℕ) (us : List ℕ) → (m ≡ 1 → ⊥) → cause_of (Plain Do) x m n c us ≡ Accepted
do-placed x m n c us other = ap (λ b. refuse_if_lem (not (eqb m 0) && b) Misplaced) (ne_eqb m 1 other) ∙ by (eqb m 0)
  where
    by : (b : Bool) → refuse_if_lem (not b && false) Misplaced ≡ Accepted
    by true = refl
    by false = refl

module _ {s : Standing} {ps : List ℕ} (n c chained : ℕ) (xs out : List ℕ) {x : Next} (ok : PlainOk s x) (sane : Sane s ps) where
  next-ok : NextOk Do s ps ps x
  next-ok = ok.for_all Do ps (by_do refl) sane

  spans-refused : {r : Refusal} → x ≡ next.Faulty r → SpansOk (do_plan n c) xs s ps ps chained out out (next.Faulty r)
  spans-refused m = record { through = λ r kind bytes. through-refused next-ok r (kind (omega arith)) m }

  spans_on : {s' : Standing} {out' : List ℕ} → x ≡ next.On s' → out' ≡ stored xs chained out → SpansOk (do_plan n c) xs s ps ps chained out out' (next.On s')
  spans_on {s'} m e =
      record {
        through = λ r kind bytes.
            subst (λ o. Through (r ∷ []) s ps ps chained out o (next.On s')) (sym e)
            (through_one next-ok r (kind (omega arith)) chained out m xs (bytes (omega arith)));
      }

-- ---- row i
pub own_first : (bs : List ℕ) (i : ℕ) {b : ℕ} → get_or bs (row_width * i) 0 ≡ b → get_or (take (length bs - row_width * i) (drop (row_width * i) bs)) 0 0 ≡ b
own_first bs i first =
    let q : row_width * i + 0 ≡ row_width * i = omega arith in
    ap (λ l. get_or l 0 0) (rest_all (row_width * i) bs) ∙ get_or-drop (row_width * i) bs 0 0 ∙ ap (λ k. get_or bs k 0) q ∙ first

pub do-room : {bs : List ℕ} {i : ℕ} {s : Standing} {ps : List ℕ} {t : Things} {ms vs us out : List ℕ} → Reached bs i s ps t ms vs us out → Here bs i
    → t.chained < many_rows
do-room v here = omega (arith, v.chained_low, here.within, here.few)

module _ {bs : List ℕ} {i : ℕ} {s : Standing} {ps : List ℕ} {t : Things} {ms vs us out : List ℕ} (v : Reached bs i s ps t ms vs us out)
    (here : Here bs i) (first : get_or bs (row_width * i) 0 ≡ 2) where
  abbrev own : List ℕ
  own = take (length bs - row_width * i) (drop (row_width * i) bs)

  same_things : things_at (given_of bs) (suc i) ≡ things_at (given_of bs) i
  unfolding things_at
  same_things =
      let ts = things_at (given_of bs) i in
      ap (λ r. things_after r ts) (given-here here ∙ ap first_given (sym (rest_all (row_width * i) bs)) ∙ do-given own (own_first bs i first))
      ∙ ap (λ k. things_by (shape_of k) ts) (do-kind own (own_first bs i first))

  module _ {f : Bool} (fit : f ≡ fields_fit_lem Do (row_in own 0).operands) where
    pub do-wrong : not f ≡ true → RowOk bs i ps ms vs us out (Faulty WrongField)
    do-wrong e =
        row-refused v here {sort = Wrong} {top = top_mark ms t.count} {number = word_at bs (row_width * i + 4)}
        (sym (ap (λ b. own_sort b (Plain Do)) (not-true f e)) ∙ do-sort own (own_first bs i first) f fit) refl refl refl refl

    module _ (fine : not f ≡ false) {top : ℕ} (top_is : top ≡ top_mark ms t.count) where
      sort_is : Plain Do ≡ sort_of_lem (first_given own)
      sort_is = sym (ap (λ b. own_sort b (Plain Do)) (not-false f fine)) ∙ do-sort own (own_first bs i first) f fit

      pub do-misplaced : top ≡ 1 → RowOk bs i ps ms vs us out (Faulty Misplaced)
      do-misplaced e =
          let number = word_at bs (row_width * i + 4) in
          row-refused v here {sort = Plain Do} {top = top} {number = number} sort_is top_is refl refl (do-stray number top t.count t.cases us e)

      module _ (placed : top ≡ 1 → ⊥) (w : AreBytes bs) {x : Next} (ok : PlainOk s x) where
        sound : Sound bs i t ms us (Plain Do) top (word_at bs (row_width * i + 4))
        sound =
            record {
              sort_is = sort_is ∙ ap (λ l. sort_of_lem (first_given l)) (rest_all (row_width * i) bs);
              top_is = top_is;
              number_is = refl;
              no_cause = do-placed (word_at bs (row_width * i + 4)) top t.count t.cases us placed;
            }

        pub do_refused : {c : Refusal} → x ≡ next.Faulty c → RowOk bs i ps ms vs us out (Faulty c)
        do_refused m =
            take_refused v here sound {p = do_plan t.count t.cases} (do-plan top t.count t.cases) w refl {row = read_row own} refl
            (spans-refused t.count t.cases t.chained (six (read_row own)) out ok v.sane m) refl

        pub do_on : {n : Standing} {row : code.Row} {out' : List ℕ} {t' : Things} → x ≡ next.On n → row ≡ read_row own
            → out' ≡ stored (six row) t.chained out → t' ≡ lengthened t i → RowOk bs i ps ms vs us out' (On n t')
        do_on {row = row} m row_is e z =
            take_with v here sound {p = do_plan t.count t.cases} (do-plan top t.count t.cases) w refl {row = row} row_is
            (spans_on t.count t.cases t.chained (six row) out ok v.sane m e) refl
            (subst (λ ts. OpenIs ts t.count t.cases ms vs us) (sym same_things) v.things) v.marks_long v.vars_long v.words_long z
