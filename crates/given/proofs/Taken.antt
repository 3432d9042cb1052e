-- A row as given that meets none of 3, 4 and 11: its rows of the chain are refused, or the pass stands behind it. Assumes nothing.
use mathlib.Core.Path.{◌≡◌, refl, sym, ap, ◌∙◌, subst}
use mathlib.Core.Bool.{Bool, true, false, cond, not}
use mathlib.Core.List.{List, ◌++◌}
use Prim.Native.Nat.{ℕ, suc, ◌+◌, ◌*◌, ◌-◌, ◌≤◌, ◌<◌}
use native.Mathlib.Omega.{arith}
use lib.Dec.{ltb}
use lib.ListN.{length, get_or, set, take, drop, replicate, length-drop, length-append, length-set, length-replicate}
use borrow.Author.Tests.{lt-ltb, ltb-true, ltb-false}
use Rattle.rules.specs.declared.kind.Kind.TheVariants.{Else, End, Unknown}
use Rattle.rules.specs.declared.refusal.Refusal.{Refusal}
use Rattle.rules.specs.declared.refusal.Refusal.TheVariants.{WrongField, Misplaced, RepeatedCase}
use Rattle.rules.specs.Verdict.{Verdict, Accepted, Refused}
use Rattle.rules.specs.Bytes.{AreBytes}
use Rattle.rules.specs.Limits.{max_rows, max_constructs}
use Rattle.rules.specs.Row.{Row, row_width, row_in, row_at, kind_at, table_of, row_bytes}
use Rattle.rules.specs.Refusal.{refuse_if_lem, and_then}
use Rattle.rules.specs.Switch.{GivenRow, given_of, given_at, Thing, things_at, bare_row, chain_rows, chain_to, chain_of, chain_bytes}
use Rattle.rules.specs.Given.{given_fits, strays, repeats, span_verdict, given_row_verdict, given_rows_verdict}
use Rattle.rules.specs.Fault.{row_of}
use Rattle.rules.proofs.Accepted.{refused-not}
use Rattle.rules.proofs.Encode.{table-bytes-length}
use Rattle.rules.proofs.Switch.Chain.{chain-grows, in-chain, chain-table}
use Rattle.rules.proofs.Switch.Bound.{three-each, few-cases}
use Rattle.rules.proofs.Switch.Parts.{chain_fits}
use Rattle.rules.proofs.Switch.Rows.{row_chained, row-of-is}
use Rattle.rows.specs.First.{proper_kind}
use Rattle.rows.specs.declared.row.Row as code
use Rattle.rows.specs.Row.{six}
use Rattle.rows.proofs.Rows.{rest_all, cut-row}
use Rattle.scan.specs.declared.open.Standing.{Standing}
use Rattle.scan.specs.Next.{Next}
use Rattle.scan.specs.Next as next
use Rattle.scan.specs.Standing.{Stands}
use Rattle.given.specs.declared.plan.Plan.{Plan}
use Rattle.given.specs.Reached.{Faulty, On}
use Rattle.given.specs.declared.sort.Sort.{Sort}
use Rattle.given.specs.declared.things.Things.{Things}
use Rattle.given.specs.Sort.{sort_of_lem, first_given}
use Rattle.given.specs.Things.{OpenIs, long_row_lem}
use Rattle.given.specs.Plan.{plan_of, planned_rows}
use Rattle.given.specs.Through.{KindsAt, Through, SpansOk, many_rows}
use Rattle.given.specs.Reached.{Reached, Here, Sound, var_by, own_row, rows_in_lem, grown, RowOk}
use Rattle.given.proofs.Through.{span-good}
use Rattle.given.proofs.Marks.{mark_top, top_is}
use Rattle.given.proofs.Plans.{named, sort-fits, operands_of, own, own_of, plan-rows, StoredBy, plan-things}
use Rattle.given.proofs.Rows.{own-kind, own-six, plan-small, rest, rest-bytes, in_rows, given-here, number-here, variable-here, top-low, cause-here}

-- a row that meets none of its own causes
record Fits (r : GivenRow) (ts : List Thing) : Type 0 where
  fits : given_fits r ≡ true
  placed : strays r ts ≡ false
  first_use : repeats r ts ≡ false

fits-own : (r : GivenRow) (ts : List Thing) → own r ts ≡ Accepted → Fits r ts
fits-own r ts e = by (given_fits r) (strays r ts) (repeats r ts) refl refl refl e
  where
    by : (a b d : Bool) → given_fits r ≡ a → strays r ts ≡ b → repeats r ts ≡ d
        → and_then (refuse_if_lem (not a) WrongField) (and_then (refuse_if_lem b Misplaced) (refuse_if_lem d RepeatedCase)) ≡ Accepted → Fits r ts
    by true false false p q z e = record { fits = p; placed = q; first_use = z }
    by true false true p q z e = absurd (refused-not e)
    by true true d p q z e = absurd (refused-not e)
    by false b d p q z e = absurd (refused-not e)

planned-length : (p : Plan) (r : Row) → length (planned_rows p r) ≡ rows_in_lem p
planned-length p r =
    length-append (replicate p.elses (bare_row Else)) (replicate p.own r ++ replicate p.ends (bare_row End))
    ∙ omega (arith, length-replicate p.elses (bare_row Else), length-append (replicate p.own r) (replicate p.ends (bare_row End)), length-replicate p.own r, length-replicate p.ends (bare_row End))

-- the rows of the chain that row i stands for, as `scan` meets them
chain-here : (bs : List ℕ) (i : ℕ) → i < length (given_of bs) → given_rows_verdict (given_of bs) (chain_of (given_of bs)) i ≡ Accepted
    → given_fits (given_at (given_of bs) i) ≡ true
    → KindsAt (chain_rows (given_at (given_of bs) i) (things_at (given_of bs) i)) (chain_bytes bs) (length (chain_to (given_of bs) i))
unfolding chain_bytes proper_kind
chain-here bs i here good fits k l =
    let g = given_of bs in
    let rows = chain_rows (given_at g i) (things_at g i) in
    let from = length (chain_to g i) in
    let q = in-chain g i k (length g) here l in
    let long : row_width * (from + k) + 5 < length (chain_bytes bs) = omega (arith, table-bytes-length (chain_of g), q.below) in
    let xs = drop (row_width * (from + k)) (chain_bytes bs) in
    let row : row_in xs 0 ≡ row_at rows k
    = sym (cut-row (chain_bytes bs) xs (from + k) refl (omega arith) (omega (arith, length-drop (row_width * (from + k)) (chain_bytes bs))))
    ∙ ap (λ t. row_at t (from + k)) (chain-table bs) ∙ q.row_is in
    record { within = long; kind_is = ap proper_kind row ∙ ap (λ b. cond b (kind_at rows k) Unknown) (chain_fits g (chain_of g) i k good fits l) }

module _ {bs : List ℕ} {i : ℕ} {s : Standing} {ps : List ℕ} {t : Things} {ms vs us out : List ℕ} (v : Reached bs i s ps t ms vs us out)
    (here : Here bs i) {sort : Sort} {top number : ℕ} (so : Sound bs i t ms us sort top number) where
  fits-here : Fits (given_at (given_of bs) i) (things_at (given_of bs) i)
  fits-here =
      fits-own (given_at (given_of bs) i) (things_at (given_of bs) i)
      (sym (cause-here v here (so.sort_is ∙ ap (λ l. sort_of_lem (first_given l)) (sym (rest_all (row_width * i) bs))) so.top_is so.number_is refl) ∙ so.no_cause)

  sort-here : sort ≡ named (given_at (given_of bs) i)
  sort-here = so.sort_is ∙ ap sort_of_lem (sym (given-here here)) ∙ sort-fits (given_at (given_of bs) i) fits-here.fits

  top-here : top ≡ mark_top (things_at (given_of bs) i)
  top-here = so.top_is ∙ top_is (things_at (given_of bs) i) v.things

  module _ {p : Plan} (plan-is : p ≡ plan_of sort top t.count t.cases) where
    plan-here : p ≡ plan_of (named (given_at (given_of bs) i)) (mark_top (things_at (given_of bs) i)) t.count t.cases
    plan-here = plan-is ∙ ap (λ z. plan_of z top t.count t.cases) sort-here ∙ ap (λ z. plan_of (named (given_at (given_of bs) i)) z t.count t.cases) top-here

    -- what `spans` and the stores ask
    pub record Small : Type 0 where
      pub elses_low : p.elses ≤ 1
      pub own_low : p.own ≤ 1
      pub rows_low : t.chained + rows_in_lem p ≤ many_rows
      pub slot_low : p.slot < max_rows
      pub count_low : p.count ≤ i + 1

    pub plan_low : Small
    plan_low =
        let q = plan-small sort top t.count t.cases (top-low v so.top_is) in
        let few = here.few in
        let within = here.within in
        record {
          elses_low = subst (λ z. z.elses ≤ 1) (sym plan-is) q.0;
          own_low = subst (λ z. z.own ≤ 1) (sym plan-is) q.1;
          rows_low = subst (λ z. t.chained + rows_in_lem z ≤ many_rows) (sym plan-is) (omega (arith, q.0, q.1, q.2, v.chained_low));
          slot_low = subst (λ z. z.slot < max_rows) (sym plan-is) (omega (arith, q.3, v.count_low));
          count_low = subst (λ z. z.count ≤ i + 1) (sym plan-is) (omega (arith, q.4, v.count_low));
        }

    module _ (w : AreBytes bs) {var : ℕ} (var-here : var ≡ var_by sort (get_or bs (row_width * i + 2) 0) vs t.count) {row : code.Row}
        (row_is : row ≡ own_row sort var (take (length bs - row_width * i) (rest bs i))) {ps' out' : List ℕ} {x : Next}
        (ok : SpansOk p (six row) s ps ps' t.chained out out' x) where
      var_named : var ≡ var_by (named (given_at (given_of bs) i)) (operands_of (given_at (given_of bs) i)).p vs t.count
      var_named = var-here ∙ ap (λ z. var_by z (get_or bs (row_width * i + 2) 0) vs t.count) sort-here
          ∙ ap (λ z. var_by (named (given_at (given_of bs) i)) z vs t.count) (sym (variable-here here))

      -- the rows of the chain have gone through
      through : Through (chain_rows (given_at (given_of bs) i) (things_at (given_of bs) i)) s ps ps' t.chained out out' x
      through =
          let r = given_at (given_of bs) i in
          let f = first_given (rest bs i) in
          let ts = things_at (given_of bs) i in
          let q = given-here here in
          let rows : planned_rows p (own_of r ts) ≡ chain_rows r ts
          = ap (λ z. planned_rows z (own_of r ts)) plan-here ∙ sym (plan-rows r ts t.count t.cases fits-here.placed) in
          let kind : 0 < p.own → (own_of r ts).kind ≡ p.kind
          = λ h. own-kind r ts (mark_top ts) t.count t.cases fits-here.placed refl (subst (λ z. 0 < z.own) plan-here h) ∙ ap (λ z. z.kind) (sym plan-here) in
          let bytes : 0 < p.own → row_bytes (own_of r ts) ≡ six row
          = λ h. ap (λ z. row_bytes (own_of z ts)) q
          ∙ own-six (rest bs i) (rest-bytes bs i w) v.things (mark_top ts) t.count t.cases (operands_of r).p
          (subst (λ z. given_fits z ≡ true) q fits-here.fits) (subst (λ z. strays z ts ≡ false) q fits-here.placed)
          (subst (λ z. 0 < (plan_of (named z) (mark_top ts) t.count t.cases).own) q (subst (λ z. 0 < z.own) plan-here h))
          ∙ ap (λ z. six (own_row (named z) (var_by (named z) (operands_of r).p vs t.count) (rest bs i))) (sym q)
          ∙ ap (λ z. six (own_row (named r) z (rest bs i))) (sym var_named) ∙ ap (λ z. six (own_row z var (rest bs i))) (sym sort-here)
          ∙ ap (λ z. six (own_row sort var z)) (sym (rest_all (row_width * i) bs)) ∙ ap six (sym row_is) in
          subst (λ rs. Through rs s ps ps' t.chained out out' x) rows (ok.through (own_of r ts) kind bytes)

      kinds : KindsAt (chain_rows (given_at (given_of bs) i) (things_at (given_of bs) i)) (chain_bytes bs) t.chained
      kinds = subst (KindsAt (chain_rows (given_at (given_of bs) i) (things_at (given_of bs) i)) (chain_bytes bs)) v.chained_is (chain-here bs i (in_rows here) v.good fits-here.fits)

      verdict : (y : Verdict) → span_verdict (table_of (chain_bytes bs)) t.chained (length (chain_rows (given_at (given_of bs) i) (things_at (given_of bs) i))) ≡ y
          → given_row_verdict (given_of bs) (chain_of (given_of bs)) i ≡ y
      verdict y e =
          let n = length (chain_rows (given_at (given_of bs) i) (things_at (given_of bs) i)) in
          row_chained (given_of bs) (chain_of (given_of bs)) i fits-here.fits fits-here.placed fits-here.first_use y
          (ap (λ c. span_verdict c (length (chain_to (given_of bs) i)) n) (sym (chain-table bs)) ∙ ap (λ j. span_verdict (table_of (chain_bytes bs)) j n) v.chained_is ∙ e)

      pub take_refused : {c : Refusal} {ms' vs' us' : List ℕ} → x ≡ next.Faulty c → RowOk bs i ps' ms' vs' us' out' (Faulty c)
      take_refused {c} m =
          let a = subst (λ y. Through (chain_rows (given_at (given_of bs) i) (things_at (given_of bs) i)) s ps ps' t.chained out out' y) m through in
          record { leads = verdict (Refused c) (a.goes (chain_bytes bs) t.chained kinds v.chain) }

      module _ {n : Standing} (m : x ≡ next.On n) where
        passed : Through (chain_rows (given_at (given_of bs) i) (things_at (given_of bs) i)) s ps ps' t.chained out out' (next.On n)
        passed = subst (λ y. Through (chain_rows (given_at (given_of bs) i) (things_at (given_of bs) i)) s ps ps' t.chained out out' y) m through

        count : length (chain_rows (given_at (given_of bs) i) (things_at (given_of bs) i)) ≡ rows_in_lem p
        count =
            let r = given_at (given_of bs) i in
            let ts = things_at (given_of bs) i in
            ap length (plan-rows r ts t.count t.cases fits-here.placed) ∙ ap (λ z. length (planned_rows z (own_of r ts))) (sym plan-here)
            ∙ planned-length p (own_of r ts)

        led : Stands (chain_bytes bs) (t.chained + rows_in_lem p) n ps'
        led = subst (λ k. Stands (chain_bytes bs) (t.chained + k) n ps') count (passed.goes.leads (chain_bytes bs) t.chained kinds v.chain)

        good_next : given_rows_verdict (given_of bs) (chain_of (given_of bs)) (suc i) ≡ Accepted
        unfolding given_rows_verdict
        good_next =
            ap (λ z. and_then z (given_row_verdict (given_of bs) (chain_of (given_of bs)) i)) v.good
            ∙ verdict Accepted (ap (λ k. span_verdict (table_of (chain_bytes bs)) t.chained k) count ∙ span-good (chain_bytes bs) t.chained (rows_in_lem p) led)

        longer : length (chain_to (given_of bs) (suc i)) ≡ t.chained + rows_in_lem p
        longer = chain-grows (given_of bs) i ∙ omega (arith, v.chained_is, count)

        long_next : max_rows < t.chained + rows_in_lem p → row_of (given_of bs) max_rows ≡ long_row_lem t.chained (t.chained + rows_in_lem p) t.long i
        long_next h = by (ltb max_rows t.chained) refl
          where
            by : (b : Bool) → ltb max_rows t.chained ≡ b
                → row_of (given_of bs) max_rows ≡ cond b t.long (cond (ltb max_rows (t.chained + rows_in_lem p)) i t.long)
            by true e = v.long_is (ltb-true max_rows t.chained e)
            by false e =
                let l = ltb-false max_rows t.chained e in
                row-of-is (given_of bs) i max_rows (in_rows here) (omega (arith, v.chained_is)) (omega (arith, longer))
                ∙ ap (λ c. cond c i t.long) (sym (lt-ltb max_rows (t.chained + rows_in_lem p) h))

        -- what is open after the row stands in the arrays
        pub take_with : {ms' vs' us' : List ℕ} → OpenIs (things_at (given_of bs) (suc i)) p.count p.cases ms' vs' us' → length ms' ≡ max_rows
            → length vs' ≡ max_rows → length us' ≡ max_constructs + 1 → {t' : Things} → t' ≡ grown t p i → RowOk bs i ps' ms' vs' us' out' (On n t')
        unfolding chain_to
        take_with {ms'} {vs'} {us'} open_next a b c {t'} z =
            record {
              leads = rw z (record {
                good = good_next;
                chain = led;
                chained_is = longer;
                things = open_next;
                written = passed.goes.kept (chain_to (given_of bs) i) v.chained_is v.written;
                long_is = long_next;
                sane = passed.goes.sane;
                marks_long = a;
                vars_long = b;
                words_long = c;
                count_low = omega (arith, plan_low.count_low);
                cases_low = omega (arith, open_next.cases_are, few-cases (given_of bs) (suc i) (in_rows here) good_next);
                chained_low = omega (arith, open_next.cases_are, longer, three-each (given_of bs) (suc i));
              });
            }

        pub take_on : {ms' vs' us' : List ℕ} → ms' ≡ set ms p.slot p.mark → vs' ≡ set vs p.slot var → us' ≡ set us t.cases number
            → {t' : Things} → t' ≡ grown t p i → RowOk bs i ps' ms' vs' us' out' (On n t')
        unfolding things_at
        take_on {ms'} {vs'} {us'} e f h {t'} z =
            let r = given_at (given_of bs) i in
            let ts = things_at (given_of bs) i in
            let a = v.marks_long in
            let b = v.vars_long in
            let c = v.words_long in
            let room : t.count < length ms = omega (arith, here.within, here.few, v.count_low) in
            let after = things_at (given_of bs) (suc i) in
            let plan = plan_of (named r) (mark_top ts) t.count t.cases in
            let open_next : StoredBy p var number t.cases ms vs us after
            = subst (λ q. StoredBy q var number t.cases ms vs us after) (sym plan-here)
            (subst (λ y. StoredBy plan y number t.cases ms vs us after) (sym var_named)
            (subst (λ y. StoredBy plan (var_by (named r) (operands_of r).p vs t.count) y t.cases ms vs us after) (number-here here ∙ sym so.number_is)
            (plan-things room (omega arith) (omega (arith, v.cases_low)) r ts v.things fits-here.placed))) in
            rw (e, f, h) (take_with open_next (length-set ms p.slot p.mark ∙ a) (length-set vs p.slot var ∙ b) (length-set us t.cases number ∙ c) z)
