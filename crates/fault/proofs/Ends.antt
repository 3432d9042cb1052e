-- The passes over a table and what they find, as laws. Assumes nothing.
use mathlib.Core.Path.{◌≡◌, refl, sym, ap, ◌∙◌, subst}
use mathlib.Core.Bool.{Bool, true, false, cond, not, ◌&&◌}
use mathlib.Core.List.{List, [], ◌∷◌}
use Prim.Native.Nat.{ℕ, ◌+◌, ◌*◌, ◌/◌, ◌%◌, ◌-◌, ◌≤◌, ◌<◌}
use native.Mathlib.Numerals.{add-one}
use native.Mathlib.Omega.{arith}
use lib.Dec.{eqb, ltb, leb}
use lib.ListN.{length, get_or, take, drop}
use borrow.Author.Tests.{eq-eqb, ne_eqb, eqb-true, eqb-false, ltb-true, ltb-false, lt-ltb, le-ltb}
use Rattle.rules.specs.declared.refusal.Refusal.{Refusal}
use Rattle.rules.specs.declared.refusal.Refusal.TheVariants.{NoWholeRows, TooManyRows, Misplaced, NoSuchFunction}
use Rattle.rules.specs.Verdict.{Accepted, Refused}
use Rattle.rules.specs.Limits.{max_rows, max_constructs}
use Rattle.rules.specs.Row.{Row, row_width, row_in, kind_of, table_bytes}
use Rattle.rules.specs.Scan.{open_at, regions, functions, function_count}
use Rattle.rules.specs.Refusal.{is_accepted}
use Rattle.rules.specs.Check.{is_call, rows_verdict, calls_verdict}
use Rattle.rules.specs.Switch.{as_is, switch_row, case_row, default_row, given_as, given_of, given_at, Thing, things_at, chain_to, chain_of}
use Rattle.rules.specs.Given.{is_any, given_row_verdict, given_rows_verdict, given_table_verdict, given_verdict}
use Rattle.rules.specs.Fault.{row_of, calls_beyond_lem, calling_row, fault_row}
use Rattle.rules.proofs.Logic.{Order, less, same, more, order}
use Rattle.rules.proofs.Search.{first_is}
use Rattle.rules.proofs.Switch.Chain.{given-length, chain-table}
use Rattle.rules.proofs.Switch.Rows.{table-refused, faulty-first, row-cause, row-of-cause, end-open, end-long, end-calls, calls_found, calls-all}
use Rattle.rows.specs.First as rows
use Rattle.rows.proofs.Rows.{rest_all}
use Rattle.scan.specs.declared.open.Standing.{Standing}
use Rattle.scan.specs.Standing.{none}
use Rattle.scan.proofs.Parts.{bytes-none}
use Rattle.given.specs.Reached.{After}
use Rattle.given.specs.Reached as after
use Rattle.given.specs.declared.things.Things.{Things}
use Rattle.given.specs.Through.{Written}
use Rattle.given.specs.Reached.{Reached, Here, RowOk}
use Rattle.given.proofs.Rows.{given-at}
use Rattle.fault.specs.declared.pass.TableFault.{TableFault}
use Rattle.fault.specs.declared.pass.Counted.{Counted}
use Rattle.std.specs.Prelude.{Ok, Err}
use Rattle.fault.specs.Found.{Passed, Found, fault_at, nothing, end_of, last_of, StoppedAt, Chained, PassedOk, FoundOk}

abbrev counts_of : Standing → Things → Counted
counts_of s t = record { functions = s.count; rows = t.chained; long = t.long }

-- ---- what the derived defaults give
pub standing-none : {s : Standing} → (s.depth ≡ 0) × ((s.loops ≡ 0) × ((s.opened ≡ 0) × (s.count ≡ 0))) → s ≡ none
standing-none {s} e = by s.depth s.loops s.opened s.count e.0 e.1.0 e.1.1.0 e.1.1.1
  where
    by : (d l o c : ℕ) → d ≡ 0 → l ≡ 0 → o ≡ 0 → c ≡ 0 → record { depth = d; loops = l; opened = o; count = c } ≡ none
    by d l o c p q r z = rw (p, q, r, z)

pub things-nothing : {t : Things} → (t.count ≡ 0) × ((t.cases ≡ 0) × ((t.chained ≡ 0) × (t.long ≡ 0))) → t ≡ nothing
things-nothing {t} e = by t.count t.cases t.chained t.long e.0 e.1.0 e.1.1.0 e.1.1.1
  where
    by : (n c d l : ℕ) → n ≡ 0 → c ≡ 0 → d ≡ 0 → l ≡ 0 → record { count = n; cases = c; chained = d; long = l } ≡ nothing
    by n c d l p q r z = rw (p, q, r, z)

-- ---- the pass over the rows, up to row `at`
pub record PassTo (bs out₀ : List ℕ) (at : ℕ) (s : Standing) (ps : List ℕ) (t : Things) (ms vs us out : List ℕ) : Type 0 where
  pub le : row_width * at ≤ length bs
  pub few : length bs ≤ row_width * max_rows
  pub reached : Reached bs at s ps t ms vs us out
  pub long : length out ≡ length out₀

pub pass-start : {bs ps ms vs us out : List ℕ} {s : Standing} {t : Things} → length bs ≤ row_width * max_rows → length ps ≡ max_constructs + 1
    → length ms ≡ max_rows → length vs ≡ max_rows → length us ≡ max_constructs + 1 → s ≡ none → t ≡ nothing → PassTo bs out 0 s ps t ms vs us out
unfolding rows_verdict open_at regions functions given_rows_verdict things_at chain_to table_bytes
pass-start {bs} {ps} h l a b c q r = rw (q, r) (record {
  le = omega arith;
  few = h;
  reached = record {
    good = refl;
    chain = record { good = refl; parts = record { depth_is = refl; spelt = tt; rooted = tt; opened_are = tt }; count_is = refl };
    chained_is = refl;
    things = record { count_is = refl; cases_are = refl; spelt = tt };
    written = λ z. refl;
    long_is = λ z. absurd (let y : ⊥ = omega arith in y);
    sane = record {
      long = l;
      deep = omega arith;
      loops_are = bytes-none ps;
      loops_low = omega arith;
      regions_low = omega arith;
      functions_low = omega arith;
    };
    marks_long = a;
    vars_long = b;
    words_long = c;
    count_low = omega arith;
    cases_low = omega arith;
    chained_low = omega arith;
  };
  long = refl;
})

module _ {bs : List ℕ} {at : ℕ} {s : Standing} {ps : List ℕ} {t : Things} {ms vs us out out₀ : List ℕ} (v : PassTo bs out₀ at s ps t ms vs us out) where
  pub pass-here : row_width * at + 5 < length bs → Here bs at
  pass-here h = record { within = h; few = v.few }

  module _ (h : row_width * at + 5 < length bs) {ps' ms' vs' us' out' : List ℕ} {r : After} (ok : RowOk bs at ps' ms' vs' us' out' r) where
    row_here : at < length (given_of bs)
    row_here = omega (arith, given-length bs)

    pub pass-stopped : {c : Refusal} → r ≡ after.Faulty c → PassedOk bs out' (Err (fault_at c at))
    pass-stopped {c} m =
        let e : given_row_verdict (given_of bs) (chain_of (given_of bs)) at ≡ Refused c = (subst (RowOk bs at ps' ms' vs' us' out') m ok).leads in
        record {
          leads = record {
            refused = table-refused (given_of bs) (chain_of (given_of bs)) at v.reached.good row_here e;
            row_is = row-of-cause c (row-cause (given_of bs) (chain_of (given_of bs)) at e) bs
                ∙ faulty-first (given_of bs) (chain_of (given_of bs)) at v.reached.good (omega (arith, row_here)) (λ l. ap (λ x. not (is_accepted x)) e);
          };
        }

    pub pass_on : {s' : Standing} {t' : Things} → r ≡ after.On s' t' → length out' ≡ length out → PassTo bs out₀ (at + 1) s' ps' t' ms' vs' us' out'
    pass_on {s'} {t'} m l =
        record {
          le = omega arith;
          few = v.few;
          reached = subst (λ i. Reached bs i s' ps' t' ms' vs' us' out') (sym (add-one at)) (subst (RowOk bs at ps' ms' vs' us' out') m ok).leads;
          long = l ∙ v.long;
        }

  -- the end of the table
  module _ (h : length bs ≤ row_width * at + 5) where
    at_end : at ≡ length (given_of bs)
    at_end = omega (arith, given-length bs, v.le)

    good_all : given_rows_verdict (given_of bs) (chain_of (given_of bs)) (length (given_of bs)) ≡ Accepted
    good_all = ap (given_rows_verdict (given_of bs) (chain_of (given_of bs))) (sym at_end) ∙ v.reached.good

    any_open : (ts : List Thing) → length ts ≡ t.count → (b : Bool) → eqb t.count 0 ≡ b → is_any ts ≡ not b
    any_open [] q true e = refl
    any_open [] q false e = absurd (eqb-false t.count 0 e (sym q))
    any_open (x ∷ ts) q true e = absurd (let z : ⊥ = omega (arith, eqb-true t.count 0 e, q) in z)
    any_open (x ∷ ts) q false e = refl

    open_now : (b : Bool) → eqb t.count 0 ≡ b → is_any (things_at (given_of bs) (length (given_of bs))) ≡ not b
    open_now b e = ap (λ i. is_any (things_at (given_of bs) i)) (sym at_end) ∙ any_open (things_at (given_of bs) at) v.reached.things.count_is b e

    chained_all : t.chained ≡ length (chain_of (given_of bs))
    chained_all = sym v.reached.chained_is ∙ ap (λ i. length (chain_to (given_of bs) i)) at_end

    left_open : eqb t.count 0 ≡ false → StoppedAt bs Misplaced at
    unfolding fault_row
    left_open e =
        record {
          refused = end-open (given_of bs) (chain_of (given_of bs)) good_all (open_now false e);
          row_is = faulty-first (given_of bs) (chain_of (given_of bs)) at v.reached.good (omega (arith, at_end)) (λ l. absurd (let z : ⊥ = omega (arith, at_end) in z));
        }

    counted : eqb t.count 0 ≡ true → Chained bs s.count t.chained t.long out
    counted e =
        record {
          good = good_all;
          closed = open_now true e;
          count_is = sym v.reached.chain.count_is ∙ ap (λ c. functions c t.chained) (chain-table bs) ∙ ap (functions (chain_of (given_of bs))) chained_all;
          rows_are = chained_all;
          long_is = v.reached.long_is;
          written = subst (λ i. Written (chain_to (given_of bs) i) out) at_end v.reached.written;
        }

    pub pass_end : {r : Passed} → r ≡ end_of s t at → PassedOk bs out r
    pass_end {r} q = subst (PassedOk bs out) (sym q) (by (eqb t.count 0) refl)
      where
        by : (a : Bool) → eqb t.count 0 ≡ a → PassedOk bs out (cond a (Ok (counts_of s t)) (Err (fault_at Misplaced at)))
        by true e = record { leads = counted e }
        by false e = record { leads = left_open e }

    -- the same, where the end was told a number `n` that is `at`
    pub pass_ended : {r : Passed} {n : ℕ} → r ≡ end_of s t n → n ≡ at → PassedOk bs out r
    pass_ended q e = pass_end (q ∙ ap (end_of s t) e)

-- what the end answers, by how many things are open
module _ (s : Standing) (t : Things) (at : ℕ) where
  pub some-open : (t.count ≡ 0 → ⊥) → Err (fault_at Misplaced at) ≡ end_of s t at
  some-open n = rw (ne_eqb t.count 0 n)

  pub none_open : t.count ≡ 0 → Ok (counts_of s t) ≡ end_of s t at
  none_open e = rw (eq-eqb t.count 0 e)

-- ---- the calls
-- no row before row `at` calls a function that isn't there
pub record CallsTo (bs : List ℕ) (count at : ℕ) : Type 0 where
  pub le : row_width * at ≤ length bs
  pub none : (m : ℕ) → m < at → calls_beyond_lem count (given_at (given_of bs) m) ≡ false

pub calls-start : {bs : List ℕ} {count : ℕ} → CallsTo bs count 0
calls-start = record { le = omega arith; none = λ m l. absurd (let z : ⊥ = omega arith in z) }

beyond-as : (count b : ℕ) (r : Row) → r.kind ≡ kind_of b → calls_beyond_lem count (given_as b r) ≡ rows.calls_beyond_lem count r
unfolding given_as calls_beyond_lem rows.calls_beyond_lem kind_of
beyond-as count b r q = by (eqb b 0x0a) (eqb b 0x0b) (eqb b 0x0c) refl refl refl
  where
    other : (k : ℕ) → b ≡ k → rows.calls_beyond_lem count r ≡ is_call (kind_of k) && leb count r.operands.n
    other k e = ap (λ x. is_call x && leb count r.operands.n) (q ∙ ap kind_of e)

    by : (x y z : Bool) → eqb b 0x0a ≡ x → eqb b 0x0b ≡ y → eqb b 0x0c ≡ z
        → calls_beyond_lem count (cond x (switch_row r.operands) (cond y (case_row r.operands) (cond z (default_row r.operands) (as_is r)))) ≡ rows.calls_beyond_lem count r
    by true y z e f g = sym (other 0x0a (eqb-true b 0x0a e))
    by false true z e f g = sym (other 0x0b (eqb-true b 0x0b f))
    by false false true e f g = sym (other 0x0c (eqb-true b 0x0c g))
    by false false false e f g = refl

module _ {bs : List ℕ} {count at : ℕ} (v : CallsTo bs count at) where
  module _ (h : row_width * at + 5 < length bs) {b : Bool} (ok : b ≡ rows.calls_beyond_lem count (row_in (take (length bs - row_width * at) (drop (row_width * at) bs)) 0)) where
    row-calls : calls_beyond_lem count (given_at (given_of bs) at) ≡ b
    unfolding row_in
    row-calls =
        let xs = drop (row_width * at) bs in
        ap (calls_beyond_lem count) (given-at bs at h) ∙ beyond-as count (get_or xs 0 0) (row_in xs 0) refl
        ∙ ap (λ l. rows.calls_beyond_lem count (row_in l 0)) (sym (rest_all (row_width * at) bs)) ∙ sym ok

    pub calls-here : b ≡ true → at ≡ calling_row (given_of bs) count
    calls-here e =
        sym (first_is (λ i. calls_beyond_lem count (given_at (given_of bs) i)) (length (given_of bs)) 0 at (omega arith) (omega (arith, given-length bs)) (λ l. row-calls ∙ e)
        (λ m a l. v.none m l))

    pub calls-on : b ≡ false → CallsTo bs count (at + 1)
    calls-on e = record { le = omega arith; none = λ m l. next m (order m at) (omega arith) }
      where
        next : (m : ℕ) → Order m at → m ≤ at → calls_beyond_lem count (given_at (given_of bs) m) ≡ false
        next m (less q) l = v.none m q
        next m (same q) l = ap (λ i. calls_beyond_lem count (given_at (given_of bs) i)) q ∙ row-calls ∙ e
        next m (more q) l = absurd (let z : ⊥ = omega arith in z)

  pub calls-done : length bs ≤ row_width * at + 5 → at ≡ calling_row (given_of bs) count
  calls-done h =
      let q : at ≡ length (given_of bs) = omega (arith, given-length bs, v.le) in
      sym (first_is (λ i. calls_beyond_lem count (given_at (given_of bs) i)) (length (given_of bs)) 0 at (omega arith) (omega arith)
      (λ l. absurd (let z : ⊥ = omega arith in z)) (λ m a l. v.none m l))

-- ---- the whole
module _ (bs out : List ℕ) where
  pub find_none : length bs ≡ 0 → FoundOk bs out (Err (fault_at NoWholeRows 0))
  unfolding given_verdict fault_row
  find_none h = record { leads = record { refused = rw h; row_is = omega arith } }

  module _ (some : length bs ≡ 0 → ⊥) where
    pub find-ragged : (length bs % row_width ≡ 0 → ⊥) → FoundOk bs out (Err (fault_at NoWholeRows (length bs / row_width)))
    unfolding given_verdict fault_row
    find-ragged h = record { leads = record { refused = rw (ne_eqb (length bs) 0 some, ne_eqb (length bs % row_width) 0 h); row_is = refl } }

    module _ (whole : length bs % row_width ≡ 0) where
      pub find-long : max_rows < length bs / row_width → FoundOk bs out (Err (fault_at TooManyRows max_rows))
      unfolding given_verdict fault_row
      find-long h =
          let e = lt-ltb max_rows (length bs / row_width) h in
          record { leads = record { refused = rw (ne_eqb (length bs) 0 some, whole, e); row_is = ap (λ b. cond b max_rows (row_of (given_of bs) max_rows)) e } }

      module _ (few : length bs / row_width ≤ max_rows) where
        by_table : given_verdict bs ≡ given_table_verdict (given_of bs) (chain_of (given_of bs))
        unfolding given_verdict
        by_table = rw (ne_eqb (length bs) 0 some, whole, le-ltb max_rows (length bs / row_width) few)

        module _ {r : Passed} (ok : PassedOk bs out r) where
          pub find_stopped : {f : TableFault} → r ≡ Err f → FoundOk bs out (Err f)
          find_stopped m =
              let o = (subst (PassedOk bs out) m ok).leads in
              record { leads = record { refused = by_table ∙ o.refused; row_is = o.row_is } }

          module _ {n : Counted} {at : ℕ} (m : r ≡ Ok n) (called : at ≡ calling_row (given_of bs) n.functions) where
            counts : Chained bs n.functions n.rows n.long out
            counts = (subst (PassedOk bs out) m ok).leads

            called_is : at ≡ calling_row (given_of bs) (function_count (chain_of (given_of bs)))
            called_is = called ∙ ap (calling_row (given_of bs)) counts.count_is

            too_long : max_rows < n.rows → FoundOk bs out (Err (fault_at TooManyRows n.long))
            unfolding fault_row
            too_long l =
                record {
                  leads = record {
                    refused = by_table ∙ end-long (given_of bs) (chain_of (given_of bs)) counts.good counts.closed (omega (arith, counts.rows_are));
                    row_is = ap (λ b. cond b max_rows (row_of (given_of bs) max_rows)) (le-ltb max_rows (length bs / row_width) few) ∙ counts.long_is l;
                  };
                }

            calls_left : n.rows ≤ max_rows → given_verdict bs ≡ calls_verdict (chain_of (given_of bs)) (length (chain_of (given_of bs)))
            calls_left h = by_table ∙ end-calls (given_of bs) (chain_of (given_of bs)) counts.good counts.closed (omega (arith, counts.rows_are))

            no_function : n.rows ≤ max_rows → at < length bs / row_width → FoundOk bs out (Err (fault_at NoSuchFunction at))
            unfolding fault_row
            no_function h l =
                record {
                  leads = record {
                    refused = calls_left h ∙ calls_found (given_of bs) (omega (arith, called_is, given-length bs));
                    row_is = sym called_is;
                  };
                }

            has_chain : n.rows ≤ max_rows → length bs / row_width ≤ at → FoundOk bs out (Ok n.rows)
            has_chain h l =
                record {
                  leads = record {
                    accepted = calls_left h ∙ calls-all (given_of bs) (omega (arith, called_is, given-length bs));
                    rows_are = counts.rows_are;
                    written = counts.written;
                  };
                }

            pub find_last : {f : Found} → f ≡ last_of n.rows n.long at (length bs / row_width) → FoundOk bs out f
            find_last q = subst (FoundOk bs out) (sym q) (by (ltb max_rows n.rows) (ltb at (length bs / row_width)) refl refl)
              where
                by : (a b : Bool) → ltb max_rows n.rows ≡ a → ltb at (length bs / row_width) ≡ b
                    → FoundOk bs out (cond a (Err (fault_at TooManyRows n.long)) (cond b (Err (fault_at NoSuchFunction at)) (Ok n.rows)))
                by true b e f = too_long (ltb-true max_rows n.rows e)
                by false true e f = no_function (ltb-false max_rows n.rows e) (ltb-true at (length bs / row_width) f)
                by false false e f = has_chain (ltb-false max_rows n.rows e) (ltb-false at (length bs / row_width) f)
