-- The loops over the functions and over the calls of a table: their invariants and answers, as laws. Assumes nothing.
use mathlib.Core.Path.{◌≡◌, refl, sym, ap, ◌∙◌}
use mathlib.Core.Bool.{Bool, true, false, ◌&&◌}
use mathlib.Core.List.{List}
use Prim.Native.Nat.{ℕ, suc, ◌+◌, ◌*◌, ◌-◌, ◌≤◌, ◌<◌}
use native.Mathlib.Numerals.{add-one}
use native.Mathlib.Decide.{le_ind}
use native.Mathlib.Omega.{arith}
use lib.Dec.{leb}
use lib.ListN.{length, take, drop, length-drop}
use Rattle.rules.specs.declared.refusal.Refusal.{Refusal}
use Rattle.rules.specs.declared.refusal.Refusal.TheVariants.{NoSuchFunction}
use Rattle.rules.specs.Verdict.{Accepted, Refused}
use Rattle.rules.specs.Row.{Row, Table, row_in, row_at, table_of}
use Rattle.rules.specs.Scan.{open_at, functions, function_count}
use Rattle.rules.specs.Refusal.{refuse_if_lem}
use Rattle.rules.specs.Check.{is_call, no_such_function, rows_verdict, calls_verdict}
use Rattle.rules.proofs.Accepted.{table-length}
use Rattle.rows.specs.First.{calls_beyond_lem}
use Rattle.table.specs.Outside.{Outside}
use Rattle.table.specs.Checking.{one_rows, OneOk, AllOk}
use Rattle.rows.proofs.Rows.{rest_all, drops, cut-end, cut-row, cut-within}
use Rattle.table.proofs.Functions.{outside-at}
use Rattle.std.specs.Prelude.{Result, Ok, Err}

-- ---- the functions: up to row `at`, with n of them
pub record AllTo (bs ends elses heads : List ℕ) (at n : ℕ) : Type 0 where
  pub le : 6 * at ≤ length bs
  pub small : length bs ≤ 6144
  pub counted : n ≤ at
  pub ends_long : length ends ≡ 1024
  pub elses_long : length elses ≡ 1024
  pub heads_long : length heads ≡ 32
  pub stands : Outside bs (drop (6 * at) bs) at n ends elses heads

nothing-below : {A : Type 0} {j : ℕ} → j < 0 → A
nothing-below h = absurd (let z : ⊥ = omega arith in z)

pub all_start : {bs e l a : List ℕ} → length bs ≤ 6144 → length e ≡ 1024 → length l ≡ 1024 → length a ≡ 32 → AllTo bs e l a 0 0
unfolding rows_verdict open_at functions
all_start {bs} s p q r = record {
  le = omega arith;
  small = s;
  counted = omega arith;
  ends_long = p;
  elses_long = q;
  heads_long = r;
  stands = record {
    cut = refl;
    within = omega arith;
    few = omega (arith, table-length bs);
    good = refl;
    parts = refl;
    count = refl;
    links = record {
      ends_long = p;
      elses_long = q;
      ended = λ x j h. nothing-below h;
      turned = λ x j h. nothing-below h;
      bare = λ x h. nothing-below h;
    };
    headed = record { heads_long = r; each = λ m h. nothing-below h };
  };
}

one_at : (xs : List ℕ) {base n : ℕ} {e l a e' l' a' : List ℕ} {r r' : Result ℕ Refusal} (k : ℕ)
    → OneOk (take (length xs - k) (drop k xs)) base n e l a e' l' a' r → r ≡ r' → OneOk (drop k xs) base n e l a e' l' a' r'
one_at xs k h q = rw (rest_all k xs, q) at h

module _ {bs e l a : List ℕ} {at n : ℕ} (v : AllTo bs e l a at n) where
  pub all_done : length bs ≤ 6 * at + 5 → AllOk bs e l a (Ok n)
  all_done h =
      let q : at ≡ length (table_of bs) = cut-end bs (drop (6 * at) bs) at refl v.le (omega (arith, length-drop (6 * at) bs)) in
      let w : Outside bs (drop (6 * at) bs) (length (table_of bs)) n e l a = outside-at v.stands refl q refl in
      record { leads = record { good = w.good; closed = w.parts; count = sym w.count; links = w.links; headed = w.headed } }

  module _ {e' l' a' : List ℕ} {r : Result ℕ Refusal} (ok : OneOk (take (length bs - 6 * at) (drop (6 * at) bs)) at n e l a e' l' a' r) where
    pub all_rejected : {c : Refusal} → r ≡ Err c → AllOk bs e' l' a' (Err c)
    all_rejected m = record { leads = (one_at bs (6 * at) ok m).leads bs v.stands }

    pub all_on : {k : ℕ} → r ≡ Ok k → AllTo bs e' l' a' (at + k) (n + 1)
    unfolding one_rows
    all_on {k} m =
        let s = one_at bs (6 * at) ok m in
        let w = outside-at (s.leads bs v.stands) (drops bs (6 * at) (6 * k) (6 * (at + k)) (omega arith)) refl refl in
        record {
          le = omega (arith, v.le, s.fit, length-drop (6 * at) bs);
          small = v.small;
          counted = omega (arith, v.counted, s.some);
          ends_long = w.links.ends_long;
          elses_long = w.links.elses_long;
          heads_long = w.headed.heads_long;
          stands = w;
        }

pub ruleset alls = (all_start, all_done, all_rejected, all_on)

-- ---- the calls: none before row `at` is of a function that isn't there
pub record CallsTo (bs : List ℕ) (at : ℕ) : Type 0 where
  pub le : 6 * at ≤ length bs
  pub good : calls_verdict (table_of bs) at ≡ Accepted

pub calls-start : {bs : List ℕ} → CallsTo bs 0
unfolding calls_verdict
calls-start = record { le = omega arith; good = refl }

pub calls-one : (t : Table) (i : ℕ) (b : Bool) → calls_verdict t i ≡ Accepted → no_such_function t i ≡ b → calls_verdict t (suc i) ≡ refuse_if_lem b NoSuchFunction
unfolding calls_verdict
calls-one t i b g q = rw (g, q)

pub calls-stay : (t : Table) (i : ℕ) {c : Refusal} → calls_verdict t i ≡ Refused c → (j : ℕ) → i ≤ j → calls_verdict t j ≡ Refused c
unfolding calls_verdict
calls-stay t i {c} e j h = le_ind (λ m. calls_verdict t m ≡ Refused c) e (λ m l p. rw p) j h

pub beyond-is : (bs : List ℕ) (at n : ℕ) → 6 * at + 5 < length bs → n ≡ function_count (table_of bs)
    → no_such_function (table_of bs) at ≡ calls_beyond_lem n (row_in (take (length bs - 6 * at) (drop (6 * at) bs)) 0)
unfolding calls_beyond_lem
beyond-is bs at n h q =
    let e : row_at (table_of bs) at ≡ row_in (drop (6 * at) bs) 0 = cut-row bs (drop (6 * at) bs) at refl (omega arith) (omega (arith, length-drop (6 * at) bs)) in
    rw (rest_all (6 * at) bs) (ap (λ (r : Row). is_call r.kind && leb (function_count (table_of bs)) r.operands.n) e
    ∙ ap (λ m. is_call (row_in (drop (6 * at) bs) 0).kind && leb m (row_in (drop (6 * at) bs) 0).operands.n) (sym q))

module _ {bs : List ℕ} {at : ℕ} (v : CallsTo bs at) where
  pub calls-done : length bs ≤ 6 * at + 5 → Accepted ≡ calls_verdict (table_of bs) (length (table_of bs))
  calls-done h =
      let q : at ≡ length (table_of bs) = cut-end bs (drop (6 * at) bs) at refl v.le (omega (arith, length-drop (6 * at) bs)) in
      sym v.good ∙ ap (calls_verdict (table_of bs)) q

  module _ {n : ℕ} {f : Bool} (h : 6 * at + 5 < length bs) (q : n ≡ function_count (table_of bs))
      (ok : f ≡ calls_beyond_lem n (row_in (take (length bs - 6 * at) (drop (6 * at) bs)) 0)) where
    pub calls-beyond : f ≡ true → Refused NoSuchFunction ≡ calls_verdict (table_of bs) (length (table_of bs))
    calls-beyond m =
        let o = calls-one (table_of bs) at true v.good (beyond-is bs at n h q ∙ sym ok ∙ m) in
        sym (calls-stay (table_of bs) (suc at) o (length (table_of bs)) (cut-within bs (drop (6 * at) bs) at refl (omega arith) (omega (arith, length-drop (6 * at) bs))))

    pub calls-on : f ≡ false → CallsTo bs (at + 1)
    calls-on m = record {
      le = omega arith;
      good = ap (calls_verdict (table_of bs)) (add-one at) ∙ calls-one (table_of bs) at false v.good (beyond-is bs at n h q ∙ sym ok ∙ m);
    }
