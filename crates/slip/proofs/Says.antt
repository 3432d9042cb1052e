-- What is said of a small jump is what the theorem says, and of any other nothing is said. Assumes a hardened table.
use mathlib.Core.Path.{◌≡◌, refl, sym, ap, ◌∙◌}
use mathlib.Core.Bool.{Bool, true, false, cond}
use mathlib.Core.List.{List}
use Prim.Native.Nat.{ℕ, ◌+◌, ◌≤◌}
use native.Mathlib.Omega.{arith}
use lib.Dec.{eqb, leb}
use borrow.Author.Tests.{eq-eqb, ne_eqb, eqb-true, le-leb, lt-leb}
use Rattle.rules.specs.Row.{Table, table_of}
use Rattle.rules.specs.Line.{Line, do_line, tick_line, test_line, leave_line, out_line, call_line, back_line, ret_line, line_at, is_guard, lines_in}
use Rattle.rules.specs.ReadBack.{source_bytes, is_hardened_lem}
use Rattle.rules.specs.Form.{Form}
use Rattle.rules.specs.Hardened.{Counters, counter_form, place_line}
use Rattle.rules.specs.Slip.{Slip, untouched, left_out, done_twice}
use Rattle.rules.specs.Demands.{strikes, slip_of, ThatDo, Told, beyond_m, wide, small}
use Rattle.rules.specs.RunPromise.{state_at, last_at, is_small}
use Rattle.rules.proofs.Logic.{clash}
use Rattle.rules.proofs.Between.{Between, up, down, between, not_same}
use Rattle.rules.proofs.Demand3.{demand_3}
use Rattle.slip.specs.declared.amount.Amount.TheVariants.{NotSmall, Nothing}
use Rattle.slip.specs.declared.amount.Amount.{Amount}
use Rattle.slip.specs.Amount.{slips_by, over_line, over_do_lem, amount_between, amount_from, amount_of, amount_given, slip_row, amount_by, Says, AmountPromise}

over-guard : (l : Line) (back : Bool) → is_guard l ≡ true → over_line l back ≡ NotSmall
over-guard (do_line o e) back q = clash q refl
over-guard (tick_line r e a) back q = refl
over-guard (test_line o r s t e a b c go) back q = refl
over-guard (leave_line r s e a b go) back q = refl
over-guard (out_line r s t e a go) back q = refl
over-guard (call_line r e a b go) back q = refl
over-guard (back_line r e a b) back q = refl
over-guard (ret_line e a) back q = refl

-- ---- between two lines
module _ (ls : List Line) where
  between_is : (t : Table) (vs : List ℕ) (x y : ℕ) (s : Slip) → ThatDo ls t vs x y s → amount_between ls x y ≡ amount_by s (slip_row t vs s)
  unfolding amount_between over_do_lem
  between_is t vs x y untouched q = rw (eq-eqb y x q)
  between_is t vs x y (left_out j) q =
      rw (ne_eqb y x (omega (arith, q.0)), eq-eqb y (x + 1) (omega (arith, q.0))) (ap (λ l. over_line l false) q.1.line_is ∙ ap (λ z. slips_by z false) (sym q.1.reached))
  between_is t vs x y (done_twice j) q =
      rw (ne_eqb y x (omega (arith, q.0)), ne_eqb y (x + 1) (omega (arith, q.0)), eq-eqb x (y + 1) (omega (arith, q.0)))
      (ap (λ l. over_line l true) q.1.line_is ∙ ap (λ z. slips_by z true) (sym q.1.reached))

  -- a guard between two neighbours is the lower one
  guard-up : (x y : ℕ) → Between ls x y → y ≡ x + 1 → is_guard (line_at ls x) ≡ true
  guard-up x y (up z a b g) e = ap (λ w. is_guard (line_at ls w)) (let q : x ≡ z = omega arith in q) ∙ g
  guard-up x y (down z a b g) e = absurd (let q : ⊥ = omega arith in q)

  guard-down : (x y : ℕ) → Between ls x y → x ≡ y + 1 → is_guard (line_at ls y) ≡ true
  guard-down x y (up z a b g) e = absurd (let q : ⊥ = omega arith in q)
  guard-down x y (down z a b g) e = ap (λ w. is_guard (line_at ls w)) (let q : y ≡ z = omega arith in q) ∙ g

  between-wide : (x y : ℕ) → Between ls x y → amount_between ls x y ≡ NotSmall
  unfolding amount_between over_do_lem
  between-wide x y g = by (eqb y x) (eqb y (x + 1)) (eqb x (y + 1)) refl refl refl
    where
      by : (a b c : Bool) → eqb y x ≡ a → eqb y (x + 1) ≡ b → eqb x (y + 1) ≡ c → cond a Nothing (cond b (over_line (line_at ls x) false) (cond c (over_line (line_at ls y) true) NotSmall)) ≡ NotSmall
      by true b c p q r = absurd (not_same ls x y (sym (eqb-true y x p)) g)
      by false true c p q r = over-guard (line_at ls x) false (guard-up x y g (eqb-true y (x + 1) q))
      by false false true p q r = over-guard (line_at ls y) true (guard-down x y g (eqb-true x (y + 1) r))
      by false false false p q r = refl

module _ (lines vars : List ℕ) (b k p : ℕ) (hd : is_hardened_lem lines ≡ true) where
  abbrev ls : List Line
  ls = lines_in lines

  abbrev F : Form Counters
  F = counter_form ls

  abbrev slip : Slip
  slip = slip_of F ls vars k p

  says-small : strikes F ls vars b k ≡ true → p ≤ last_at F ls vars k → is_small F ls vars k p → amount_of lines vars b k p ≡ amount_by slip (slip_row (table_of (source_bytes lines)) vars slip)
  unfolding amount_of amount_from
  says-small e l g = by ((demand_3 lines vars b k p hd).told e)
    where
      by : Told F ls (table_of (source_bytes lines)) vars b k p → amount_of lines vars b k p ≡ amount_by slip (slip_row (table_of (source_bytes lines)) vars slip)
      by (beyond_m q z) = absurd (let y : ⊥ = omega arith in y)
      by (wide q w z) = clash w g
      by (small q w z) =
          rw (e, le-leb p (last_at F ls vars k) l)
          (between_is ls (table_of (source_bytes lines)) vars (state_at F ls vars k).running.at (place_line ls p (state_at F ls vars k)) slip z.that_do)

  -- of any other
  says_none : (x y : Bool) (o : Amount) → strikes F ls vars b k ≡ x → leb p (last_at F ls vars k) ≡ y → (x ≡ true → y ≡ true → o ≡ NotSmall)
      → o ≡ amount_between ls (state_at F ls vars k).running.at (place_line ls p (state_at F ls vars k)) → amount_of lines vars b k p ≡ NotSmall
  unfolding amount_of amount_from
  says_none true true o e l n q = rw (e, l) (sym q ∙ n refl refl)
  says_none true false o e l n q = rw (e, l)
  says_none false y o e l n q = rw e

  none-by : ((strikes F ls vars b k ≡ true) → (leb p (last_at F ls vars k) ≡ true) → amount_between ls (state_at F ls vars k).running.at (place_line ls p (state_at F ls vars k)) ≡ NotSmall)
      → amount_of lines vars b k p ≡ NotSmall
  none-by n = says_none (strikes F ls vars b k) (leb p (last_at F ls vars k)) _ refl refl n refl

  pub says : {r : Amount} → r ≡ amount_of lines vars b k p → Says lines vars b k p r
  says q =
      record {
        not_struck = λ e. q ∙ none-by (λ x y. clash x e);
        beyond = λ l. q ∙ none-by (λ x y. clash y (lt-leb p (last_at F ls vars k) l));
        wide = λ w. q ∙ none-by (λ x y. between-wide ls _ _ (between ls _ _ w));
        small = λ e l g. q ∙ says-small e l g;
      }

-- ---- the promise
pub promised-of : {lines vars : List ℕ} {b k p : ℕ} {r : Amount} → is_hardened_lem lines ≡ true → r ≡ amount_of lines vars b k p → AmountPromise lines vars b k p r
promised-of {lines} {vars} {b} {k} {p} hd q = record { answers = q ∙ sym (ap (λ y. amount_given y (amount_of lines vars b k p)) hd); says = λ e. says lines vars b k p e q }

pub promised-none : {lines vars : List ℕ} {b k p : ℕ} → is_hardened_lem lines ≡ false → AmountPromise lines vars b k p NotSmall
promised-none {lines} {vars} {b} {k} {p} no_table = record { answers = sym (ap (λ y. amount_given y (amount_of lines vars b k p)) no_table); says = λ e. clash e no_table }
