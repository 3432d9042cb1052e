-- What the code of each kind of row may do and answers, from what it reads of the row. Assumes nothing.
use mathlib.Core.Logic.{◌⊎◌, inl, inr}
use mathlib.Core.Path.{◌≡◌, sym, ap, ◌∙◌, subst}
use mathlib.Core.Bool.{Bool, true, false, cond}
use mathlib.Core.List.{List}
use Prim.Native.Nat.{ℕ, suc, ◌+◌, ◌*◌, ◌/◌, ◌%◌, ◌≤◌, ◌<◌}
use native.Mathlib.Numerals.{add-one}
use native.Mathlib.Omega.{arith}
use lib.ListN.{length, get_or}
use lib.Dec.{eqb}
use borrow.Author.Tests.{lt-ltb, le-ltb, ne_eqb}
use Rattle.rules.specs.declared.operands.Operands.{Operands}
use Rattle.rules.specs.declared.kind.Kind.{Kind}
use Rattle.rules.specs.declared.kind.Kind.TheVariants.{Do, If, Loop, Call}
use Rattle.rules.specs.declared.step.Step.TheVariants.{Finished, TooManyOpen}
use Rattle.rules.specs.Bytes.{AreBytes}
use Rattle.rules.specs.Row.{table_of, kind_at, operands_at, fields_fit_lem}
use Rattle.rules.specs.Bounds.{VariablesIn}
use Rattle.rules.specs.Variables.{holds_on}
use Rattle.rules.proofs.Accepted.{proper, table-length}
use Rattle.rules.proofs.Function.{callee_known}
use Rattle.rules.proofs.FieldBound.{word_bound, do-fields, test_fields}
use Rattle.rules.proofs.RegionBound.{functions-bound}
use Rattle.layout.proofs.Scopes.{few_rows}
use Rattle.state.specs.declared.machine.Registers.{Registers}
use Rattle.state.specs.declared.machine.Moved.{Moved}
use Rattle.state.specs.Machine.{moved, did_of, Done}
use Rattle.state.specs.Open.{opened, opened_of, closed_of}
use Rattle.source.specs.Goes.{go_of_lem, code_of, Known}
use Rattle.source.proofs.Codes.{is_do, do-op-is, is-test, is-test-op, is_call}
use Rattle.source.specs.Step.{Standing, goes_to_lem, after_test, after_jump, after_return, after_end, after_call, after_do_lem}

-- ---- the row that the run stands at
pub next_is : {h : Registers} {r : Moved} → r ≡ goes_to_lem h (h.at + 1) → r ≡ goes_to_lem h (suc h.at)
next_is {h} q = q ∙ ap (goes_to_lem h) (add-one h.at)

module _ {bs : List ℕ} {h : Registers} (s : Standing bs h) where
  pub low : h.at < 1024
  low = omega (arith, s.here.row, few_rows bs s.accepted)

  in_table : h.at < length (table_of bs)
  in_table = omega (arith, s.here.row, table-length bs)

  -- where it goes, and what it does
  module _ {goes : List ℕ} {i : ℕ} (k : Known bs goes) (e : i ≡ h.at) where
    word-is : get_or goes i 0 ≡ 4096 * code_of (table_of bs) h.at + go_of_lem (table_of bs) h.at
    word-is = ap (λ j. get_or goes j 0) e ∙ k.each h.at in_table

    pub goes_to : get_or goes i 0 % 4096 ≡ go_of_lem (table_of bs) h.at
    goes_to = omega (arith, word-is, k.low h.at in_table)

    pub does : get_or goes i 0 / 4096 ≡ code_of (table_of bs) h.at
    does = omega (arith, word-is, k.low h.at in_table)

  -- what its number tells
  pub do-kind : {op : ℕ} → code_of (table_of bs) h.at ≡ op + 1 → op < 4 → kind_at (table_of bs) h.at ≡ Do
  do-kind c z = is_do bs s.accepted in_table c z

  pub do_op : {op : ℕ} → code_of (table_of bs) h.at ≡ op + 1 → op < 4 → (operands_at (table_of bs) h.at).op ≡ op
  do_op c z = do-op-is bs s.accepted in_table c z

  pub test_op : {op : ℕ} → code_of (table_of bs) h.at ≡ op + 5 → op < 3 → (operands_at (table_of bs) h.at).op ≡ op
  test_op c z = is-test-op bs s.accepted in_table c z

  pub call-kind : code_of (table_of bs) h.at ≡ 10 → kind_at (table_of bs) h.at ≡ Call
  call-kind c = is_call bs s.accepted in_table c

  -- its variables are there, by its kind
  fits : {k : Kind} → kind_at (table_of bs) h.at ≡ k → fields_fit_lem k (operands_at (table_of bs) h.at) ≡ true
  fits e = sym (ap (λ k. fields_fit_lem k (operands_at (table_of bs) h.at)) e) ∙ ((proper bs s.accepted).rows h.at in_table).fits

  pub operands-in : {o : Operands} → VariablesIn (operands_at (table_of bs) h.at) → o ≡ operands_at (table_of bs) h.at → VariablesIn o
  operands-in v q = subst VariablesIn (sym q) v

  pub do-variables : AreBytes bs → kind_at (table_of bs) h.at ≡ Do → VariablesIn (operands_at (table_of bs) h.at)
  unfolding fields_fit_lem
  do-variables b k = do-fields _ (fits k) (word_bound bs b h.at in_table)

  pub test-variables : AreBytes bs → {op : ℕ} → code_of (table_of bs) h.at ≡ op + 5 → op < 3 → VariablesIn (operands_at (table_of bs) h.at)
  unfolding fields_fit_lem
  test-variables b c z = by (is-test bs s.accepted in_table c z)
    where
      by : (kind_at (table_of bs) h.at ≡ If) ⊎ (kind_at (table_of bs) h.at ≡ Loop) → VariablesIn (operands_at (table_of bs) h.at)
      by (inl k) = test_fields _ (fits k) (word_bound bs b h.at in_table)
      by (inr k) = test_fields _ (fits k) (word_bound bs b h.at in_table)

-- ---- a do
-- its fields, with the op that is known
pub fields-are : (bs : List ℕ) (j : ℕ) {o : Operands} {i op : ℕ} → i ≡ j → o ≡ operands_at (table_of bs) i → (operands_at (table_of bs) j).op ≡ op
    → ◌≡◌ {A = Operands} (record { op = op; p = o.p; q = o.q; n = o.n }) (operands_at (table_of bs) j)
fields-are bs j {o} e q c = ap (λ y. record { op = y; p = o.p; q = o.q; n = o.n }) (sym (ap (λ y. y.op) (q ∙ ap (operands_at (table_of bs)) e) ∙ c)) ∙ q ∙ ap (operands_at (table_of bs)) e

pub do-is : (bs vs tr : List ℕ) (h : Registers) {o : Operands} {x : Done} → o ≡ operands_at (table_of bs) h.at → x ≡ did_of o h.at h vs tr → x ≡ after_do_lem (table_of bs) h vs tr
unfolding after_do_lem
do-is bs vs tr h q d = d ∙ ap (λ y. did_of y h.at h vs tr) q

-- ---- a test
module _ (bs vs : List ℕ) (h : Registers) {o : Operands} {b : Bool} (q : o ≡ operands_at (table_of bs) h.at) (w : b ≡ holds_on o vs) where
  tested : holds_on (operands_at (table_of bs) h.at) vs ≡ b
  tested = ap (λ y. holds_on y vs) (sym q) ∙ sym w

  pub test_true : {r : Moved} → b ≡ true → r ≡ goes_to_lem h (suc h.at) → r ≡ after_test (table_of bs) h vs
  unfolding after_test
  test_true c x = x ∙ sym (ap (λ y. goes_to_lem h (cond y (suc h.at) (go_of_lem (table_of bs) h.at))) (tested ∙ c))

  pub test-false : {r : Moved} {k : ℕ} → b ≡ false → k ≡ go_of_lem (table_of bs) h.at → r ≡ goes_to_lem h k → r ≡ after_test (table_of bs) h vs
  unfolding after_test
  test-false c d x = x ∙ ap (goes_to_lem h) d ∙ sym (ap (λ y. goes_to_lem h (cond y (suc h.at) (go_of_lem (table_of bs) h.at))) (tested ∙ c))

-- ---- an else, a break, a continue
pub jump-is : (bs : List ℕ) (h : Registers) {r : Moved} {k : ℕ} → k ≡ go_of_lem (table_of bs) h.at → r ≡ goes_to_lem h k → r ≡ after_jump (table_of bs) h
unfolding after_jump
jump-is bs h d x = x ∙ ap (goes_to_lem h) d

-- ---- a return
module _ (h : Registers) (ks fs : List ℕ) where
  pub return_closes : {r : Moved} → 0 < h.depth → r ≡ closed_of h 0 ks fs → r ≡ after_return h ks fs
  unfolding after_return
  return_closes d e = rw (e, lt-ltb 0 h.depth d)

  pub return-finishes : {r : Moved} → h.depth ≤ 0 → r ≡ moved Finished h → r ≡ after_return h ks fs
  unfolding after_return
  return-finishes d e = rw (e, le-ltb 0 h.depth d)

-- ---- an end
module _ (bs ks fs : List ℕ) (h : Registers) {k : ℕ} (d : k ≡ go_of_lem (table_of bs) h.at) where
  pub end_returns : {r : Moved} → k ≡ 0 → r ≡ after_return h ks fs → r ≡ after_end (table_of bs) h ks fs
  unfolding after_end
  end_returns z q = q ∙ sym (ap (λ y. cond (eqb y 0) (after_return h ks fs) (goes_to_lem h y)) (sym d ∙ z))

  pub end-goes-on : {r : Moved} → (k ≡ 0 → ⊥) → r ≡ goes_to_lem h k → r ≡ after_end (table_of bs) h ks fs
  unfolding after_end
  end-goes-on z q =
      q ∙ sym (ap (λ y. cond y (after_return h ks fs) (goes_to_lem h k)) (ne_eqb k 0 z)) ∙ ap (λ y. cond (eqb y 0) (after_return h ks fs) (goes_to_lem h y)) d

-- ---- a call
module _ (bs : List ℕ) (h : Registers) {i : ℕ} {o : Operands} (e : i ≡ h.at) (q : o ≡ operands_at (table_of bs) i) where
  number_is : o.n ≡ (operands_at (table_of bs) h.at).n
  number_is = ap (λ x. x.n) (q ∙ ap (operands_at (table_of bs)) e)

  pub callee-low : Standing bs h → kind_at (table_of bs) h.at ≡ Call → o.n < 256
  callee-low s k =
      let ok = proper bs s.accepted in
      omega (arith, number_is, callee_known (table_of bs) ok h.at (in_table s) k, functions-bound (table_of bs) ok (length (table_of bs)) (omega arith))

module _ (bs : List ℕ) (h : Registers) (ks fs : List ℕ) where
  pub call_deep : {r : Moved} → 16 ≤ h.depth + 1 → r ≡ moved (TooManyOpen 16) h → opened r ks fs ≡ after_call (table_of bs) h ks fs
  unfolding after_call
  call_deep d e = rw (e, le-ltb (h.depth + 1) 16 d)

  module _ {i : ℕ} {o : Operands} (e : i ≡ h.at) (q : o ≡ operands_at (table_of bs) i) where
    pub call_opens : {k : ℕ} {r : Moved} {ks' fs' : List ℕ} → k ≡ go_of_lem (table_of bs) h.at → h.depth + 1 < 16 → opened r ks' fs' ≡ opened_of h o.n k ks fs
        → opened r ks' fs' ≡ after_call (table_of bs) h ks fs
    unfolding after_call
    call_opens g l x = x ∙ rw (g, number_is bs h e q, lt-ltb (h.depth + 1) 16 l)
