-- What a row does, as a number, and where it goes: both are small, and the number tells the row's kind and op. Assumes that the table is
-- accepted.
use mathlib.Core.Logic.{◌⊎◌, inl, inr}
use mathlib.Core.Path.{◌≡◌, refl, sym, ap, ◌∙◌}
use mathlib.Core.Bool.{Bool, true, false, cond, ◌&&◌}
use mathlib.Core.List.{List, [], ◌∷◌}
use Prim.Native.Nat.{ℕ, ◌+◌, ◌/◌, ◌<◌}
use native.Mathlib.Omega.{arith}
use lib.ListN.{length}
use lib.Dec.{eqb, ltb}
use borrow.Author.Tests.{eqb-true, ltb-true}
use Rattle.rules.specs.declared.operands.Operands.{Operands}
use Rattle.rules.specs.declared.kind.Kind.{Kind}
use Rattle.rules.specs.declared.kind.Kind.TheVariants.{Function, Do, If, Else, Loop, End, Break, Continue, Call, Unknown}
use Rattle.rules.specs.Verdict.{Accepted}
use Rattle.rules.specs.Row.{Table, table_of, kind_at, operands_at, uses_number_lem, uses_variable_lem, do_uses_lem, test_uses_lem, fields_fit_lem}
use Rattle.rules.specs.Scan.{Open, Part, body, then_part, else_part, loop_body, open_at, part_of, from_loop}
use Rattle.rules.specs.Check.{is_outside, verdict_of}
use Rattle.rules.specs.Links.{is_opening}
use Rattle.rules.proofs.Logic.{clash, and_left}
use Rattle.rules.proofs.Value.{held}
use Rattle.rules.proofs.Accepted.{proper, table-length}
use Rattle.layout.specs.declared.scope.Scope.{Scope}
use Rattle.layout.specs.Scope.{Surveyed}
use Rattle.layout.specs.Spot.{Inside, InLoop}
use Rattle.layout.proofs.Around.{opened-by}
use Rattle.layout.proofs.ByKind.{in-if, in-else, in-loop, in_end, in-break, in-continue, in-call}
use Rattle.layout.proofs.Scopes.{few_rows}
use Rattle.source.specs.Goes.{end_goes_lem, goes_by_lem, go_of_lem, code_by, code_of}
use Rattle.source.proofs.Rows.{past-inside, false-inside, continue-inside, callee-inside, else_inside, break_inside}

-- ---- the ops of a do and of a test
do_op : (o : Operands) → do_uses_lem o ≡ true → o.op < 4
do_op o e = by (eqb o.op 0) refl e
  where
    by : (b : Bool) → eqb o.op 0 ≡ b → cond b (uses_number_lem o) (ltb o.op 4 && uses_variable_lem o) ≡ true → o.op < 4
    by true q h = omega (arith, eqb-true o.op 0 q)
    by false q h = ltb-true o.op 4 (and_left _ _ h)

test_op : (o : Operands) → test_uses_lem o ≡ true → o.op < 3
test_op o e = by (ltb o.op 2) refl e
  where
    by : (b : Bool) → ltb o.op 2 ≡ b → cond b (uses_number_lem o) (eqb o.op 2 && uses_variable_lem o) ≡ true → o.op < 3
    by true q h = omega (arith, ltb-true o.op 2 q)
    by false q h = omega (arith, eqb-true o.op 2 (and_left _ _ h))

-- the op of a do or of a test is small
pub record Op (k : Kind) (op : ℕ) : Type 0 where
  pub do_low : k ≡ Do → op < 4
  pub if_low : k ≡ If → op < 3
  pub loop_low : k ≡ Loop → op < 3

module _ (bs : List ℕ) {i : ℕ} (a : verdict_of bs ≡ Accepted) (l : i < length (table_of bs)) where
  fits : {k : Kind} → kind_at (table_of bs) i ≡ k → fields_fit_lem k (operands_at (table_of bs) i) ≡ true
  fits e = sym (ap (λ k. fields_fit_lem k (operands_at (table_of bs) i)) e) ∙ ((proper bs a).rows i l).fits

  pub op-low : Op (kind_at (table_of bs) i) (operands_at (table_of bs) i).op
  unfolding fields_fit_lem
  op-low = record { do_low = λ e. do_op (operands_at (table_of bs) i) (fits e); if_low = λ e. test_op (operands_at (table_of bs) i) (fits e); loop_low = λ e. test_op (operands_at (table_of bs) i) (fits e) }

-- ---- the number is below 16
by-low : (k : Kind) (x : ℕ) → Op k x → code_by k x < 16
by-low Function x o = omega arith
by-low Do x o = omega (arith, o.do_low refl)
by-low If x o = omega (arith, o.if_low refl)
by-low Else x o = omega arith
by-low Loop x o = omega (arith, o.loop_low refl)
by-low End x o = omega arith
by-low Break x o = omega arith
by-low Continue x o = omega arith
by-low Call x o = omega arith
by-low Unknown x o = omega arith

pub code-low : (bs : List ℕ) (i : ℕ) → verdict_of bs ≡ Accepted → i < length bs / 6 → code_of (table_of bs) i < 16
unfolding code_of
code-low bs i a l = by-low (kind_at (table_of bs) i) (operands_at (table_of bs) i).op (op-low bs a (omega (arith, table-length bs)))

-- ---- where a row goes is below 4096
loop-open : (fs : List Open) → is_outside (from_loop fs) ≡ false → is_outside fs ≡ false
loop-open [] e = clash refl e
loop-open (f ∷ fs) e = refl

module _ {bs : List ℕ} {m : List Scope} {i : ℕ} (s : Surveyed bs m) (l : i < length bs / 6) where
  abbrev t : Table
  t = table_of bs

  in_bounds : {j : ℕ} → Inside bs j → j < 4096
  in_bounds n = omega (arith, n.row, few_rows bs s.accepted)

  of-loop : InLoop bs i → Inside bs i
  of-loop n = record { row = n.row; within = loop-open (open_at t i) n.within }

  end_low : Inside bs i → (p : Part) → end_goes_lem t i p < 4096
  end_low n body = omega arith
  end_low n then_part = omega (arith, l, few_rows bs s.accepted)
  end_low n else_part = omega (arith, l, few_rows bs s.accepted)
  end_low n loop_body = omega (arith, l, few_rows bs s.accepted, (opened-by t i (open_at t i) (held t i) n.within).0)

  by_kind : (k : Kind) → kind_at t i ≡ k → goes_by_lem t i k < 4096
  by_kind Function e = omega arith
  by_kind Do e = omega arith
  by_kind If e = in_bounds (false-inside bs s.accepted (in-if s l refl e) e)
  by_kind Else e = in_bounds (else_inside bs s.accepted (in-else s l refl e) e)
  by_kind Loop e = in_bounds (past-inside bs s.accepted (in-loop s l refl e) (ap is_opening e))
  by_kind End e = end_low (in_end s l refl e) (part_of (open_at t i))
  by_kind Break e = in_bounds (break_inside bs s.accepted (of-loop (in-break s l refl e)) e)
  by_kind Continue e = in_bounds (continue-inside bs s.accepted (of-loop (in-continue s l refl e)) e)
  by_kind Call e = in_bounds (callee-inside bs s.accepted (in-call s l refl e) e)
  by_kind Unknown e = omega arith

  pub go-low : go_of_lem t i < 4096
  unfolding go_of_lem
  go-low = by_kind (kind_at t i) refl

-- ---- what the number tells
module _ (x : ℕ) where
  pub do-kind : (k : Kind) (op : ℕ) → code_by k x ≡ op + 1 → op < 4 → k ≡ Do
  do-kind Function op c z = absurd (let w : ⊥ = omega arith in w)
  do-kind Do op c z = refl
  do-kind If op c z = absurd (let w : ⊥ = omega arith in w)
  do-kind Else op c z = absurd (let w : ⊥ = omega arith in w)
  do-kind Loop op c z = absurd (let w : ⊥ = omega arith in w)
  do-kind End op c z = absurd (let w : ⊥ = omega arith in w)
  do-kind Break op c z = absurd (let w : ⊥ = omega arith in w)
  do-kind Continue op c z = absurd (let w : ⊥ = omega arith in w)
  do-kind Call op c z = absurd (let w : ⊥ = omega arith in w)
  do-kind Unknown op c z = absurd (let w : ⊥ = omega arith in w)

  pub test-op-is : (k : Kind) (op : ℕ) → Op k x → code_by k x ≡ op + 5 → op < 3 → x ≡ op
  test-op-is Function op o c z = absurd (let w : ⊥ = omega arith in w)
  test-op-is Do op o c z = absurd (let w : ⊥ = omega (arith, o.do_low refl) in w)
  test-op-is If op o c z = omega arith
  test-op-is Else op o c z = absurd (let w : ⊥ = omega arith in w)
  test-op-is Loop op o c z = omega arith
  test-op-is End op o c z = absurd (let w : ⊥ = omega arith in w)
  test-op-is Break op o c z = absurd (let w : ⊥ = omega arith in w)
  test-op-is Continue op o c z = absurd (let w : ⊥ = omega arith in w)
  test-op-is Call op o c z = absurd (let w : ⊥ = omega arith in w)
  test-op-is Unknown op o c z = absurd (let w : ⊥ = omega arith in w)

  pub test-kind : (k : Kind) (op : ℕ) → Op k x → code_by k x ≡ op + 5 → op < 3 → (k ≡ If) ⊎ (k ≡ Loop)
  test-kind Function op o c z = absurd (let w : ⊥ = omega arith in w)
  test-kind Do op o c z = absurd (let w : ⊥ = omega (arith, o.do_low refl) in w)
  test-kind If op o c z = inl refl
  test-kind Else op o c z = absurd (let w : ⊥ = omega arith in w)
  test-kind Loop op o c z = inr refl
  test-kind End op o c z = absurd (let w : ⊥ = omega arith in w)
  test-kind Break op o c z = absurd (let w : ⊥ = omega arith in w)
  test-kind Continue op o c z = absurd (let w : ⊥ = omega arith in w)
  test-kind Call op o c z = absurd (let w : ⊥ = omega arith in w)
  test-kind Unknown op o c z = absurd (let w : ⊥ = omega arith in w)

  pub call-kind : (k : Kind) → Op k x → code_by k x ≡ 10 → k ≡ Call
  call-kind Function o c = absurd (let w : ⊥ = omega arith in w)
  call-kind Do o c = absurd (let w : ⊥ = omega (arith, o.do_low refl) in w)
  call-kind If o c = absurd (let w : ⊥ = omega (arith, o.if_low refl) in w)
  call-kind Else o c = absurd (let w : ⊥ = omega arith in w)
  call-kind Loop o c = absurd (let w : ⊥ = omega (arith, o.loop_low refl) in w)
  call-kind End o c = absurd (let w : ⊥ = omega arith in w)
  call-kind Break o c = absurd (let w : ⊥ = omega arith in w)
  call-kind Continue o c = absurd (let w : ⊥ = omega arith in w)
  call-kind Call o c = refl
  call-kind Unknown o c = absurd (let w : ⊥ = omega arith in w)

module _ (bs : List ℕ) {i : ℕ} (a : verdict_of bs ≡ Accepted) (l : i < length (table_of bs)) {op : ℕ} where
  pub is_do : code_of (table_of bs) i ≡ op + 1 → op < 4 → kind_at (table_of bs) i ≡ Do
  unfolding code_of
  is_do c z = do-kind (operands_at (table_of bs) i).op (kind_at (table_of bs) i) op c z

  pub do-op-is : code_of (table_of bs) i ≡ op + 1 → op < 4 → (operands_at (table_of bs) i).op ≡ op
  unfolding code_of
  do-op-is c z = omega (arith, sym (ap (λ k. code_by k (operands_at (table_of bs) i).op) (is_do c z)) ∙ c)

  pub is-test : code_of (table_of bs) i ≡ op + 5 → op < 3 → (kind_at (table_of bs) i ≡ If) ⊎ (kind_at (table_of bs) i ≡ Loop)
  unfolding code_of
  is-test c z = test-kind (operands_at (table_of bs) i).op (kind_at (table_of bs) i) op (op-low bs a l) c z

  pub is-test-op : code_of (table_of bs) i ≡ op + 5 → op < 3 → (operands_at (table_of bs) i).op ≡ op
  unfolding code_of
  is-test-op c z = test-op-is (operands_at (table_of bs) i).op (kind_at (table_of bs) i) op (op-low bs a l) c z

pub is_call : (bs : List ℕ) {i : ℕ} → verdict_of bs ≡ Accepted → i < length (table_of bs) → code_of (table_of bs) i ≡ 10 → kind_at (table_of bs) i ≡ Call
unfolding code_of
is_call bs {i} a l c = call-kind (operands_at (table_of bs) i).op (kind_at (table_of bs) i) (op-low bs a l) c
