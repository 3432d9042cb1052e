-- What a step comes to, by the number of what its row does. Assumes that the table is accepted.
use mathlib.Core.Path.{◌≡◌, refl, sym, ap, ◌∙◌}
use mathlib.Core.List.{List}
use Prim.Native.Nat.{ℕ, suc, ◌+◌, ◌<◌}
use native.Mathlib.Omega.{arith}
use Rattle.rules.specs.declared.kind.Kind.{Kind}
use Rattle.rules.specs.declared.kind.Kind.TheVariants.{Function, Do, If, Else, Loop, End, Break, Continue, Call, Unknown}
use Rattle.rules.specs.Row.{Table, table_of, kind_at, operands_at}
use Rattle.rules.proofs.Accepted.{table-length}
use Rattle.state.specs.declared.machine.Moved.{Moved}
use Rattle.state.specs.Machine.{done}
use Rattle.state.specs.Open.{opened}
use Rattle.source.specs.Goes.{code_by, code_of}
use Rattle.source.specs.Step.{Standing, goes_to_lem, after_test, after_jump, after_end, after_call, after_do_lem, Parts, After, after, moving, row_of, step_of}
use Rattle.source.proofs.Codes.{Op, op-low}
use Rattle.source.proofs.Answers.{do-kind, call-kind}

module _ (t : Table) (p : Parts) {x : ℕ} where
  next_row : (k : Kind) → Op k x → code_by k x ≡ 0 → row_of t k p ≡ moving p (goes_to_lem p.registers (suc p.registers.at))
  unfolding row_of
  next_row Function o c = refl
  next_row Do o c = absurd (let w : ⊥ = omega (arith, o.do_low refl) in w)
  next_row If o c = absurd (let w : ⊥ = omega (arith, o.if_low refl) in w)
  next_row Else o c = absurd (let w : ⊥ = omega arith in w)
  next_row Loop o c = absurd (let w : ⊥ = omega (arith, o.loop_low refl) in w)
  next_row End o c = absurd (let w : ⊥ = omega arith in w)
  next_row Break o c = absurd (let w : ⊥ = omega arith in w)
  next_row Continue o c = absurd (let w : ⊥ = omega arith in w)
  next_row Call o c = absurd (let w : ⊥ = omega arith in w)
  next_row Unknown o c = refl

  test-row : (k : Kind) → Op k x → {op : ℕ} → code_by k x ≡ op + 5 → op < 3 → row_of t k p ≡ moving p (after_test t p.registers p.vars)
  unfolding row_of
  test-row Function o c z = absurd (let w : ⊥ = omega arith in w)
  test-row Do o c z = absurd (let w : ⊥ = omega (arith, o.do_low refl) in w)
  test-row If o c z = refl
  test-row Else o c z = absurd (let w : ⊥ = omega arith in w)
  test-row Loop o c z = refl
  test-row End o c z = absurd (let w : ⊥ = omega arith in w)
  test-row Break o c z = absurd (let w : ⊥ = omega arith in w)
  test-row Continue o c z = absurd (let w : ⊥ = omega arith in w)
  test-row Call o c z = absurd (let w : ⊥ = omega arith in w)
  test-row Unknown o c z = absurd (let w : ⊥ = omega arith in w)

  jump-row : (k : Kind) → Op k x → code_by k x ≡ 8 → row_of t k p ≡ moving p (after_jump t p.registers)
  unfolding row_of
  jump-row Function o c = absurd (let w : ⊥ = omega arith in w)
  jump-row Do o c = absurd (let w : ⊥ = omega (arith, o.do_low refl) in w)
  jump-row If o c = absurd (let w : ⊥ = omega (arith, o.if_low refl) in w)
  jump-row Else o c = refl
  jump-row Loop o c = absurd (let w : ⊥ = omega (arith, o.loop_low refl) in w)
  jump-row End o c = absurd (let w : ⊥ = omega arith in w)
  jump-row Break o c = refl
  jump-row Continue o c = refl
  jump-row Call o c = absurd (let w : ⊥ = omega arith in w)
  jump-row Unknown o c = absurd (let w : ⊥ = omega arith in w)

  end_row : (k : Kind) → Op k x → code_by k x ≡ 9 → row_of t k p ≡ moving p (after_end t p.registers p.resumes p.functions)
  unfolding row_of
  end_row Function o c = absurd (let w : ⊥ = omega arith in w)
  end_row Do o c = absurd (let w : ⊥ = omega (arith, o.do_low refl) in w)
  end_row If o c = absurd (let w : ⊥ = omega (arith, o.if_low refl) in w)
  end_row Else o c = absurd (let w : ⊥ = omega arith in w)
  end_row Loop o c = absurd (let w : ⊥ = omega (arith, o.loop_low refl) in w)
  end_row End o c = refl
  end_row Break o c = absurd (let w : ⊥ = omega arith in w)
  end_row Continue o c = absurd (let w : ⊥ = omega arith in w)
  end_row Call o c = absurd (let w : ⊥ = omega arith in w)
  end_row Unknown o c = absurd (let w : ⊥ = omega arith in w)

-- there is no other number
do-known : (x : ℕ) → x < 4 → (x + 1 ≡ 1 → ⊥) → (x + 1 ≡ 2 → ⊥) → (x + 1 ≡ 3 → ⊥) → (x + 1 ≡ 4 → ⊥) → ⊥
do-known x l a b c d = omega arith

test_known : (x : ℕ) → x < 3 → (x + 5 ≡ 5 → ⊥) → (x + 5 ≡ 6 → ⊥) → (x + 5 ≡ 7 → ⊥) → ⊥
test_known x l a b c = omega arith

module _ {x : ℕ} where
  code-known : (k : Kind) → Op k x → (code_by k x ≡ 0 → ⊥) → (code_by k x ≡ 1 → ⊥) → (code_by k x ≡ 2 → ⊥) → (code_by k x ≡ 3 → ⊥) → (code_by k x ≡ 4 → ⊥)
      → (code_by k x ≡ 5 → ⊥) → (code_by k x ≡ 6 → ⊥) → (code_by k x ≡ 7 → ⊥) → (code_by k x ≡ 8 → ⊥) → (code_by k x ≡ 9 → ⊥) → (code_by k x ≡ 10 → ⊥) → ⊥
  code-known Function o a b c d e f g h i j k = a refl
  code-known Do o a b c d e f g h i j k = do-known x (o.do_low refl) b c d e
  code-known If o a b c d e f g h i j k = test_known x (o.if_low refl) f g h
  code-known Else o a b c d e f g h i j k = i refl
  code-known Loop o a b c d e f g h i j k = test_known x (o.loop_low refl) f g h
  code-known End o a b c d e f g h i j k = j refl
  code-known Break o a b c d e f g h i j k = i refl
  code-known Continue o a b c d e f g h i j k = i refl
  code-known Call o a b c d e f g h i j k = k refl
  code-known Unknown o a b c d e f g h i j k = a refl

module _ (bs : List ℕ) (p : Parts) {r : ℕ} (s : Standing bs p.registers) (q : r ≡ code_of (table_of bs) p.registers.at) where
  abbrev t : Table
  t = table_of bs

  abbrev at : ℕ
  at = p.registers.at

  ops : Op (kind_at t at) (operands_at t at).op
  ops = op-low bs s.accepted (omega (arith, s.here.row, table-length bs))

  code : {n : ℕ} → r ≡ n → code_by (kind_at t at) (operands_at t at).op ≡ n
  unfolding code_of
  code c = sym q ∙ c

  is_row : {y : After} → row_of t (kind_at t at) p ≡ y → y ≡ step_of t p
  unfolding step_of
  is_row e = sym e

  pub next-arm : {x : Moved} → r ≡ 0 → x ≡ goes_to_lem p.registers (suc at) → moving p x ≡ step_of t p
  next-arm c z = ap (moving p) z ∙ is_row (next_row t p (kind_at t at) ops (code c))

  pub do-arm : {x : Moved} {vs tr : List ℕ} (op : ℕ) → r ≡ op + 1 → op < 4 → done x vs tr ≡ after_do_lem t p.registers p.vars p.slots
      → after x p.resumes p.functions vs tr ≡ step_of t p
  unfolding row_of
  do-arm op c l z =
      ap (λ y. after y.to p.resumes p.functions y.vars y.slots) z
      ∙ is_row (ap (λ k. row_of t k p) (do-kind s (sym q ∙ c) l))

  pub test-arm : {x : Moved} (op : ℕ) → r ≡ op + 5 → op < 3 → x ≡ after_test t p.registers p.vars → moving p x ≡ step_of t p
  test-arm op c l z = ap (moving p) z ∙ is_row (test-row t p (kind_at t at) ops (code c) l)

  pub jump-arm : {x : Moved} → r ≡ 8 → x ≡ after_jump t p.registers → moving p x ≡ step_of t p
  jump-arm c z = ap (moving p) z ∙ is_row (jump-row t p (kind_at t at) ops (code c))

  pub end-arm : {x : Moved} → r ≡ 9 → x ≡ after_end t p.registers p.resumes p.functions → moving p x ≡ step_of t p
  end-arm c z = ap (moving p) z ∙ is_row (end_row t p (kind_at t at) ops (code c))

  pub call-arm : {x : Moved} {ks fs : List ℕ} → r ≡ 10 → opened x ks fs ≡ after_call t p.registers p.resumes p.functions
      → after x ks fs p.vars p.slots ≡ step_of t p
  unfolding row_of
  call-arm c z =
      ap (λ y. after y.to y.resumes y.functions p.vars p.slots) z
      ∙ is_row (ap (λ k. row_of t k p) (call-kind s (sym q ∙ c)))

  -- a number is one of those
  pub no_arm : {x : Moved} → (r ≡ 0 → ⊥) → (r ≡ 1 → ⊥) → (r ≡ 2 → ⊥) → (r ≡ 3 → ⊥) → (r ≡ 4 → ⊥) → (r ≡ 5 → ⊥) → (r ≡ 6 → ⊥) → (r ≡ 7 → ⊥) → (r ≡ 8 → ⊥) → (r ≡ 9 → ⊥)
      → (r ≡ 10 → ⊥) → moving p x ≡ step_of t p
  unfolding code_of
  no_arm a b c d e f g h i j k =
      absurd (code-known (kind_at t at) ops (λ y. a (q ∙ y)) (λ y. b (q ∙ y)) (λ y. c (q ∙ y)) (λ y. d (q ∙ y)) (λ y. e (q ∙ y)) (λ y. f (q ∙ y)) (λ y. g (q ∙ y)) (λ y. h (q ∙ y)) (λ y. i (q ∙ y)) (λ y. j (q ∙ y)) (λ y. k (q ∙ y)))
