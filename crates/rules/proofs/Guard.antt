-- The lines of a row are its do and its guards: which region each guard checks, and for which value. Assumes nothing.
use mathlib.Core.Path.{◌≡◌, refl, sym, ap, ◌∙◌}
use mathlib.Core.Bool.{Bool, true, false, cond}
use mathlib.Core.List.{List, [], ◌∷◌}
use Prim.Native.Nat.{ℕ, zero, suc, ◌+◌, ◌-◌, ◌≤◌, ◌<◌}
use native.Mathlib.Nat.{not-suc-le-zero}
use native.Mathlib.Omega.{arith}
use Rattle.rules.specs.declared.kind.Kind.{Kind}
use Rattle.rules.specs.declared.kind.Kind.TheVariants.{Function, Do, If, Else, Loop, End, Break, Continue, Call, Unknown}
use Rattle.rules.specs.Row.{Table, kind_at, operands_at}
use Rattle.rules.specs.Scan.{Part, body, then_part, else_part, loop_body, Open, pushes, shape_of, body_region, has_else}
use Rattle.rules.specs.Value.{inside, takes, value}
use Rattle.rules.specs.Line.{Line, do_line, tick_line, test_line, leave_line, out_line, call_line, back_line, ret_line, line_at, is_guard}
use Rattle.rules.specs.Harden.{line_count, test_of, end_line, own_region, row_lines}
use Rattle.rules.specs.Match.{is_do_lem}
use Rattle.rules.proofs.Logic.{clash}
use Rattle.rules.proofs.Function.{is_body_lem, Formed}

-- the region that a guard checks (its r), and for which value (its e)
abbrev pub checks_at : Line → ℕ
checks_at (do_line o e) = 0
checks_at (tick_line r e a) = r
checks_at (test_line o r s t e a b c go) = r
checks_at (leave_line r s e a b go) = r
checks_at (out_line r s t e a go) = r
checks_at (call_line r e a b go) = r
checks_at (back_line r e a b) = r
checks_at (ret_line e a) = 0

abbrev pub checks_for : Line → ℕ
checks_for (do_line o e) = 0
checks_for (tick_line r e a) = e
checks_for (test_line o r s t e a b c go) = e
checks_for (leave_line r s e a b go) = e
checks_for (out_line r s t e a go) = e
checks_for (call_line r e a b go) = e
checks_for (back_line r e a b) = e
checks_for (ret_line e a) = e

-- ---- the guard of a row that wants d past the row's value: which of the row's lines it is
abbrev pub phase_of : Kind → (d : ℕ) → ℕ
phase_of k d = cond (is_do_lem k) 1 d

pub at-phase : (t : Table) (j d : ℕ) {k : Kind} → kind_at t j ≡ k → is_do_lem k ≡ false → d ≡ phase_of (kind_at t j) d
at-phase t j d {k} e b = sym (ap (λ x. cond x 1 d) (ap is_do_lem e ∙ b))

-- line ph of row j is a guard of the row's own region
pub record Guards (t : Table) (j : ℕ) (f : Open) (fs : List Open) (ph d : ℕ) (ℓ : Line) : Type 0 where
  pub guards : is_guard ℓ ≡ true
  pub at_own : checks_at ℓ ≡ f.region - body_region (f ∷ fs)
  pub for_value : checks_for ℓ ≡ value t f.region j + d
  pub within : d ≤ takes (kind_at t j) f.part - 1
  pub at_opener : (p : Part) → shape_of (kind_at t j) ≡ pushes p → d ≡ inside → ⊥
  pub phase : ph ≡ phase_of (kind_at t j) d

pub data Sort (t : Table) (j : ℕ) (f : Open) (fs : List Open) (ph : ℕ) (ℓ : Line) : Type 0 where
  a_do : kind_at t j ≡ Do → ph ≡ 0 → ℓ ≡ do_line (operands_at t j) j → Sort t j f fs ph ℓ
  a_guard : (d : ℕ) → Guards t j f fs ph d ℓ → Sort t j f fs ph ℓ

below-inside : (d : ℕ) → d < inside → {A : Type 0} → A → d ≡ inside → ⊥
below-inside d l x e = omega arith

plain-guard : (t : Table) (j : ℕ) (f : Open) (fs : List Open) (ℓ : Line) {k : Kind} → kind_at t j ≡ k → is_do_lem k ≡ false → is_guard ℓ ≡ true → checks_at ℓ ≡ f.region - body_region (f ∷ fs)
    → checks_for ℓ ≡ value t f.region j → Sort t j f fs 0 ℓ
plain-guard t j f fs ℓ e b g r v =
    a_guard 0 (record { guards = g; at_own = r; for_value = omega arith; within = omega arith; at_opener = λ p. below-inside 0 (omega arith); phase = at-phase t j 0 e b })

test-guard : (t : Table) (j : ℕ) (f : Open) (fs : List Open) {k : Kind} → kind_at t j ≡ k → is_do_lem k ≡ false → (b : Bool) → Sort t j f fs 0 (test_of t j (f ∷ fs) b)
unfolding test_of
test-guard t j f fs e x true = plain-guard t j f fs _ e x refl refl refl
test-guard t j f fs e x false = plain-guard t j f fs _ e x refl refl refl

end-guard : (t : Table) (j : ℕ) (f : Open) (fs : List Open) → Formed t (f ∷ fs) → kind_at t j ≡ End → (p : Part) → f.part ≡ p → Sort t j f fs 0 (end_line t j (f ∷ fs) p)
end-guard t j f [] g e body q = plain-guard t j f [] _ e refl refl (omega arith) refl
end-guard t j f (h ∷ hs) g e body q = clash (ap is_body_lem q) g.0
end-guard t j f fs g e then_part q = plain-guard t j f fs _ e refl refl refl refl
end-guard t j f fs g e else_part q = plain-guard t j f fs _ e refl refl refl refl
end-guard t j f fs g e loop_body q = plain-guard t j f fs _ e refl refl refl refl

pub tick-guards : (t : Table) (j : ℕ) (f : Open) (fs : List Open) → kind_at t j ≡ Do → Guards t j f fs 1 0 (tick_line (own_region (f ∷ fs)) (value t f.region j) (value t f.region j + 1))
tick-guards t j f fs e = record { guards = refl; at_own = refl; for_value = omega arith; within = omega arith; at_opener = λ p. below-inside 0 (omega arith); phase = sym (ap (λ x. cond {A = ℕ} (is_do_lem x) 1 0) e) }

-- every line of a row
pub sort : (t : Table) (j : ℕ) (f : Open) (fs : List Open) → Formed t (f ∷ fs) → (k : Kind) → kind_at t j ≡ k → (ph : ℕ) → ph < line_count k → Sort t j f fs ph (line_at (row_lines t j (f ∷ fs) k) ph)
unfolding row_lines
sort t j f fs g Function e ph h = absurd (not-suc-le-zero h)
sort t j f fs g Do e zero h = a_do e refl refl
sort t j f fs g Do e (suc zero) h = a_guard 0 (tick-guards t j f fs e)
sort t j f fs g Do e (suc (suc ph)) h = absurd (omega arith)
sort t j f fs g If e zero h = test-guard t j f fs e refl (has_else t j)
sort t j f fs g If e (suc ph) h = absurd (omega arith)
sort t j f fs g Else e zero h = plain-guard t j f fs _ e refl refl refl refl
sort t j f fs g Else e (suc ph) h = absurd (omega arith)
sort t j f fs g Loop e zero h = test-guard t j f fs e refl false
sort t j f fs g Loop e (suc ph) h = absurd (omega arith)
sort t j f fs g End e zero h = end-guard t j f fs g e f.part refl
sort t j f fs g End e (suc ph) h = absurd (omega arith)
sort t j f fs g Break e zero h = plain-guard t j f fs _ e refl refl refl refl
sort t j f fs g Break e (suc ph) h = absurd (omega arith)
sort t j f fs g Continue e zero h = plain-guard t j f fs _ e refl refl refl refl
sort t j f fs g Continue e (suc ph) h = absurd (omega arith)
sort t j f fs g Call e zero h = plain-guard t j f fs _ e refl refl refl refl
sort t j f fs g Call e (suc zero) h =
    a_guard 1 (record { guards = refl; at_own = refl; for_value = refl; within = rw e (omega arith); at_opener = λ p x. cc (ap shape_of e); phase = at-phase t j 1 e refl })
sort t j f fs g Call e (suc (suc ph)) h = absurd (omega arith)
sort t j f fs g Unknown e ph h = absurd (not-suc-le-zero h)
