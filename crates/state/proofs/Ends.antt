-- Steps that end a run, and steps that go on. Assumes nothing.
use mathlib.Core.Logic.{◌≢◌, ⊎_elim}
use mathlib.Core.Path.{◌≡◌, refl, ap}
use mathlib.Core.List.{[], ◌∷◌}
use Prim.Native.Nat.{ℕ}
use native.Mathlib.Omega.{arith}
use types.Run.{OneOf}
use denote.Enum.Declared.{tag_of}
use Rattle.rules.specs.contracts.step.Step.{the_type}
use Rattle.rules.specs.declared.step.Step.{Step}
use Rattle.rules.specs.declared.step.Step.TheVariants.{Went, Finished, Alarm, TooManyOpen, Beyond, Overflow}
use Rattle.rules.specs.Run.{outcome_of_lem}
use Rattle.state.specs.Machine.{onward}

abbrev pub IsEnd : Step → Type 0
IsEnd o = (k : ℕ) → o ≡ Went k → ⊥

pub alarm-ends : IsEnd Alarm
alarm-ends k e = let z : ◌≡◌ {A = ℕ} 0 1 = cc in omega arith

pub finished-ends : IsEnd Finished
finished-ends k e = let z : ◌≡◌ {A = ℕ} 0 1 = cc in omega arith

pub too-many-ends : (n : ℕ) → IsEnd (TooManyOpen n)
too-many-ends n k e = let z : ◌≡◌ {A = ℕ} 0 1 = cc in omega arith

pub overflow-ends : (n v : ℕ) → IsEnd (Overflow n v)
overflow-ends n v k e = let z : ◌≡◌ {A = ℕ} 0 1 = cc in omega arith

pub went-same : {x y : ℕ} → Went x ≡ Went y → x ≡ y
went-same e = cc

pub onward-end : {A : Type 0} (o : Step) → IsEnd o → (f : ℕ → A) (z : A) → onward o f z ≡ z
onward-end (Went k) n f z = absurd (n k refl)
onward-end Finished n f z = refl
onward-end Alarm n f z = refl
onward-end (TooManyOpen k) n f z = refl
onward-end (Beyond k) n f z = refl
onward-end (Overflow k v) n f z = refl

-- its outcome is not 0
pub end-not-zero : (o : Step) → IsEnd o → outcome_of_lem o ≢ 0
unfolding outcome_of_lem
end-not-zero (Went k) n e = n k refl
end-not-zero Finished n e = omega arith
end-not-zero Alarm n e = omega arith
end-not-zero (TooManyOpen k) n e = omega arith
end-not-zero (Beyond k) n e = omega arith
end-not-zero (Overflow k v) n e = omega arith

-- an arm of a `match` that is none of the first variant's
pub not-went : (s : Step) → OneOf (1 ∷ 2 ∷ 3 ∷ 4 ∷ 5 ∷ []) (tag_of the_type s) → IsEnd s
not-went s k p q =
    let e : tag_of the_type s ≡ 0 = ap (tag_of the_type) q in
    ⊎_elim (λ z. omega arith) (⊎_elim (λ z. omega arith) (⊎_elim (λ z. omega arith) (⊎_elim (λ z. omega arith) (λ z. omega arith)))) k
