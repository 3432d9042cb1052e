-- A run made one step at a time is the run. Assumes a hardened table, where it says so.
use mathlib.Core.Path.{◌≡◌, refl, sym, ap, ◌∙◌, subst}
use mathlib.Core.Bool.{Bool, true, false, cond}
use mathlib.Core.List.{List}
use Prim.Native.Nat.{ℕ, zero, suc, ◌+◌, ◌-◌, ◌<◌}
use native.Mathlib.Nat.{zero-add, suc-add}
use native.Mathlib.Omega.{arith}
use lib.Dec.{leb}
use borrow.Author.Tests.{leb-true, leb-false, lt-leb}
use Rattle.rules.specs.Strike.{None, Jump}
use Rattle.rules.specs.declared.step.Step.{Step}
use Rattle.rules.specs.declared.step.Step.TheVariants.{Went, Finished, Alarm, TooManyOpen, Beyond, Overflow}
use Rattle.rules.specs.Line.{lines_in}
use Rattle.machine.specs.Step.{Map, Parts, After, step_of}
use Rattle.machine.specs.Run.{parts_at, stops_after, run_of}
use Rattle.state.specs.Machine.{onward}
use Rattle.machine.specs.Stands.{Ready, Going}
use Rattle.strike.specs.Struck.{first_line, places_in, land_of, lands_after, jump_of, struck_of}
use Rattle.strike.proofs.Jumps.{going-run, going-there, lands-inside, jump-none, jump-there}

-- a run of b + c steps is one of b and, where that went on, one of c from there
abbrev Splits : (bs : List ℕ) → Map → (b c : ℕ) → Parts → Type 0
Splits bs m b c p = run_of bs m (b + c) p ≡ onward (run_of bs m b p).step (λ k. run_of bs m c (run_of bs m b p).parts) (run_of bs m b p)

-- the same of a run whose first step answered o, and went on, if it did, from these parts
abbrev first : (bs : List ℕ) → Map → (b : ℕ) → Step → (ℕ → Parts) → After → After
first bs m b o f z = onward o (λ k. run_of bs m b (f k)) z

splits-by : (bs : List ℕ) (m : Map) (b c : ℕ) (f : ℕ → Parts) (z : After) (o : Step) → z.step ≡ o → ((k : ℕ) → Splits bs m b c (f k))
    → first bs m (b + c) o f z ≡ onward (first bs m b o f z).step (λ k. run_of bs m c (first bs m b o f z).parts) (first bs m b o f z)
splits-by bs m b c f z (Went k) q ih = ih k
splits-by bs m b c f z Finished q ih = sym (ap (λ o. onward o (λ k. run_of bs m c z.parts) z) q)
splits-by bs m b c f z Alarm q ih = sym (ap (λ o. onward o (λ k. run_of bs m c z.parts) z) q)
splits-by bs m b c f z (TooManyOpen n) q ih = sym (ap (λ o. onward o (λ k. run_of bs m c z.parts) z) q)
splits-by bs m b c f z (Beyond n) q ih = sym (ap (λ o. onward o (λ k. run_of bs m c z.parts) z) q)
splits-by bs m b c f z (Overflow n v) q ih = sym (ap (λ o. onward o (λ k. run_of bs m c z.parts) z) q)

run-sum : (bs : List ℕ) (m : Map) (b c : ℕ) (p : Parts) → Splits bs m b c p
unfolding run_of
run-sum bs m zero c p = ap (λ n. run_of bs m n p) (zero-add c)
run-sum bs m (suc b) c p =
    ap (λ n. run_of bs m n p) (suc-add b c)
    ∙ splits-by bs m b c (λ k. parts_at (step_of bs m p).parts k (p.registers.steps + 1)) (stops_after (p.registers.steps + 1) (step_of bs m p)) (step_of bs m p).step refl
    (λ k. run-sum bs m b c (parts_at (step_of bs m p).parts k (p.registers.steps + 1)))

-- ---- a step out of a run with `left` to come
module _ (bs : List ℕ) (m : Map) (left : ℕ) (p : Parts) (h : 0 < left) where
  one-first : run_of bs m left p ≡ onward (run_of bs m 1 p).step (λ k. run_of bs m (left - 1) (run_of bs m 1 p).parts) (run_of bs m 1 p)
  one-first = ap (λ n. run_of bs m n p) (let z : left ≡ 1 + (left - 1) = omega arith in z) ∙ run-sum bs m 1 (left - 1) p

  pub going-rest : Ready bs m → Going (lines_in bs) left p → (k : ℕ) → (run_of bs m 1 p).step ≡ Went k → Going (lines_in bs) (left - 1) (run_of bs m 1 p).parts
  going-rest rd g k z = going-run bs m rd 1 (left - 1) p (subst (λ n. Going (lines_in bs) n p) (let y : left ≡ 1 + (left - 1) = omega arith in y) g) k z

-- ---- a jump, and no step after it
module _ (bs : List ℕ) (m : Map) (left place : ℕ) (p : Parts) where
  abbrev there : Parts
  there = parts_at p (first_line m p.registers + place) p.registers.steps

  abbrev landed : Bool → (left : ℕ) → After
  landed b n = cond b (run_of bs m n there) (record { step = Beyond (places_in m p.registers); parts = p })

  lands-first : land_of bs m left place p ≡ onward (land_of bs m 0 place p).step (λ k. run_of bs m left (land_of bs m 0 place p).parts) (land_of bs m 0 place p)
  unfolding land_of run_of
  lands-first = by (leb place (places_in m p.registers))
    where
      by : (b : Bool) → landed b left ≡ onward (landed b 0).step (λ k. run_of bs m left (landed b 0).parts) (landed b 0)
      by true = refl
      by false = refl

  pub going-landed : Ready bs m → Going (lines_in bs) left p → (k : ℕ) → (land_of bs m 0 place p).step ≡ Went k → Going (lines_in bs) left (land_of bs m 0 place p).parts
  unfolding land_of run_of
  going-landed rd g k z = by (leb place (places_in m p.registers)) refl z
    where
      by : (b : Bool) → leb place (places_in m p.registers) ≡ b → (landed b 0).step ≡ Went k → Going (lines_in bs) left (landed b 0).parts
      by true q y = going-there bs m rd left p g place (leb-true place (places_in m p.registers) q)
      by false q y = absurd (let w : ◌≡◌ {A = ℕ} 0 1 = cc in omega arith)

-- the budget holds the jump's step
jump-held : (bs : List ℕ) (m : Map) (b k place : ℕ) (p : Parts) → k < b → lands_after bs m (b - k) place (run_of bs m k p) ≡ jump_of bs m b k place p
unfolding jump_of
jump-held bs m b k place p h = rw (lt-leb b k h)

-- ---- a run that something may strike, with `left` to come, by what comes next
module _ (bs : List ℕ) (m : Map) (left : ℕ) (p : Parts) (h : 0 < left) where
  abbrev one : After
  one = run_of bs m 1 p

  pub struck-none : struck_of bs m left None p ≡ onward one.step (λ k. struck_of bs m (left - 1) None one.parts) one
  unfolding struck_of
  struck-none = one-first bs m left p h

  -- the jump is due
  pub struck-now : (place : ℕ) → struck_of bs m left (Jump 0 place) p ≡ onward (land_of bs m 0 place p).step (λ k. struck_of bs m left None (land_of bs m 0 place p).parts) (land_of bs m 0 place p)
  unfolding struck_of run_of
  struck-now place =
      sym (jump-there bs m left 0 place p h (run_of bs m 0 p) refl p.registers.at refl)
      ∙ ap (λ n. land_of bs m n place p) (let z : left - 0 ≡ left = omega arith in z)
      ∙ lands-first bs m left place p

  -- the jump is past the next step
  later-by : (k place : ℕ) (c : Bool) → leb left (suc k) ≡ c
      → cond c (run_of bs m left p) (lands_after bs m (left - suc k) place (run_of bs m (suc k) p)) ≡ onward one.step (λ i. jump_of bs m (left - 1) k place one.parts) one
  later-by k place true e =
      one-first bs m left p h ∙ ap (λ x. onward one.step (λ i. x) one) (jump-none bs m (left - 1) k place one.parts (omega (arith, leb-true left (suc k) e)))
  later-by k place false e =
      let l = leb-false left (suc k) e in
      ap (lands_after bs m (left - suc k) place) (one-first bs m (suc k) p (omega arith))
      ∙ lands-inside bs m (left - suc k) place one.step (λ i. run_of bs m (suc k - 1) one.parts) one refl
      ∙ ap (λ n. onward one.step (λ i. lands_after bs m (left - suc k) place (run_of bs m n one.parts)) one) (let z : suc k - 1 ≡ k = omega arith in z)
      ∙ ap (λ n. onward one.step (λ i. lands_after bs m n place (run_of bs m k one.parts)) one) (let z : left - suc k ≡ left - 1 - k = omega arith in z)
      ∙ ap (λ x. onward one.step (λ i. x) one) (jump-held bs m (left - 1) k place one.parts (omega arith))

  pub struck-later : (k place : ℕ) → struck_of bs m left (Jump (suc k) place) p ≡ onward one.step (λ i. struck_of bs m (left - 1) (Jump k place) one.parts) one
  unfolding struck_of jump_of
  struck-later k place = later-by k place (leb left (suc k)) refl
