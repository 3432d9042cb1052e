-- A do of the code: what it computes fits or overflows. Assumes nothing.
use mathlib.Core.Path.{◌≡◌, refl, sym, ap, ◌∙◌}
use mathlib.Core.List.{List}
use mathlib.Core.Bool.{Bool, true, false, cond}
use Prim.Native.Nat.{ℕ, ◌+◌, ◌-◌}
use lib.Dec.{eqb, leb}
use Rattle.rules.specs.Computed.{Computed, Fits, Overflows}
use Rattle.rules.specs.declared.operands.Operands.{Operands}
use Rattle.rules.specs.declared.step.Step.TheVariants.{Overflow}
use Rattle.rules.specs.Variables.{variable, computed}
use Rattle.state.specs.declared.machine.Registers.{Registers}
use Rattle.state.specs.declared.machine.Moved.{Moved}
use Rattle.state.specs.Machine.{moved, Done, done, put_of, did_by, did_of}

-- a number that fits goes to the do's own variable
abbrev target : (p : ℕ) → Computed → ℕ
target p (Fits to x) = to
target p Overflows = p

target-own : (o : Operands) (vs : List ℕ) → target o.p (computed o vs) ≡ o.p
unfolding computed
target-own o vs = by (eqb o.op 0) (eqb o.op 1) (eqb o.op 2) (leb (x + y) 65535) (leb y x)
  where
    x : ℕ
    x = variable vs o.p

    y : ℕ
    y = variable vs o.q

    by : (a b c d e : Bool)
        → target o.p (cond a (Fits o.p o.n) (cond b (Fits o.p y) (cond c (cond d (Fits o.p (x + y)) Overflows) (cond e (Fits o.p (x - y)) Overflows)))) ≡ o.p
    by true b c d e = refl
    by false true c d e = refl
    by false false true true e = refl
    by false false true false e = refl
    by false false false d true = refl
    by false false false d false = refl

pub fits-own : (o : Operands) (vs : List ℕ) {c : Computed} {to x : ℕ} → c ≡ computed o vs → c ≡ Fits to x → to ≡ o.p
fits-own o vs q e = ap (target o.p) (sym e ∙ q) ∙ target-own o vs

module _ (o : Operands) (row : ℕ) (h : Registers) (vs tr : List ℕ) {c : Computed} (q : c ≡ computed o vs) where
  did-is : did_of o row h vs tr ≡ did_by c o.p row h vs tr
  unfolding did_of
  did-is = ap (λ y. did_by y o.p row h vs tr) (sym q)

  pub did-fits : {d : Done} {to x : ℕ} → c ≡ Fits to x → d ≡ put_of to x row h vs tr → d ≡ did_of o row h vs tr
  did-fits e m = m ∙ sym (did-is ∙ ap (λ y. did_by y o.p row h vs tr) e)

  pub did-own : {d : Done} {to x : ℕ} → c ≡ Fits to x → d ≡ put_of o.p x row h vs tr → d ≡ did_of o row h vs tr
  did-own {x = x} e m = did-fits e (m ∙ ap (λ p. put_of p x row h vs tr) (sym (fits-own o vs q e)))

  pub did-overflows : {r : Moved} → c ≡ Overflows → r ≡ moved (Overflow row (variable vs o.p)) h → done r vs tr ≡ did_of o row h vs tr
  did-overflows e m = ap (λ y. done y vs tr) m ∙ sym (did-is ∙ ap (λ y. did_by y o.p row h vs tr) e)
