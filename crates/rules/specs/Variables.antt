-- What a do and a test do with the variables (01, "The source table"; 02, No. 5).
use Rattle.std.specs.Prelude.{ℕ, ◌+◌, ◌-◌, Bool, true, false, cond, not, List, eqb, ltb, leb, get_or, set}
use Rattle.rules.specs.Computed.{Computed, Fits, Overflows}
use Rattle.rules.specs.declared.operands.Operands.{Operands}

-- 02, No. 5: "A do whose sum passes 65,535 or whose difference falls below 0"
abbrev pub sum : (p x y : ℕ) → Computed
sum p x y = cond (leb (x + y) 65535) (Fits p (x + y)) Overflows

abbrev pub difference : (p x y : ℕ) → Computed
difference p x y = cond (leb y x) (Fits p (x - y)) Overflows

-- the value of variable p
abbrev pub variable : List ℕ → (p : ℕ) → ℕ
variable vs p = get_or vs p 0

-- what vp gets: "op 0: vp = n; 1: vp = vq; 2: vp = vp + vq; 3: vp = vp - vq"
unfoldable pub computed : Operands → List ℕ → Computed
computed o vs =
    cond (eqb o.op 0) (Fits o.p o.n)
    (cond (eqb o.op 1) (Fits o.p (variable vs o.q))
    (cond (eqb o.op 2) (sum o.p (variable vs o.p) (variable vs o.q))
    (difference o.p (variable vs o.p) (variable vs o.q))))

abbrev pub is_overflow : Computed → Bool
is_overflow (Fits p x) = false
is_overflow Overflows = true

abbrev pub overflows : Operands → List ℕ → Bool
overflows o vs = is_overflow (computed o vs)

-- the variables after the do; one that overflows changes none
abbrev pub assigned : Computed → List ℕ → List ℕ
assigned (Fits p x) vs = set vs p x
assigned Overflows vs = vs

abbrev pub done_on : Operands → List ℕ → List ℕ
done_on o vs = assigned (computed o vs) vs

-- "test op 0: vp = n; 1: vp differs from n; 2: vp less than vq, unsigned"
unfoldable pub holds_on : Operands → List ℕ → Bool
holds_on o vs =
    cond (eqb o.op 0) (eqb (variable vs o.p) o.n)
    (cond (eqb o.op 1) (not (eqb (variable vs o.p) o.n)) (ltb (variable vs o.p) (variable vs o.q)))
