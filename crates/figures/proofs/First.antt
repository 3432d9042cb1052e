-- In a table without a fault the first part of a switch stands just behind the row that opens it: nothing may stand between them.
-- Assumes that the rows so far are accepted.
use mathlib.Core.Path.{◌≡◌, refl, ap}
use mathlib.Core.Bool.{Bool, true, false, not, ◌&&◌}
use mathlib.Core.List.{List, [], ◌∷◌}
use Prim.Native.Nat.{ℕ, zero, suc, ◌≤◌}
use native.Mathlib.Omega.{arith}
use Rattle.rules.specs.declared.kind.Kind.{Kind}
use Rattle.rules.specs.declared.kind.Kind.TheVariants.{Function, Do, If, Else, Loop, End, Break, Continue, Call, Unknown}
use Rattle.rules.specs.Verdict.{Accepted}
use Rattle.rules.specs.Row.{Row, Table}
use Rattle.rules.specs.Scan.{shape_of, is_else, is_end_lem}
use Rattle.rules.specs.Switch.{GivenRow, as_is, switch_row, case_row, default_row, GivenTable, given_at, Switch, Thing, construct, switch, in_switch, things_by, things_after, things_at}
use Rattle.rules.specs.Given.{is_none, no_part, is_any, strays, given_rows_verdict}
use Rattle.rules.proofs.Logic.{clash, and-false, or_right}
use Rattle.rules.proofs.Switch.Chain.{sound-rows}
use Rattle.figures.specs.Counted.{is_switch_row, after_switch}

-- every switch among these has a part
abbrev pub Begun : List Thing → Type 0
Begun [] = Unit {0}
Begun (construct ∷ ts) = Begun ts
Begun (switch s ∷ ts) = (no_part s ≡ false) × Begun ts

-- every open switch has a part, but perhaps the innermost thing: it has none exactly behind its own row
abbrev pub Settled : (first : Bool) → List Thing → Type 0
Settled b [] = b ≡ false
Settled b (construct ∷ ts) = (b ≡ false) × Begun ts
Settled b (switch s ∷ ts) = (no_part s ≡ b) × Begun ts

-- what stands in a switch without a fault stands in a part of it
all-begun : (b : Bool) (ts : List Thing) → Settled b ts → in_switch false no_part ts ≡ false → Begun ts
all-begun b [] m p = tt
all-begun b (construct ∷ ts) m p = m.1
all-begun b (switch s ∷ ts) m p = (p, m.1)

behind : (ts : List Thing) → Begun ts → Settled false ts
behind [] m = refl
behind (construct ∷ ts) m = (refl, m)
behind (switch s ∷ ts) m = m

-- a row of 01 that is no end stands in a part, where it stands straight in a switch
in-part : (r : Row) (ts : List Thing) → is_end_lem r.kind ≡ false → strays (as_is r) ts ≡ false → in_switch false no_part ts ≡ false
unfolding strays
in-part r [] e p = refl
in-part r (construct ∷ ts) e p = refl
in-part r (switch s ∷ ts) e p = by (no_part s) (is_end_lem r.kind) e (or_right (is_else r.kind) _ p)
  where
    by : (b x : Bool) → x ≡ false → b && not x ≡ false → b ≡ false
    by true true e p = e
    by true false e p = p
    by false x e p = refl

row_settled : (r : Row) (b : Bool) (ts : List Thing) → strays (as_is r) ts ≡ false → Settled b ts → (k : Kind) → r.kind ≡ k
    → Settled false (things_by (shape_of k) ts)
row_settled r b ts p m Function e = (refl, all-begun b ts m (in-part r ts (ap is_end_lem e) p))
row_settled r b ts p m Do e = behind ts (all-begun b ts m (in-part r ts (ap is_end_lem e) p))
row_settled r b ts p m If e = (refl, all-begun b ts m (in-part r ts (ap is_end_lem e) p))
row_settled r b ts p m Else e = behind ts (all-begun b ts m (in-part r ts (ap is_end_lem e) p))
row_settled r b ts p m Loop e = (refl, all-begun b ts m (in-part r ts (ap is_end_lem e) p))
row_settled r b [] p m End e = refl
row_settled r b (construct ∷ ts) p m End e = behind ts m.1
row_settled r b (switch s ∷ ts) p m End e = behind ts m.1
row_settled r b ts p m Break e = behind ts (all-begun b ts m (in-part r ts (ap is_end_lem e) p))
row_settled r b ts p m Continue e = behind ts (all-begun b ts m (in-part r ts (ap is_end_lem e) p))
row_settled r b ts p m Call e = behind ts (all-begun b ts m (in-part r ts (ap is_end_lem e) p))
row_settled r b ts p m Unknown e = behind ts (all-begun b ts m (in-part r ts (ap is_end_lem e) p))

settled-next : (r : GivenRow) (b : Bool) (ts : List Thing) → strays r ts ≡ false → Settled b ts → Settled (is_switch_row r) (things_after r ts)
unfolding strays
settled-next (as_is r) b ts p m = row_settled r b ts p m r.kind refl
settled-next (switch_row o) b ts p m = (refl, all-begun b ts m (or_right (not (is_any ts)) _ p))
settled-next (case_row o) b [] p m = clash refl p
settled-next (case_row o) b (construct ∷ ts) p m = clash refl p
settled-next (case_row o) b (switch s ∷ ts) p m = (refl, m.1)
settled-next (default_row o) b [] p m = clash refl p
settled-next (default_row o) b (construct ∷ ts) p m = clash refl p
settled-next (default_row o) b (switch s ∷ ts) p m = (and-false (is_none s.used) refl, m.1)

pub settled : (g : GivenTable) (c : Table) (n : ℕ) → given_rows_verdict g c n ≡ Accepted → (i : ℕ) → i ≤ n → Settled (after_switch g i) (things_at g i)
unfolding things_at
settled g c n v zero h = refl
settled g c n v (suc i) h =
    settled-next (given_at g i) (after_switch g i) (things_at g i) (sound-rows g c n v i h).placed (settled g c n v i (omega arith))

-- the next part of a switch is its first exactly behind its own row
pub first_part : (b : Bool) (s : Switch) (ts : List Thing) → Settled b (switch s ∷ ts) → s.in_default ≡ false → is_none s.used ≡ b
first_part b s ts m d = by (is_none s.used) s.in_default d m.0
  where
    by : (x y : Bool) → y ≡ false → x && not y ≡ b → x ≡ b
    by x true d e = clash refl d
    by true false d e = e
    by false false d e = e
