-- What a row as given adds to the sums is what the rows of the chain that it stands for add. Assumes that the rows so far are accepted.
use mathlib.Core.Path.{◌≡◌, refl, sym, ap, ◌∙◌}
use mathlib.Core.Bool.{Bool, true, false, cond}
use mathlib.Core.List.{List, [], ◌∷◌, ◌++◌}
use Prim.Native.Nat.{ℕ, zero, suc, ◌+◌, max, ◌≤◌, ◌<◌}
use native.Mathlib.Nat.{add-zero, le_refl}
use native.Mathlib.Omega.{arith}
use lib.Dec.{eqb}
use lib.ListN.{length, replicate}
use Rattle.rules.specs.declared.kind.Kind.{Kind}
use Rattle.rules.specs.declared.kind.Kind.TheVariants.{Function, Do, If, Else, Loop, End, Break, Continue, Call, Unknown}
use Rattle.rules.specs.Verdict.{Accepted}
use Rattle.rules.specs.declared.sums.Sums.{Sums}
use Rattle.rules.specs.Row.{Row}
use Rattle.rules.specs.Switch.{GivenRow, as_is, switch_row, case_row, default_row, GivenTable, given_as, given_at, Switch, Thing, construct, switch, bare_row, if_row, else_after, chain_rows, things_at, chain_to, chain_of}
use Rattle.rules.specs.Given.{is_none, strays, given_rows_verdict}
use Rattle.rules.specs.Figures.{opened_by, no_sums, counted, sums_from, sums_of}
use Rattle.rules.proofs.Logic.{clash}
use Rattle.rules.proofs.Switch.Chain.{sound-rows}
use Rattle.rules.proofs.Figures.Sums.{sums-append}
use Rattle.figures.specs.Counted.{part_counted, given_counted, is_switch_row, after_switch}
use Rattle.figures.proofs.First.{Settled, settled, first_part}

-- ---- an end adds nothing, since the most regions are no fewer than those now open
abbrev Topped : Sums → Type 0
Topped s = s.opened ≤ s.most

topped : (k : Kind) (s : Sums) → Topped (counted k s)
topped k s = by s.most (opened_by k s.opened)
  where
    by : (a b : ℕ) → b ≤ max a b
    by a b = omega arith

end-adds : (s : Sums) → Topped s → counted End s ≡ s
end-adds s h =
    ap (λ x. record { lines = x; value = s.value + 0; opened = s.opened; most = max s.most s.opened }) (add-zero s.lines)
    ∙ ap (λ x. record { lines = s.lines; value = x; opened = s.opened; most = max s.most s.opened }) (add-zero s.value)
    ∙ ap (λ x. record { lines = s.lines; value = s.value; opened = s.opened; most = x }) (by s.most s.opened h)
  where
    by : (a b : ℕ) → b ≤ a → max a b ≡ a
    by a b l = omega arith

ends-add : (n : ℕ) (s : Sums) → Topped s → sums_from (replicate n (bare_row End)) s ≡ s
unfolding sums_from
ends-add zero s h = refl
ends-add (suc n) s h = ap (sums_from (replicate n (bare_row End))) (end-adds s h) ∙ ends-add n s h

-- ---- the rows that a row stands for
plain-adds : (r : Row) (k : Kind) (o : Switch) (ts : List Thing) (s : Sums) → Topped s → r.kind ≡ k
    → sums_from (chain_rows (as_is r) (switch o ∷ ts)) s ≡ counted k s
unfolding sums_from
plain-adds r Function o ts s h e = rw e refl
plain-adds r Do o ts s h e = rw e refl
plain-adds r If o ts s h e = rw e refl
plain-adds r Else o ts s h e = rw e refl
plain-adds r Loop o ts s h e = rw e refl
plain-adds r End o ts s h e = rw e (ends-add (length o.used) s h ∙ sym (end-adds s h))
plain-adds r Break o ts s h e = rw e refl
plain-adds r Continue o ts s h e = rw e refl
plain-adds r Call o ts s h e = rw e refl
plain-adds r Unknown o ts s h e = rw e refl

case-adds : (o p : ℕ) (used : List ℕ) (b : Bool) (s : Sums) → is_none used ≡ b → sums_from (else_after used ++ (if_row o p ∷ [])) s ≡ counted If (part_counted b s)
unfolding sums_from
case-adds o p [] true s e = refl
case-adds o p [] false s e = clash refl e
case-adds o p (n ∷ ns) true s e = clash e refl
case-adds o p (n ∷ ns) false s e = refl

default-adds : (used : List ℕ) (b : Bool) (s : Sums) → is_none used ≡ b → sums_from (else_after used) s ≡ part_counted b s
unfolding sums_from
default-adds [] true s e = refl
default-adds [] false s e = clash refl e
default-adds (n ∷ ns) true s e = clash e refl
default-adds (n ∷ ns) false s e = refl

row-adds : (r : GivenRow) (ts : List Thing) (b : Bool) (s : Sums) → strays r ts ≡ false → Settled b ts → Topped s
    → sums_from (chain_rows r ts) s ≡ given_counted r b s
unfolding sums_from strays
row-adds (as_is r) [] b s p m h = refl
row-adds (as_is r) (construct ∷ ts) b s p m h = refl
row-adds (as_is r) (switch o ∷ ts) b s p m h = plain-adds r r.kind o ts s h refl
row-adds (switch_row o) ts b s p m h = refl
row-adds (case_row o) [] b s p m h = clash refl p
row-adds (case_row o) (construct ∷ ts) b s p m h = clash refl p
row-adds (case_row o) (switch w ∷ ts) b s p m h = case-adds w.p o.n w.used b s (first_part b w ts m p)
row-adds (default_row o) [] b s p m h = clash refl p
row-adds (default_row o) (construct ∷ ts) b s p m h = clash refl p
row-adds (default_row o) (switch w ∷ ts) b s p m h = default-adds w.used b s (first_part b w ts m p)

topped-from : (rs : List Row) (s : Sums) → Topped s → Topped (sums_from rs s)
unfolding sums_from
topped-from [] s h = h
topped-from (r ∷ rs) s h = topped-from rs (counted r.kind s) (topped r.kind s)

pub sums-grow : (g : GivenTable) (n : ℕ) → given_rows_verdict g (chain_of g) n ≡ Accepted → (i : ℕ) → i < n
    → sums_of (chain_to g (suc i)) ≡ given_counted (given_at g i) (after_switch g i) (sums_of (chain_to g i))
unfolding chain_to
sums-grow g n v i h =
    sums-append (chain_to g i) (chain_rows (given_at g i) (things_at g i)) no_sums
    ∙ row-adds (given_at g i) (things_at g i) (after_switch g i) (sums_of (chain_to g i)) (sound-rows g (chain_of g) n v i h).placed
    (settled g (chain_of g) n v i (omega arith)) (topped-from (chain_to g i) no_sums (le_refl _))

-- ---- by the first byte of a row
pub byte-switch : (b : ℕ) (r : Row) → is_switch_row (given_as b r) ≡ eqb b 0x0a
unfolding given_as
byte-switch b r = by (eqb b 0x0a) (eqb b 0x0b) (eqb b 0x0c)
  where
    by : (x y z : Bool) → is_switch_row (cond x (switch_row r.operands) (cond y (case_row r.operands) (cond z (default_row r.operands) (as_is r)))) ≡ x
    by true y z = refl
    by false true z = refl
    by false false true = refl
    by false false false = refl
