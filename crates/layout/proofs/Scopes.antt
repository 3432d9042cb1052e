-- The map after a scope is put there, and the bounds of a scope's numbers. Assumes nothing.
use mathlib.Core.Logic.{◌⊎◌, inl, inr}
use mathlib.Core.Path.{◌≡◌, ap, ◌∙◌}
use mathlib.Core.Bool.{Bool, true, false, cond}
use mathlib.Core.List.{List, [], ◌∷◌}
use Prim.Native.Nat.{ℕ, suc, ◌/◌, ◌≤◌, ◌<◌}
use native.Mathlib.Nat.{eq-or-lt_of_le}
use native.Mathlib.Omega.{arith}
use lib.ListN.{length}
use lib.Seq.{get_or-set_same, get_or-set_other}
use Rattle.rules.specs.Verdict.{Accepted}
use Rattle.rules.specs.Row.{Table, table_of}
use Rattle.rules.specs.Scan.{Open, open_at, regions, region_of, opener_of, is_loop_body, from_loop}
use Rattle.rules.specs.Check.{verdict_of}
use Rattle.rules.proofs.Scan.{Chain, chain}
use Rattle.rules.proofs.Value.{AllHeld, held}
use Rattle.rules.proofs.Accepted.{proper, table-length}
use Rattle.rules.proofs.ValueBound.{regions-bound, line-bound}
use Rattle.layout.specs.declared.scope.Scope.{Scope}
use Rattle.layout.specs.Scope.{scope_at, put_scope, outermost, scope_of, Mapped, Surveyed, Stands}

-- ---- the map after a scope is put there
pub mapped-more : (bs : List ℕ) (m : List Scope) (i : ℕ) (here : Scope) → i < length m → Mapped bs m i → here ≡ scope_of (table_of bs) i
    → Mapped bs (put_scope m i here) (suc i)
mapped-more bs m i here h a e = record { each = λ j l. by j (eq-or-lt_of_le l) }
  where
    by : (j : ℕ) → (suc j ≡ suc i) ⊎ (suc j < suc i) → scope_at (put_scope m i here) j ≡ scope_of (table_of bs) j
    by j (inl x) = let q : j ≡ i = omega arith in rw q (get_or-set_same m i here outermost h ∙ e)
    by j (inr x) = get_or-set_other m i j here outermost (omega arith) ∙ a.each j (omega arith)

-- ---- bounds
opener-of : (t : Table) (i : ℕ) (fs : List Open) → AllHeld t i fs → opener_of fs ≤ i
opener-of t i [] g = omega arith
opener-of t i (f ∷ fs) g = omega (arith, g.0.before)

repeat-of : (t : Table) (i : ℕ) (fs : List Open) → AllHeld t i fs → opener_of (from_loop fs) ≤ i
repeat-of t i [] g = omega arith
repeat-of t i (f ∷ fs) g = by (is_loop_body f.part) (repeat-of t i fs g.1)
  where
    by : (b : Bool) → opener_of (from_loop fs) ≤ i → opener_of (cond b (f ∷ fs) (from_loop fs)) ≤ i
    by true h = omega (arith, g.0.before)
    by false h = h

region-of : (b : ℕ) (fs : List Open) → Chain b fs → region_of fs ≤ b
region-of b [] k = omega arith
region-of b (f ∷ fs) k = omega arith

pub region-regions : (t : Table) (i : ℕ) → region_of (open_at t i) ≤ regions t i
region-regions t i = region-of (regions t i) (open_at t i) (chain t i)

pub few_rows : (bs : List ℕ) → verdict_of bs ≡ Accepted → length bs / 6 ≤ 1024
few_rows bs e = omega (arith, table-length bs, (proper bs e).few_rows)

-- a scope with the bounds that its numbers keep
pub standing : {bs : List ℕ} {i : ℕ} {here : Scope} → verdict_of bs ≡ Accepted → i ≤ length bs / 6 → here ≡ scope_of (table_of bs) i → Stands bs i here
unfolding scope_of
standing {bs} {i} {here} a l e =
    record {
      accepted = a;
      few_rows = few_rows bs a;
      row = l;
      is = e;
      opened_low = omega (arith, ap (λ x. x.opened) e, regions-bound (table_of bs) i);
      region_low = omega (arith, ap (λ x. x.region) e, region-regions (table_of bs) i, regions-bound (table_of bs) i);
      opener_low = omega (arith, ap (λ x. x.opener) e, opener-of (table_of bs) i (open_at (table_of bs) i) (held (table_of bs) i));
      repeat_low = omega (arith, ap (λ x. x.repeat) e, repeat-of (table_of bs) i (open_at (table_of bs) i) (held (table_of bs) i));
      line_low = omega (arith, ap (λ x. x.line) e, line-bound (table_of bs) i);
    }

pub stand-at : {bs : List ℕ} {m : List Scope} {i : ℕ} {here : Scope} → Surveyed bs m → i ≤ length bs / 6 → here ≡ scope_at m i → Stands bs i here
stand-at {bs} {m} {i} s l e = standing s.accepted l (e ∙ s.mapped.each i (omega arith))
