-- One more in a count, and what the loop over some lines keeps. Assumes nothing.
use mathlib.Core.Path.{◌≡◌, ap, ◌∙◌}
use Prim.Native.Nat.{ℕ, suc, ◌+◌, ◌-◌, ◌≤◌}
use native.Mathlib.Nat.{add-zero}
use native.Mathlib.Omega.{arith}
use Rattle.rules.specs.declared.ending.Ending.{Ending}
use Rattle.rules.specs.declared.ending.Ending.TheVariants.{Alarmed, Same, Other, Unfinished}
use Rattle.rules.specs.declared.ending.Counts.{Counts}
use Rattle.rules.specs.Sweep.{counts, one, plus, total}
use Rattle.places.specs.Places.{counted_to}

pub one-alarm : (c : Counts) → counts (c.alarms + 1) c.same c.other c.unfinished ≡ plus c (one Alarmed)
one-alarm c = rw (add-zero c.same, add-zero c.other, add-zero c.unfinished)

pub one_same : (c : Counts) → counts c.alarms (c.same + 1) c.other c.unfinished ≡ plus c (one Same)
one_same c = rw (add-zero c.alarms, add-zero c.other, add-zero c.unfinished)

pub one-other : (c : Counts) → counts c.alarms c.same (c.other + 1) c.unfinished ≡ plus c (one Other)
one-other c = rw (add-zero c.alarms, add-zero c.same, add-zero c.unfinished)

pub one-unfinished : (c : Counts) → counts c.alarms c.same c.other (c.unfinished + 1) ≡ plus c (one Unfinished)
one-unfinished c = rw (add-zero c.alarms, add-zero c.same, add-zero c.other)

-- ---- what the loop over the lines keeps
pub record Counted (begun : Counts) (f : ℕ → Ending) (first line : ℕ) (c : Counts) : Type 0 where
  pub from : first ≤ line
  pub is : c ≡ counted_to begun (line - first) f
  pub sum_is : total c ≡ total begun + (line - first)

pub counted_start : (begun : Counts) (f : ℕ → Ending) (first : ℕ) → Counted begun f first first begun
unfolding counted_to
counted_start begun f first =
    record {
      from = omega arith;
      is = ap (λ n. counted_to begun n f) (let z : 0 ≡ first - first = omega arith in z);
      sum_is = omega arith;
    }

pub one_more : (c : Counts) (e : Ending) → total (plus c (one e)) ≡ suc (total c)
one_more c Alarmed = omega arith
one_more c Same = omega arith
one_more c Other = omega arith
one_more c Unfinished = omega arith

pub counted_next : (begun : Counts) (f : ℕ → Ending) (first line : ℕ) (c : Counts) → Counted begun f first line c
    → (e : Ending) → e ≡ f (line - first) → (d : Counts) → d ≡ plus c (one e) → Counted begun f first (line + 1) d
unfolding counted_to
counted_next begun f first line c k e q d z =
    record {
      from = omega (arith, k.from);
      is = z ∙ ap (λ y. plus c (one y)) q ∙ ap (λ y. plus y (one (f (line - first)))) k.is ∙ ap (λ n. counted_to begun n f) (let y : suc (line - first) ≡ line + 1 - first = omega (arith, k.from) in y);
      sum_is = ap total z ∙ one_more c e ∙ omega (arith, k.from, k.sum_is);
    }
