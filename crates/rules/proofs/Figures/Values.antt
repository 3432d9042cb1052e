-- The highest counter value that a line names is what the sum over the rows comes to: the row that ends the last region names it.
-- Assumes that the table is accepted.
use mathlib.Core.Path.{◌≡◌, refl, ap, ◌∙◌}
use mathlib.Core.List.{List, [], ◌∷◌}
use Prim.Native.Nat.{ℕ, zero, suc, ◌+◌, ◌≤◌, ◌<◌}
use native.Mathlib.Nat.{le_refl, le_trans, le-max_left, le-max_right, not-suc-le-zero}
use native.Mathlib.Decide.{le_ind}
use native.Mathlib.Omega.{arith}
use lib.ListN.{length}
use Rattle.rules.specs.declared.kind.Kind.{Kind}
use Rattle.rules.specs.declared.kind.Kind.TheVariants.{Function, Do, If, Else, Loop, End, Break, Continue, Call, Unknown}
use Rattle.rules.specs.Row.{Table, kind_at}
use Rattle.rules.specs.Scan.{Part, body, then_part, else_part, loop_body, Open, Shape, pushes, turns, closes, stays, shape_of, regions, open_at}
use Rattle.rules.specs.Value.{takes, takes_in, taken, base, value}
use Rattle.rules.specs.Line.{Line, line_at}
use Rattle.rules.specs.Harden.{line_count, line_of, end_line, row_lines, harden}
use Rattle.rules.specs.Figures.{values_in, highest, highest_value}
use Rattle.rules.proofs.Accepted.{Proper}
use Rattle.rules.proofs.Scan.{regions-mono, regions-next, NotIn, Gone, gone-later, Closing, by_turn, by_close, gone-after}
use Rattle.rules.proofs.Value.{takes-off, value-next}
use Rattle.rules.proofs.Harden.{line-next, some_line, line-at}
use Rattle.rules.proofs.Function.{not-silent, row_zero}
use Rattle.rules.proofs.Place.{lines_all}
use Rattle.rules.proofs.Figures.Sums.{sums_at}
use Rattle.rules.proofs.Figures.Ended.{Ended, ended, opened-by}
use Rattle.rules.proofs.Figures.ValueSum.{base-top}
use Rattle.rules.proofs.Figures.ValueTop.{base-next, values-below}

-- ---- a line's values are not above the highest
line-reaches : (ls : List Line) (k : ℕ) → k < length ls → highest (values_in (line_at ls k)) ≤ highest_value ls
unfolding highest_value
line-reaches [] k h = absurd (not-suc-le-zero h)
line-reaches (l ∷ ls) zero h = le-max_left (highest (values_in l)) (highest_value ls)
line-reaches (l ∷ ls) (suc k) h = le_trans (line-reaches ls k (omega arith)) (le-max_right (highest (values_in l)) (highest_value ls))

-- ---- a region that is closed moves no more
none-off : (k : Kind) (g : ℕ) (fs : List Open) → NotIn g fs → takes_in k g fs ≡ 0
none-off k g [] n = refl
none-off k g (f ∷ fs) n = takes-off k g f fs n.0

taken-stays : (t : Table) (g : ℕ) {i : ℕ} → Gone g (regions t i) (open_at t i) → (j : ℕ) → i ≤ j → taken t g j ≡ taken t g i
unfolding taken
taken-stays t g {i} w j h =
    le_ind (λ m. taken t g m ≡ taken t g i) refl
    (λ m l p. omega (arith, none-off (kind_at t m) g (open_at t m) (gone-later t g {i = i} w m l).off)) j h

value_stays : (t : Table) (g i j : ℕ) → taken t g j ≡ taken t g i → value t g j ≡ value t g i
unfolding value
value_stays t g i j e = ap (λ x. base t g + x) e

-- ---- the row that ends a region names that region's last value
abbrev Shuts : Shape → Type 0
Shuts (pushes p) = ⊥
Shuts turns = Unit {0}
Shuts closes = Unit {0}
Shuts stays = ⊥

shuts : {s : Shape} → Closing s → Shuts s
shuts by_turn = tt
shuts by_close = tt

end-names : (t : Table) (i : ℕ) (f : Open) (fs : List Open) (p : Part) → value t f.region i + takes End p ≤ highest (values_in (end_line t i (f ∷ fs) p))
end-names t i f fs body = omega arith
end-names t i f fs then_part = omega arith
end-names t i f fs else_part = omega arith
end-names t i f fs loop_body = omega arith

names-last : (t : Table) (i : ℕ) (f : Open) (fs : List Open) (k : Kind) → Closing (shape_of k)
    → value t f.region i + takes k f.part ≤ highest (values_in (line_at (row_lines t i (f ∷ fs) k) 0))
unfolding row_lines
names-last t i f fs Function c = absurd (shuts c)
names-last t i f fs Do c = absurd (shuts c)
names-last t i f fs If c = absurd (shuts c)
names-last t i f fs Else c = omega arith
names-last t i f fs Loop c = absurd (shuts c)
names-last t i f fs End c = end-names t i f fs f.part
names-last t i f fs Break c = absurd (shuts c)
names-last t i f fs Continue c = absurd (shuts c)
names-last t i f fs Call c = absurd (shuts c)
names-last t i f fs Unknown c = absurd (shuts c)

-- a line names the last value of a region that was open
last-named : (t : Table) → Proper t → (g i : ℕ) → Ended t g i → value t g (length t) ≤ highest_value (harden t)
last-named t ok g i e =
    omega (
      arith,
      names-last t j e.it e.others (kind_at t j) e.closing,
      value-next t j refl e.open_is,
      value_stays t e.it.region (suc j) (length t) (taken-stays t e.it.region {i = suc j} w (length t) e.within),
      ap (λ x. value t x (length t)) e.region_is,
      ap (λ l. highest (values_in l)) line_is,
      line-reaches (harden t) (line_of t j + 0) (omega (arith, lines_all t, line-next t j (length t) e.within, one)),
    )
  where
    j : ℕ
    j = e.row

    one : 0 < line_count (kind_at t e.row)
    one = some_line (kind_at t e.row) (not-silent t ok e.row e.within e.open_is)

    w : Gone e.it.region (regions t (suc e.row)) (open_at t (suc e.row))
    w = gone-after t e.row (kind_at t e.row) e.it e.others refl e.closing e.open_is

    line_is : line_at (harden t) (line_of t e.row + 0) ≡ line_at (row_lines t e.row (e.it ∷ e.others) (kind_at t e.row)) 0
    line_is = line-at t e.row 0 e.within one ∙ ap (λ gs. line_at (row_lines t e.row gs (kind_at t e.row)) 0) e.open_is

-- ---- the last region
some-region : (t : Table) → Proper t → 0 < regions t (length t)
some-region t ok = omega (arith, regions-next t 0 (row_zero t ok), regions-mono t {i = 1} (length t) ok.some_row)

top-named : (t : Table) → Proper t → base t (regions t (length t)) ≤ suc (highest_value (harden t))
top-named t ok = by (regions t (length t)) refl (some-region t ok)
  where
    by : (r : ℕ) → regions t (length t) ≡ r → 0 < r → base t r ≤ suc (highest_value (harden t))
    by zero e h = absurd (not-suc-le-zero h)
    by (suc g) e h =
        let o = opened-by t ok g (length t) (le_refl _) (omega arith) in
        let d = ended t ok g (suc o.row) o.before o.opens in
        omega (arith, base-next t g, last-named t ok g (suc o.row) d)

pub highest-value : (t : Table) → Proper t → highest_value (harden t) ≡ (sums_at t (length t)).value
highest-value t ok = omega (arith, base-top t ok, top-named t ok, values-below t ok)
