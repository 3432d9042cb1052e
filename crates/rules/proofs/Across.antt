-- What a do and its tick are among the lines: a tick follows each do, and a do precedes each tick. So a guard parts every two places, but for
-- those before a do and before its tick. Assumes that the table is accepted, where it says so.
use mathlib.Core.Logic.{◌≢◌}
use mathlib.Core.Path.{◌≡◌, refl, sym, ap, ◌∙◌}
use mathlib.Core.Bool.{Bool, true, false}
use mathlib.Core.List.{List}
use Prim.Native.Nat.{ℕ, zero, suc, ◌+◌, ◌-◌, ◌≤◌, ◌<◌}
use native.Mathlib.Nat.{add-zero}
use native.Mathlib.Decide.{dec_lt}
use native.Mathlib.Omega.{arith}
use lib.ListN.{length, get_or-eq_default}
use Rattle.rules.specs.declared.kind.Kind.{Kind}
use Rattle.rules.specs.declared.kind.Kind.TheVariants.{Function, Do, If, Else, Loop, End, Break, Continue, Call, Unknown}
use Rattle.rules.specs.Row.{Table, kind_at}
use Rattle.rules.specs.Scan.{Part, body, then_part, else_part, loop_body, Open, open_at, part_of, has_else, function_count}
use Rattle.rules.specs.Line.{Line, do_line, tick_line, test_line, leave_line, out_line, call_line, back_line, ret_line, line_at, is_guard}
use Rattle.rules.specs.Function.{start_of, finish_of}
use Rattle.rules.specs.Harden.{line_count, line_of, test_of, end_line, row_lines, lines_of, harden}
use Rattle.rules.specs.Match.{guard_between}
use Rattle.rules.specs.Settled.{across_by, across, StandsBefore}
use Rattle.rules.proofs.Logic.{clash, Order, less, same, more, order}
use Rattle.rules.proofs.Accepted.{Proper}
use Rattle.rules.proofs.Harden.{line-at}
use Rattle.rules.proofs.Place.{Spot, locate, lines_all, LineOf, line-of, before_finish}
use Rattle.rules.proofs.FunctionLine.{first-in}
use Rattle.rules.proofs.Between.{up, down, wide}

abbrev is_tick : Line → Bool
is_tick (do_line o e) = false
is_tick (tick_line r e a) = true
is_tick (test_line o r s t e a b c go) = false
is_tick (leave_line r s e a b go) = false
is_tick (out_line r s t e a go) = false
is_tick (call_line r e a b go) = false
is_tick (back_line r e a b) = false
is_tick (ret_line e a) = false

-- ---- line ph of a row of kind k: the do of a do row, its tick, or neither
data Sort (k : Kind) (ph : ℕ) (l : Line) : Type 0 where
  a_do : k ≡ Do → ph ≡ 0 → is_tick l ≡ false → Sort k ph l
  a_tick : k ≡ Do → ph ≡ 1 → is_guard l ≡ true → Sort k ph l
  neither : is_guard l ≡ true → is_tick l ≡ false → Sort k ph l

test-sort : (k : Kind) (t : Table) (i : ℕ) (fs : List Open) (b : Bool) → Sort k 0 (test_of t i fs b)
unfolding test_of
test-sort k t i fs true = neither refl refl
test-sort k t i fs false = neither refl refl

end-sort : (k : Kind) (t : Table) (i : ℕ) (fs : List Open) (p : Part) → Sort k 0 (end_line t i fs p)
end-sort k t i fs body = neither refl refl
end-sort k t i fs then_part = neither refl refl
end-sort k t i fs else_part = neither refl refl
end-sort k t i fs loop_body = neither refl refl

sort : (t : Table) (i : ℕ) (fs : List Open) (k : Kind) (ph : ℕ) → Sort k ph (line_at (row_lines t i fs k) ph)
unfolding row_lines
sort t i fs Function ph = neither refl refl
sort t i fs Do zero = a_do refl refl refl
sort t i fs Do (suc zero) = a_tick refl refl refl
sort t i fs Do (suc (suc ph)) = neither refl refl
sort t i fs If zero = test-sort If t i fs (has_else t i)
sort t i fs If (suc ph) = neither refl refl
sort t i fs Else zero = neither refl refl
sort t i fs Else (suc ph) = neither refl refl
sort t i fs Loop zero = test-sort Loop t i fs false
sort t i fs Loop (suc ph) = neither refl refl
sort t i fs End zero = end-sort End t i fs (part_of fs)
sort t i fs End (suc ph) = neither refl refl
sort t i fs Break zero = neither refl refl
sort t i fs Break (suc ph) = neither refl refl
sort t i fs Continue zero = neither refl refl
sort t i fs Continue (suc ph) = neither refl refl
sort t i fs Call zero = neither refl refl
sort t i fs Call (suc zero) = neither refl refl
sort t i fs Call (suc (suc ph)) = neither refl refl
sort t i fs Unknown ph = neither refl refl

-- ---- line x of the table
module _ (t : Table) where
  first-of-do : (i : ℕ) → i < length t → kind_at t i ≡ Do → is_guard (line_at (harden t) (line_of t i)) ≡ false
  unfolding row_lines
  first-of-do i l e =
      ap (λ y. is_guard (line_at (harden t) y)) (sym (add-zero (line_of t i))) ∙ ap is_guard (line-at t i 0 l (rw e (omega arith))) ∙ ap (λ k. is_guard (line_at (row_lines t i (open_at t i) k) 0)) e

  second-of-do : (i : ℕ) → i < length t → kind_at t i ≡ Do → is_tick (line_at (harden t) (line_of t i + 1)) ≡ true
  unfolding row_lines
  second-of-do i l e = ap is_tick (line-at t i 1 l (rw e (omega arith))) ∙ ap (λ k. is_tick (line_at (row_lines t i (open_at t i) k) 1)) e

  data Row (x : ℕ) : Type 0 where
    row_do : (i : ℕ) → i < length t → kind_at t i ≡ Do → x ≡ line_of t i → is_tick (line_at (harden t) x) ≡ false → Row x
    row_tick : (i : ℕ) → i < length t → kind_at t i ≡ Do → x ≡ line_of t i + 1 → is_guard (line_at (harden t) x) ≡ true → Row x
    row_other : is_guard (line_at (harden t) x) ≡ true → is_tick (line_at (harden t) x) ≡ false → Row x

  row_of : (x : ℕ) → Row x
  row_of x = by (dec_lt x (length (harden t)))
    where
      within : Spot t x (length t) → Row x
      within s = pick (sort t s.row (open_at t s.row) (kind_at t s.row) s.ph)
        where
          line_is : line_at (harden t) x ≡ line_at (lines_of t s.row) s.ph
          line_is = ap (line_at (harden t)) s.is ∙ line-at t s.row s.ph s.row_lt s.ph_lt

          pick : Sort (kind_at t s.row) s.ph (line_at (lines_of t s.row) s.ph) → Row x
          pick (a_do e z n) = row_do s.row s.row_lt e (omega (arith, s.is)) (ap is_tick line_is ∙ n)
          pick (a_tick e z g) = row_tick s.row s.row_lt e (omega (arith, s.is)) (ap is_guard line_is ∙ g)
          pick (neither g n) = row_other (ap is_guard line_is ∙ g) (ap is_tick line_is ∙ n)

      by : Dec (x < length (harden t)) → Row x
      by (yes l) = within (locate t (length t) x (omega (arith, lines_all t)))
      by (no l) =
          let q : line_at (harden t) x ≡ ret_line 0 0 = get_or-eq_default (harden t) (ret_line 0 0) {n = x} (omega arith) in
          row_other (ap is_guard q) (ap is_tick q)

  -- a tick follows each do
  tick_after : (x : ℕ) → is_guard (line_at (harden t) x) ≡ false → is_tick (line_at (harden t) (suc x)) ≡ true
  tick_after x g = by (row_of x)
    where
      by : Row x → is_tick (line_at (harden t) (suc x)) ≡ true
      by (row_do i l e q n) = ap (λ y. is_tick (line_at (harden t) y)) (let z : suc x ≡ line_of t i + 1 = omega arith in z) ∙ second-of-do i l e
      by (row_tick i l e q h) = clash h g
      by (row_other h n) = clash h g

  -- a do precedes each tick
  record DoBefore (x : ℕ) : Type 0 where
    y : ℕ
    is : x ≡ suc y
    a_do : is_guard (line_at (harden t) y) ≡ false

  do_before : (x : ℕ) → is_tick (line_at (harden t) x) ≡ true → DoBefore x
  do_before x k = by (row_of x)
    where
      by : Row x → DoBefore x
      by (row_do i l e q n) = clash k n
      by (row_tick i l e q h) = record { y = line_of t i; is = omega arith; a_do = first-of-do i l e }
      by (row_other h n) = clash k n

  -- ---- the lines before one that is no tick, and two before a tick
  guard_below : (z : ℕ) → is_tick (line_at (harden t) (suc z)) ≡ false → is_guard (line_at (harden t) z) ≡ true
  guard_below z n = by (is_guard (line_at (harden t) z)) refl
    where
      by : (b : Bool) → is_guard (line_at (harden t) z) ≡ b → is_guard (line_at (harden t) z) ≡ true
      by true e = e
      by false e = clash (tick_after z e) n

  guard_upto : (x y : ℕ) → is_tick (line_at (harden t) x) ≡ false → y < x → guard_between (harden t) x y ≡ true
  guard_upto zero y n l = absurd (omega arith)
  guard_upto (suc z) y n l = wide (harden t) (suc z) y (down z (omega arith) (omega arith) (guard_below z n))

  guard_from : (x y : ℕ) → is_guard (line_at (harden t) x) ≡ true → x < y → guard_between (harden t) x y ≡ true
  guard_from x y g l = wide (harden t) x y (up x (omega arith) l g)

  do_no_tick : (x : ℕ) → is_guard (line_at (harden t) x) ≡ false → is_tick (line_at (harden t) x) ≡ false
  do_no_tick x g = by (line_at (harden t) x) g
    where
      by : (l : Line) → is_guard l ≡ false → is_tick l ≡ false
      by (do_line o e) q = refl
      by (tick_line r e a) q = clash refl q
      by (test_line o r s t e a b c go) q = refl
      by (leave_line r s e a b go) q = refl
      by (out_line r s t e a go) q = refl
      by (call_line r e a b go) q = refl
      by (back_line r e a b) q = refl
      by (ret_line e a) q = refl

  -- ---- past a do's tick, or down from a do
  from_do : (x y : ℕ) → is_guard (line_at (harden t) x) ≡ false → y ≢ x → y ≢ suc x → guard_between (harden t) x y ≡ true
  from_do x y g a b = by (order x y)
    where
      tick_guard : (l : Line) → is_tick l ≡ true → is_guard l ≡ true
      tick_guard (do_line o e) q = q
      tick_guard (tick_line r e a) q = refl
      tick_guard (test_line o r s t e a b c go) q = refl
      tick_guard (leave_line r s e a b go) q = refl
      tick_guard (out_line r s t e a go) q = refl
      tick_guard (call_line r e a b go) q = refl
      tick_guard (back_line r e a b) q = refl
      tick_guard (ret_line e a) q = refl

      by : Order x y → guard_between (harden t) x y ≡ true
      by (less l) = wide (harden t) x y (up (suc x) (omega arith) (omega arith) (tick_guard (line_at (harden t) (suc x)) (tick_after x g)))
      by (same e) = absurd (a (sym e))
      by (more l) = guard_upto x y (do_no_tick x g) l

  -- from a tick
  from_tick : (z y : ℕ) → is_guard (line_at (harden t) (suc z)) ≡ true → is_guard (line_at (harden t) z) ≡ false → y ≢ suc z → y ≢ z → guard_between (harden t) (suc z) y ≡ true
  from_tick z y g d a b = by (order (suc z) y)
    where
      lower : (w : ℕ) → w ≡ z → y < w → guard_between (harden t) (suc z) y ≡ true
      lower zero e l = absurd (let n : ⊥ = omega arith in n)
      lower (suc v) e l =
          wide (harden t) (suc z) y (down v (omega arith) (omega arith) (guard_below v (ap (λ u. is_tick (line_at (harden t) u)) e ∙ do_no_tick z d)))

      by : Order (suc z) y → guard_between (harden t) (suc z) y ≡ true
      by (less l) = guard_from (suc z) y g l
      by (same e) = absurd (a (sym e))
      by (more l) = lower z refl (omega arith)

  from_other : (x y : ℕ) → is_guard (line_at (harden t) x) ≡ true → is_tick (line_at (harden t) x) ≡ false → y ≢ x → guard_between (harden t) x y ≡ true
  from_other x y g n a = by (order x y)
    where
      by : Order x y → guard_between (harden t) x y ≡ true
      by (less l) = guard_from x y g l
      by (same e) = absurd (a (sym e))
      by (more l) = guard_upto x y n l

  -- ---- every place but these two is parted from line x by a guard
  pub parted : (x y : ℕ) → y ≢ x → y ≢ across (harden t) x → guard_between (harden t) x y ≡ true
  unfolding across
  parted x y a b = by (line_at (harden t) x) refl b
    where
      after_do : DoBefore x → is_guard (line_at (harden t) x) ≡ true → y ≢ x - 1 → guard_between (harden t) x y ≡ true
      after_do d g q =
          ap (λ u. guard_between (harden t) u y) d.is
          ∙ from_tick d.y y (ap (λ u. is_guard (line_at (harden t) u)) (sym d.is) ∙ g) d.a_do (λ e. a (e ∙ sym d.is)) (λ e. q (omega (arith, d.is)))

      by : (l : Line) → line_at (harden t) x ≡ l → y ≢ across_by l x → guard_between (harden t) x y ≡ true
      by (do_line o e) q c = from_do x y (ap is_guard q) a c
      by (tick_line r e u) q c = after_do (do_before x (ap is_tick q)) (ap is_guard q) c
      by (test_line o r s v e u w z go) q c = from_other x y (ap is_guard q) (ap is_tick q) a
      by (leave_line r s e u w go) q c = from_other x y (ap is_guard q) (ap is_tick q) a
      by (out_line r s v e u go) q c = from_other x y (ap is_guard q) (ap is_tick q) a
      by (call_line r e u w go) q c = from_other x y (ap is_guard q) (ap is_tick q) a
      by (back_line r e u w) q c = from_other x y (ap is_guard q) (ap is_tick q) a
      by (ret_line e u) q c = from_other x y (ap is_guard q) (ap is_tick q) a

-- ---- inside a function both are places of it. Assumes that the table is accepted.
pub stands-before : (t : Table) → Proper t → (n x : ℕ) → n < function_count t → start_of (harden t) n ≤ x → x < finish_of (harden t) n → StandsBefore (harden t) n x
unfolding across
stands-before t ok n x kn a b = by (line_at (harden t) x) refl
  where
    here : LineOf t n x
    here = line-of t ok n x kn a b

    -- so is the do's tick
    before_do : is_guard (line_at (harden t) x) ≡ false → suc x < finish_of (harden t) n
    before_do q = pick (sort t here.row (open_at t here.row) (kind_at t here.row) here.ph)
      where
        unguarded : is_guard (line_at (lines_of t here.row) here.ph) ≡ false
        unguarded = ap is_guard (sym (ap (line_at (harden t)) here.is ∙ line-at t here.row here.ph here.in_function.within here.ph_lt)) ∙ q

        pick : Sort (kind_at t here.row) here.ph (line_at (lines_of t here.row) here.ph) → suc x < finish_of (harden t) n
        pick (a_do e z u) = omega (arith, here.is, z, before_finish t ok here.in_function, ap line_count e)
        pick (a_tick e z g) = clash g unguarded
        pick (neither g u) = clash g unguarded

    -- the tick's do is in the same row
    after-tick : is_tick (line_at (harden t) x) ≡ true → here.ph ≡ 1
    after-tick q = pick (sort t here.row (open_at t here.row) (kind_at t here.row) here.ph)
      where
        tick : is_tick (line_at (lines_of t here.row) here.ph) ≡ true
        tick = ap is_tick (sym (ap (line_at (harden t)) here.is ∙ line-at t here.row here.ph here.in_function.within here.ph_lt)) ∙ q

        pick : Sort (kind_at t here.row) here.ph (line_at (lines_of t here.row) here.ph) → here.ph ≡ 1
        pick (a_do e z n) = clash tick n
        pick (a_tick e z g) = z
        pick (neither g n) = clash tick n

    stands : (y : ℕ) → across (harden t) x ≡ y → start_of (harden t) n ≤ y → y < finish_of (harden t) n → StandsBefore (harden t) n x
    stands y e l h = record { not_before = a; before_end = b; across_from = omega arith; across_before = omega arith }

    by : (l : Line) → line_at (harden t) x ≡ l → StandsBefore (harden t) n x
    by (do_line o e) q = stands (suc x) (ap (λ l. across_by l x) q) (omega arith) (before_do (ap is_guard q))
    by (tick_line r e u) q =
        stands (x - 1) (ap (λ l. across_by l x) q) (omega (arith, here.is, after-tick (ap is_tick q), (first-in t ok here.in_function).not_before)) (omega arith)
    by (test_line o r s v e u w z go) q = stands x (ap (λ l. across_by l x) q) a (omega arith)
    by (leave_line r s e u w go) q = stands x (ap (λ l. across_by l x) q) a (omega arith)
    by (out_line r s v e u go) q = stands x (ap (λ l. across_by l x) q) a (omega arith)
    by (call_line r e u w go) q = stands x (ap (λ l. across_by l x) q) a (omega arith)
    by (back_line r e u w) q = stands x (ap (λ l. across_by l x) q) a (omega arith)
    by (ret_line e u) q = stands x (ap (λ l. across_by l x) q) a (omega arith)
