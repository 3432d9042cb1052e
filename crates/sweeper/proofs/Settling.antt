-- What the code counts for each place of a step is how the run ends that is struck there. Assumes a hardened table and an unstruck run that
-- finishes.
use mathlib.Core.Path.{◌≡◌, refl, sym, ap, ◌∙◌, subst}
use mathlib.Core.Bool.{Bool, true, false, cond}
use mathlib.Core.List.{List, []}
use Prim.Native.Nat.{ℕ, zero, suc, ◌+◌, ◌-◌, ◌≤◌, ◌<◌}
use native.Mathlib.Nat.{add-zero}
use native.Mathlib.Numerals.{add-one}
use native.Mathlib.Omega.{arith}
use lib.Dec.{eqb, ltb}
use lib.ListN.{length, get_or}
use borrow.Author.Tests.{eq-eqb, ne_eqb, eqb-true, eqb-false, ltb-true, ltb-false, lt-ltb, le-ltb}
use Rattle.rules.specs.declared.ending.Ending.{Ending}
use Rattle.rules.specs.declared.ending.Ending.TheVariants.{Alarmed, Same, Unfinished}
use Rattle.rules.specs.declared.ending.Counts.{Counts}
use Rattle.rules.specs.Limits.{no_step}
use Rattle.rules.specs.Line.{Line, do_line, tick_line, test_line, leave_line, out_line, call_line, back_line, ret_line, line_at, is_guard, lines_in}
use Rattle.rules.specs.Function.{function_at, start_of, finish_of, last_place}
use Rattle.rules.specs.State.{depth}
use Rattle.rules.specs.Run.{outcome_of_lem}
use Rattle.rules.specs.Form.{Form}
use Rattle.rules.specs.Hardened.{Counters, Hardened, counter_form, place_line}
use Rattle.rules.specs.Variables.{overflows}
use Rattle.rules.specs.Demands.{alarm_step, overflows_by, overflows_at}
use Rattle.rules.specs.Bounds.{VariablesIn, Fits, Within}
use Rattle.rules.specs.RunPromise.{state_at}
use Rattle.rules.specs.Sweep.{counts, one, plus, sum_counts, unstruck_run, places_at, struck_ending, sweep_step}
use Rattle.rules.specs.Settled.{across_by, across, StandsBefore, narrow_ending, wide_ending, settled_ending, SweepLaw}
use Rattle.rules.proofs.SweepSums.{sum-counts-same}
use Rattle.rules.proofs.Form.Sweep.{caught-outcome}
use Rattle.line.specs.declared.Line as Declared
use Rattle.line.specs.declared.kind.LineKind.{LineKind}
use Rattle.line.specs.declared.kind.LineKind.TheVariants.{Do, Tick, Test, Leave, Out, Call, Back, Ret}
use Rattle.line.specs.Read.{line_kind_at, struct_at, as_line}
use Rattle.line.proofs.Decode.{line_is, length-lines}
use Rattle.state.specs.declared.machine.Machine.{Machine}
use Rattle.machine.specs.Step.{Map}
use Rattle.machine.specs.Stands.{Ready}
use Rattle.machine.proofs.Agree.{waiting-length}
use Rattle.places.specs.Places.{DosIn, Beside, late, wide_kind, wide_last, wide_of, ending_at, counted_to}
use Rattle.compare.specs.Compared.{Stood}
use Rattle.sweeper.specs.Steps.{first_of, last_of, places_of}

-- ---- sums
plus_assoc : (x y z : Counts) → plus (plus x y) z ≡ plus x (plus y z)
plus_assoc x y z =
    rw (three x.alarms y.alarms z.alarms, three x.same y.same z.same, three x.other y.other z.other, three x.unfinished y.unfinished z.unfinished)
  where
    three : (a b c : ℕ) → a + b + c ≡ a + (b + c)
    three a b c = omega arith

plus_none : (x : Counts) → x ≡ plus x (counts 0 0 0 0)
plus_none x = rw (add-zero x.alarms, add-zero x.same, add-zero x.other, add-zero x.unfinished)

counted-sum : (c : Counts) (n : ℕ) (f : ℕ → Ending) → counted_to c n f ≡ plus c (sum_counts n (λ p. one (f p)))
unfolding counted_to sum_counts
counted-sum c zero f = plus_none c
counted-sum c (suc n) f = ap (λ x. plus x (one (f n))) (counted-sum c n f) ∙ plus_assoc c (sum_counts n (λ p. one (f p))) (one (f n))

-- ---- the dos of a hardened table name variables that there are
pub dos_in : (bs : List ℕ) → Within (lines_in bs) → DosIn bs
dos_in bs w = record { each = λ k h e. each k (omega (arith, h, length-lines bs)) e }
  where
    each : (k : ℕ) → k < length (lines_in bs) → line_kind_at bs k ≡ Do → VariablesIn (struct_at bs k).operands
    each k l e =
        let f = function_at (lines_in bs) k in
        (subst (λ x. Fits (lines_in bs) f k (as_line x (struct_at bs k))) e (subst (Fits (lines_in bs) f k) (line_is bs k l) (w.each_fits k l))).0

-- ---- the place across a do is a neighbour
module _ (ls : List Line) (k : ℕ) where
  across-up : across ls k ≤ k + 1
  unfolding across
  across-up = by (line_at ls k)
    where
      by : (l : Line) → across_by l k ≤ k + 1
      by (do_line o e) = omega arith
      by (tick_line r e a) = omega arith
      by (test_line o r s t e a b c go) = omega arith
      by (leave_line r s e a b go) = omega arith
      by (out_line r s t e a go) = omega arith
      by (call_line r e a b go) = omega arith
      by (back_line r e a b) = omega arith
      by (ret_line e a) = omega arith

  across-down : k ≤ across ls k + 1
  unfolding across
  across-down = by (line_at ls k)
    where
      by : (l : Line) → k ≤ across_by l k + 1
      by (do_line o e) = omega arith
      by (tick_line r e a) = omega arith
      by (test_line o r s t e a b c go) = omega arith
      by (leave_line r s e a b go) = omega arith
      by (out_line r s t e a go) = omega arith
      by (call_line r e a b go) = omega arith
      by (back_line r e a b) = omega arith
      by (ret_line e a) = omega arith

-- ---- what a wide jump comes to with the budget b, where it ends with 5 or an alarm in step n
abbrev told : (overflow : Bool) → (n b : ℕ) → Ending
told x n b = cond (eqb (cond x 5 (cond (ltb n b) 2 0)) 2) Alarmed Unfinished

module _ (b k left : ℕ) (h : k < b) (e : left ≡ b - k) where
  at_once : Alarmed ≡ told false k b
  at_once = rw (lt-ltb k b h)

  one_later : late left ≡ told false (suc k) b
  one_later = by (ltb 1 left) refl
    where
      by : (v : Bool) → ltb 1 left ≡ v → cond v Alarmed Unfinished ≡ told false (suc k) b
      by true q = rw (lt-ltb (suc k) b (omega (arith, ltb-true 1 left q)))
      by false q = rw (le-ltb (suc k) b (omega (arith, ltb-false 1 left q)))

  -- before a line of each kind
  kind_is : (kd : LineKind) (l : Declared.Line) (s : Hardened) → wide_kind kd l.operands s.vars left ≡ told (overflows_by (as_line kd l) s) (cond (is_guard (as_line kd l)) k (suc k)) b
  kind_is Do l s = by (overflows l.operands s.vars)
    where
      by : (v : Bool) → cond v Unfinished (late left) ≡ told v (suc k) b
      by true = refl
      by false = one_later
  kind_is Tick l s = at_once
  kind_is Test l s = at_once
  kind_is Leave l s = at_once
  kind_is Out l s = at_once
  kind_is Call l s = at_once
  kind_is Back l s = at_once
  kind_is Ret l s = at_once

module _ (bs : List ℕ) (mp : Map) (rd : Ready bs mp) (k : ℕ) (s : Hardened) (m : Machine) (ws : List ℕ) (st : Stood (lines_in bs) m ws s) where
  abbrev ls : List Line
  ls = lines_in bs

  abbrev f : ℕ
  f = s.running.function

  abbrev first : ℕ
  first = first_of mp.starts m.registers

  abbrev last : ℕ
  last = last_of mp.starts m.registers

  known : f < function_at ls (length ls)
  known = (st.stands []).inside.known

  pub first_is : first ≡ start_of ls f
  first_is = ap (λ n. get_or mp.starts n 0) (st.stands []).function_is ∙ rd.mapped.located.start_is f (omega (arith, known))

  pub last_is : last ≡ finish_of ls f
  last_is = ap (λ n. get_or mp.starts (n + 1) 0) (st.stands []).function_is ∙ ap (λ n. get_or mp.starts n 0) (add-one f) ∙ rd.mapped.located.start_is (suc f) known

  ordered : start_of ls f ≤ finish_of ls f
  ordered = rd.sound.ordered f known

  -- where the run stands and the place across a do, as numbers of the code
  pub beside-is : StandsBefore ls m.registers.function m.registers.at → (x : ℕ) → x ≡ across ls m.registers.at → Beside first last m.registers.at x
  beside-is sb x e =
      let q = (st.stands []).function_is in
      rw e
      (record {
        at_from = omega (arith, first_is, ap (start_of ls) q, sb.not_before);
        at_before = omega (arith, last_is, ap (finish_of ls) q, sb.before_end);
        across_from = omega (arith, first_is, ap (start_of ls) q, sb.across_from);
        across_before = omega (arith, last_is, ap (finish_of ls) q, sb.across_before);
        up = across-up ls m.registers.at;
        down = across-down ls m.registers.at;
      })

  depth_is : depth s ≡ suc m.registers.depth
  depth_is = ap suc (waiting-length ls _ _ _ _ _ (st.stands []).waiting)

  module _ (p : ℕ) (pl : p ≤ last_place ls f) where
    abbrev y : ℕ
    y = first + p

    line-here : y ≡ place_line ls p s
    line-here = ap (λ n. n + p) first_is

    module _ (b left : ℕ) (h : k < b) (e : left ≡ b - k) where
      -- at place m
      at_last : wide_last m.registers.depth left ≡ told false (cond (eqb (depth s) 1) k (suc k)) b
      at_last = by (ltb 0 m.registers.depth) refl ∙ ap (λ n. told false (cond (eqb n 1) k (suc k)) b) (sym depth_is)
        where
          by : (v : Bool) → ltb 0 m.registers.depth ≡ v → cond v (late left) Alarmed ≡ told false (cond (eqb (suc m.registers.depth) 1) k (suc k)) b
          by true q = one_later b k left h e ∙ rw (ne_eqb (suc m.registers.depth) 1 (λ z. omega (arith, ltb-true 0 m.registers.depth q)))
          by false q = at_once b k left h e ∙ rw (eq-eqb (suc m.registers.depth) 1 (omega (arith, ltb-false 0 m.registers.depth q)))

      -- before a line
      at-line : p < last_place ls f
          → wide_kind (line_kind_at bs y) (struct_at bs y).operands m.variables left ≡ told (overflows_by (line_at ls (place_line ls p s)) s) (cond (is_guard (line_at ls (place_line ls p s))) k (suc k)) b
      at-line l =
          ap (λ v. wide_kind (line_kind_at bs y) (struct_at bs y).operands v left) (st.stands []).vars_are
          ∙ kind_is b k left h e (line_kind_at bs y) (struct_at bs y) s
          ∙ ap (λ x. told (overflows_by x s) (cond (is_guard x) k (suc k)) b)
          (sym (line_is bs y (omega (arith, first_is, rd.sound.finish_in f known, ordered))) ∙ ap (line_at ls) line-here)

      by_place : (v : Bool) → eqb p (last_place ls f) ≡ v
          → wide_of bs y last m.registers.depth m.variables left
          ≡ told (cond v false (overflows_by (line_at ls (place_line ls p s)) s)) (cond v (cond (eqb (depth s) 1) k (suc k)) (cond (is_guard (line_at ls (place_line ls p s))) k (suc k))) b
      by_place true q = rw (eq-eqb y last (omega (arith, eqb-true p (last_place ls f) q, first_is, last_is, ordered))) at_last
      by_place false q =
          let n : p < last_place ls f = ne-below (eqb-false p (last_place ls f) q) in
          rw (ne_eqb y last (λ z. omega (arith, n, first_is, last_is, ordered))) (at-line n)
        where
          ne-below : (p ≡ last_place ls f → ⊥) → p < last_place ls f
          ne-below g = by-lt (ltb p (last_place ls f)) refl
            where
              by-lt : (v : Bool) → ltb p (last_place ls f) ≡ v → p < last_place ls f
              by-lt true z = ltb-true p (last_place ls f) z
              by-lt false z = absurd (g (omega (arith, ltb-false p (last_place ls f) z)))

      wide_is : wide_of bs y last m.registers.depth m.variables left ≡ wide_ending ls b k p s
      unfolding wide_ending alarm_step overflows_at
      wide_is = by_place (eqb p (last_place ls f)) refl ∙ sym (ap (λ o. cond (eqb o 2) Alarmed Unfinished) (caught-outcome ls b k p s))

-- ---- all places of a step
module _ (bs : List ℕ) (mp : Map) (rd : Ready bs mp) (vs : List ℕ) (b : ℕ) (law : SweepLaw (counter_form (lines_in bs)) (lines_in bs) vs b) (fin : outcome_of_lem (unstruck_run (counter_form (lines_in bs)) (lines_in bs) vs b).step ≡ 1) (few : b ≤ no_step) (k : ℕ) (l : k < (unstruck_run (counter_form (lines_in bs)) (lines_in bs) vs b).steps) (kb : k < b) (m : Machine) (ws : List ℕ) (st : Stood (lines_in bs) m ws (state_at (counter_form (lines_in bs)) (lines_in bs) vs k)) where
  abbrev F : Form Counters
  F = counter_form (lines_in bs)

  abbrev here : Hardened
  here = state_at F (lines_in bs) vs k

  abbrev trace : List ℕ
  trace = (unstruck_run F (lines_in bs) vs b).state.trace

  pub place_is : (x : ℕ) → x ≡ across (lines_in bs) m.registers.at → (e : Ending) → e ≡ narrow_ending F (lines_in bs) trace b k here → (left : ℕ) → left ≡ b - k → (p : ℕ) → p < places_at F (lines_in bs) vs k
      → ending_at bs (last_of mp.starts m.registers) m.registers.at x m.registers.depth m.variables e left (first_of mp.starts m.registers + p) ≡ struck_ending F (lines_in bs) vs b k p
  unfolding settled_ending
  place_is x xe e ee left le p pl =
      let y = first_of mp.starts m.registers + p in
      let at_is = (st.stands []).at_is in
      ap (λ n. cond (eqb n m.registers.at) Same (cond (eqb n x) e (wide_of bs y (last_of mp.starts m.registers) m.registers.depth m.variables left))) (line-here bs mp rd k here m ws st p (omega arith))
      ∙ ap (λ n. cond (eqb (place_line (lines_in bs) p here) n) Same (cond (eqb (place_line (lines_in bs) p here) x) e (wide_of bs y (last_of mp.starts m.registers) m.registers.depth m.variables left))) at_is
      ∙ ap (λ n. cond (eqb (place_line (lines_in bs) p here) here.running.at) Same (cond (eqb (place_line (lines_in bs) p here) n) e (wide_of bs y (last_of mp.starts m.registers) m.registers.depth m.variables left))) (xe ∙ ap (across (lines_in bs)) at_is)
      ∙ ap (λ n. cond (eqb (place_line (lines_in bs) p here) here.running.at) Same (cond (eqb (place_line (lines_in bs) p here) (across (lines_in bs) here.running.at)) n (wide_of bs y (last_of mp.starts m.registers) m.registers.depth m.variables left))) ee
      ∙ ap (λ n. cond (eqb (place_line (lines_in bs) p here) here.running.at) Same (cond (eqb (place_line (lines_in bs) p here) (across (lines_in bs) here.running.at)) (narrow_ending F (lines_in bs) trace b k here) n)) (wide_is bs mp rd k here m ws st p (omega arith) b left kb le)
      ∙ sym (law.settled fin few k l p pl)

  pub step_is : (x : ℕ) → x ≡ across (lines_in bs) m.registers.at → (e : Ending) → e ≡ narrow_ending F (lines_in bs) trace b k here → (left : ℕ) → left ≡ b - k
      → (c : Counts) → c ≡ sum_counts k (sweep_step F (lines_in bs) vs b) → (d : Counts) → d ≡ places_of bs mp.starts m x e left c → d ≡ sum_counts (suc k) (sweep_step F (lines_in bs) vs b)
  unfolding sum_counts sweep_step
  step_is x xe e ee left le c ce d de =
      let g : ℕ → Ending = λ p. ending_at bs (last_of mp.starts m.registers) m.registers.at x m.registers.depth m.variables e left (first_of mp.starts m.registers + p) in
      de ∙ ap (λ n. counted_to c n g) many ∙ counted-sum c (places_at F (lines_in bs) vs k) g
      ∙ ap (plus c) (sum-counts-same (places_at F (lines_in bs) vs k) (λ p. one (g p)) (λ p. one (struck_ending F (lines_in bs) vs b k p)) (λ p pl. ap one (place_is x xe e ee left le p pl)))
      ∙ ap (λ z. plus z (sum_counts (places_at F (lines_in bs) vs k) (λ p. one (struck_ending F (lines_in bs) vs b k p)))) ce
    where
      many : last_of mp.starts m.registers - first_of mp.starts m.registers + 1 ≡ places_at F (lines_in bs) vs k
      many = ap (λ n. n - first_of mp.starts m.registers + 1) (last_is bs mp rd k here m ws st) ∙ ap (λ n. finish_of (lines_in bs) here.running.function - n + 1) (first_is bs mp rd k here m ws st) ∙ add-one _
