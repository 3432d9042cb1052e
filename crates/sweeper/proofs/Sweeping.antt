-- What is known before a step of a sweep, and what striking the step comes to. Assumes a hardened table.
use mathlib.Core.Path.{◌≡◌, refl, sym, ap, ◌∙◌, subst}
use mathlib.Core.Bool.{Bool, true, false, not, ◌||◌}
use mathlib.Core.List.{List, []}
use Prim.Native.Nat.{ℕ, zero, suc, ◌+◌, ◌-◌, ◌≤◌}
use native.Mathlib.Nat.{add-zero, add-suc}
use native.Mathlib.Omega.{arith}
use lib.Dec.{ltb}
use lib.ListN.{length, take, drop}
use borrow.Author.Tests.{ltb-true, lt-ltb}
use Rattle.rules.specs.declared.ending.Counts.{Counts}
use Rattle.rules.specs.declared.step.Step.TheVariants.{Went}
use Rattle.rules.specs.Limits.{no_step}
use Rattle.rules.specs.Line.{lines_in}
use Rattle.rules.specs.ReadBack.{is_hardened_lem}
use Rattle.rules.specs.Sweep.{total, sum_counts, sweep_step, any_other}
use Rattle.rules.specs.Settled.{narrow_ending, StandsBefore, is_other_lem, SweepLaw}
use Rattle.rules.proofs.SweepSums.{any_to, other-positive}
use Rattle.rules.proofs.Form.Other.{other_at, total-bound}
use Rattle.rules.proofs.Sweep.{sweeps}
use Rattle.line.proofs.Decode.{length-lines}
use Rattle.state.specs.declared.machine.Machine.{Machine}
use Rattle.state.specs.declared.machine.Stopped.{Stopped}
use Rattle.state.specs.Machine.{machine_afresh}
use Rattle.state.proofs.Ends.{IsEnd}
use Rattle.machine.specs.Step.{Map}
use Rattle.machine.specs.Run.{parts_in, stopped_with, run_of}
use Rattle.machine.specs.Stands.{Ready, Going}
use Rattle.compare.specs.declared.narrow.Narrow.{Narrow}
use Rattle.compare.specs.Compared.{piece_steps, Standing}
use Rattle.compare.specs.Narrow.{NarrowIs}
use Rattle.compare.proofs.Begins.{from_there}
use Rattle.sweeper.specs.Steps.{InTable, places_of}
use Rattle.sweeper.proofs.Settling.{dos_in, first_is, last_is, beside-is, step_is}
use Rattle.sweeper.proofs.Walking as Walking
use Rattle.sweeper.specs.Finishes.{Finishes}
use Rattle.sweeper.specs.Walk.{form, unstruck, state_of, Walking, Before}

pub record Sweeping (bs : List ℕ) (mp : Map) (b : ℕ) (tr vs : List ℕ) (k left : ℕ) (m : Machine) (ws : List ℕ) (at : ℕ) : Type 0 where
  pub ready : Ready bs mp
  pub law : SweepLaw (form bs) (lines_in bs) vs b
  pub finishes : Finishes (lines_in bs) vs b tr
  pub few : b ≤ no_step
  pub walking : Walking bs vs b k left m ws at

-- ---- as a step is shown
pub shown : {bs : List ℕ} {mp : Map} {b : ℕ} {tr vs : List ℕ} {k : ℕ} {m : Machine} {known ws : List ℕ} → Ready bs mp → is_hardened_lem bs ≡ true → Finishes (lines_in bs) vs b tr → b ≤ 65535
    → (w : Before bs vs b tr k m known ws) → Sweeping bs mp b tr vs k (b - k) m ws w.at
shown {bs} {mp} {b} {tr} {vs} rd h f few w = record { ready = rd; law = sweeps bs vs b h; finishes = f; few = few; walking = w.walking }

-- what goes on where the answer is not to stop
pub not-false : (z : Bool) → not z ≡ false → z ≡ true
not-false true e = refl
not-false false e = absurd (cc)

-- what is known is the rest of the trace
pub rest_is : {bs : List ℕ} {b : ℕ} {tr vs : List ℕ} {k : ℕ} {m : Machine} {known ws : List ℕ} (w : Before bs vs b tr k m known ws) → known ≡ take (length tr - w.at) (drop w.at tr)
rest_is {tr = tr} w = w.known_is ∙ sym (from_there tr w.at)

pub as_rest : {bs : List ℕ} {b : ℕ} {tr vs : List ℕ} {k left : ℕ} {m : Machine} {known ws : List ℕ} (w : Before bs vs b tr k m known ws) → (r : Narrow) → NarrowIs (lines_in bs) m ws known left r
    → NarrowIs (lines_in bs) m ws (take (length tr - w.at) (drop w.at tr)) left r
as_rest {bs} {b} {tr} {vs} {k} {left} {m} {known} {ws} w r n = subst (λ x. NarrowIs (lines_in bs) m ws x left r) (rest_is w) n

-- what was other stays so, whatever comes later
more_other : (f : ℕ → Counts) (j d : ℕ) → any_other (sum_counts j f) ≡ true → any_other (sum_counts (j + d) f) ≡ true
unfolding sum_counts
more_other f j zero q = ap (λ i. any_other (sum_counts i f)) (add-zero j) ∙ q
more_other f j (suc d) q =
    ap (λ i. any_other (sum_counts i f)) (add-suc j d)
    ∙ lt-ltb 0 ((sum_counts (j + d) f).other + (f (j + d)).other) (omega (arith, ltb-true 0 (sum_counts (j + d) f).other (more_other f j d q)))

module _ {bs : List ℕ} {mp : Map} {b : ℕ} {tr vs : List ℕ} {k left : ℕ} {m : Machine} {ws : List ℕ} {at : ℕ} (w : Sweeping bs mp b tr vs k left m ws at) where
  pub standing : Standing (lines_in bs) m ws
  standing = Walking.standing bs vs b k left m ws at w.walking

  pub stands-before : StandsBefore (lines_in bs) m.registers.function m.registers.at
  stands-before = Walking.stands-before bs vs b k left m ws at w.walking w.law

  pub at_in : at ≤ length tr
  at_in = subst (λ x. at ≤ length x) (sym w.finishes.trace_is) (Walking.at_in bs vs b k left m ws at w.walking)

  narrow-is : (r : Narrow) → NarrowIs (lines_in bs) m ws (take (length tr - at) (drop at tr)) left r
      → r.ending ≡ narrow_ending (form bs) (lines_in bs) (unstruck bs vs b).state.trace b k (state_of bs vs k)
  narrow-is r n = Walking.narrow-is bs vs b k left m ws at w.walking tr w.finishes.trace_is (take (length tr - at) (drop at tr)) (from_there tr at) r n

  pub going-one : (rows : List ℕ) → length rows ≡ piece_steps → Going (lines_in bs) 1 (parts_in m ws rows)
  going-one rows long = Walking.going-one bs vs b k left m ws at w.walking rows long

  pub sweep-on : (rows : List ℕ) → length rows ≡ piece_steps → (x : Stopped) (ws' rows' : List ℕ) → stopped_with x ws' rows' ≡ run_of bs mp 1 (parts_in m ws rows) → (i : ℕ) → x.step ≡ Went i
      → (m' : Machine) → m' ≡ machine_afresh x.machine → Sweeping bs mp b tr vs (suc k) (left - 1) m' ws' (at + x.machine.registers.traced)
  sweep-on rows long x ws' rows' e i z m' q =
      record {
        ready = w.ready;
        law = w.law;
        finishes = w.finishes;
        few = w.few;
        walking = Walking.walk_on bs vs b k left m ws at w.walking mp w.ready rows long x ws' rows' e w.finishes.finished i z m' q;
      }

  pub walked_all : (rows : List ℕ) → length rows ≡ piece_steps → (x : Stopped) (ws' rows' : List ℕ) → stopped_with x ws' rows' ≡ run_of bs mp 1 (parts_in m ws rows) → IsEnd x.step → (unstruck bs vs b).steps ≡ suc k
  walked_all rows long x ws' rows' e h = Walking.walked_all bs vs b k left m ws at w.walking mp w.ready rows long x ws' rows' e h

  pub never_spent : {A : Type 0} → left ≤ 0 → A
  never_spent h = Walking.never_spent bs vs b k left m ws at w.walking h

  pub at_few : at ≤ 65535
  at_few = omega (arith, w.walking.few_rows, w.few, Walking.in_steps bs vs b k left m ws at w.walking)

  -- ---- the counts
  module _ (c : Counts) (ce : c ≡ sum_counts k (sweep_step (form bs) (lines_in bs) vs b)) where
    pub in_table : (r : Narrow) → NarrowIs (lines_in bs) m ws (take (length tr - at) (drop at tr)) left r → InTable bs mp.starts m.registers r.line c
    in_table r n =
        let st = w.walking.stood in
        let s = state_of bs vs k in
        let so = w.ready.sound in
        let fi = first_is bs mp w.ready k s m ws st in
        let la = last_is bs mp w.ready k s m ws st in
        let kn = (st.stands []).inside.known in
        let end = so.finish_in s.running.function kn in
        record {
          known = omega (arith, (st.stands []).function_is, kn, so.within.few_functions);
          beside = beside-is bs mp w.ready k s m ws st stands-before r.line n.line_is;
          few = omega (arith, la, end, so.within.few_lines);
          in_lines = omega (arith, la, end, length-lines bs);
          dos_in = dos_in bs so.within;
          room = omega (arith, ap total ce, total-bound (form bs) (lines_in bs) vs b so.within.few_lines k, w.few, Walking.in_steps bs vs b k left m ws at w.walking, la, end, so.within.few_lines);
        }

    pub counts_on : (r : Narrow) → NarrowIs (lines_in bs) m ws (take (length tr - at) (drop at tr)) left r → (d : Counts) → d ≡ places_of bs mp.starts m r.line r.ending left c
        → d ≡ sum_counts (suc k) (sweep_step (form bs) (lines_in bs) vs b)
    counts_on r n d e =
        step_is bs mp w.ready vs b w.law w.finishes.finished w.few k w.walking.going (Walking.in_steps bs vs b k left m ws at w.walking) m ws w.walking.stood r.line n.line_is r.ending (narrow-is r n) left w.walking.left_is c ce d e

  -- ---- whether any is other
  module _ (x : Bool) (xe : x ≡ any_other (sum_counts k (sweep_step (form bs) (lines_in bs) vs b))) (r : Narrow) (n : NarrowIs (lines_in bs) m ws (take (length tr - at) (drop at tr)) left r) (y : Bool) (ye : y ≡ is_other_lem r.ending) where
    abbrev counted : ℕ → Counts
    counted = sweep_step (form bs) (lines_in bs) vs b

    pub found_on : (z : Bool) → z ≡ x || y → z ≡ any_other (sum_counts (suc k) counted)
    unfolding any_to
    found_on z ze =
        ze ∙ ap (λ v. v || y) (xe ∙ other-positive k counted)
        ∙ ap (λ v. any_to k (λ j. ltb 0 (counted j).other) || v) (ye ∙ ap is_other_lem (narrow-is r n) ∙ sym (other_at (form bs) (lines_in bs) vs b w.law w.finishes.finished w.few k w.walking.going))
        ∙ sym (other-positive (suc k) counted)

    -- one is found: it counts, whatever comes later
    pub found_all : (z : Bool) → z ≡ x || y → z ≡ true → z ≡ any_other (sum_counts (unstruck bs vs b).steps counted)
    found_all z ze q =
        let n = (unstruck bs vs b).steps in
        q ∙ sym (ap (λ i. any_other (sum_counts i counted)) (let e : n ≡ suc k + (n - suc k) = omega (arith, w.walking.going) in e) ∙ more_other counted (suc k) (n - suc k) (sym (found_on z ze) ∙ q))
