-- What each turn of the loop that lists a hardened run may count on, and what it keeps. Assumes a hardened table.
use mathlib.Core.Path.{◌≡◌, refl, sym, ap, ◌∙◌, subst}
use mathlib.Core.Bool.{Bool, true, false, cond}
use mathlib.Core.List.{List}
use Prim.Native.Nat.{ℕ, zero, suc, ◌+◌, ◌-◌, ◌≤◌, ◌<◌}
use native.Mathlib.Omega.{arith}
use borrow.Author.Tests.{ne_eqb}
use lib.Dec.{eqb}
use lib.ListN.{length, get_or}
use Rattle.rules.specs.Strike.{Strike, None, Jump}
use Rattle.rules.specs.declared.step.Step.TheVariants.{Went}
use Rattle.rules.specs.Line.{lines_in}
use Rattle.machine.specs.Step.{Map, Parts, After}
use Rattle.machine.specs.Run.{run_of}
use Rattle.machine.specs.Stands.{Ready, Going}
use Rattle.state.specs.Machine.{onward}
use Rattle.state.proofs.Ends.{IsEnd, onward-end}
use Rattle.strike.specs.Struck.{land_of, struck_of}
use Rattle.machine.proofs.Runs.{run_none, going_steps}
use Rattle.strike.proofs.Jumps.{going-fewer, jump-none}
use Rattle.strike.proofs.Singly.{struck-none, struck-now, struck-later, going-rest, going-landed}
use Rattle.show.specs.Due.{is_due_lem, place_of, later, left_after_lem, turn_of}
use Rattle.show.specs.Listed.{Placed}

-- ---- a step is listed where one can be made
module _ (bs : List ℕ) (m : Map) (rd : Ready bs m) (left : ℕ) (p : Parts) (g : Going (lines_in bs) left p) (h : 0 < left) where
  pub placed : Placed bs m.starts p.registers p.words
  placed =
      let can = going_steps bs m rd left p g h in
      let st = g.stands in
      let first = ap (λ n. get_or m.starts n 0) st.function_is ∙ rd.mapped.located.start_is g.state.running.function (omega (arith, st.inside.known)) in
      record {
        known = can.known;
        not_before = omega (arith, first, st.at_is, st.inside.not_before);
        has_room = can.has_room;
        here = can.here;
      }

-- ---- a turn
-- a run is its next turn, and what is left of it from there
turn-first : (bs : List ℕ) (m : Map) (left : ℕ) (j : Strike) (p : Parts) → 0 < left
    → struck_of bs m left j p ≡ onward (turn_of bs m j p).step (λ k. struck_of bs m (left_after_lem left j) (later j) (turn_of bs m j p).parts) (turn_of bs m j p)
turn-first bs m left None p h = struck-none bs m left p h
turn-first bs m left (Jump zero place) p h = struck-now bs m left p h place
turn-first bs m left (Jump (suc k) place) p h =
    let no : eqb (suc k) 0 ≡ false = ne_eqb (suc k) 0 (omega arith) in
    let less : suc k - 1 ≡ k = omega arith in
    rw (no, less) (struck-later bs m left p h k place)

turn-goes : (bs : List ℕ) (m : Map) (left : ℕ) (j : Strike) (p : Parts) → 0 < left → Ready bs m → Going (lines_in bs) left p → (k : ℕ) → (turn_of bs m j p).step ≡ Went k
    → Going (lines_in bs) (left_after_lem left j) (turn_of bs m j p).parts
turn-goes bs m left j p h rd g k z = by (is_due_lem j) refl z
  where
    by : (b : Bool) → is_due_lem j ≡ b → (cond b (land_of bs m 0 (place_of j) p) (run_of bs m 1 p)).step ≡ Went k
        → Going (lines_in bs) (cond b left (left - 1)) (cond b (land_of bs m 0 (place_of j) p) (run_of bs m 1 p)).parts
    by true q e = going-landed bs m left (place_of j) p rd g k e
    by false q e = going-rest bs m left p h rd g k e

-- the jump that is still to come is one turn more than the steps
abbrev pub turns_in : Strike → ℕ
turns_in None = 0
turns_in (Jump k place) = 1

fewer-by : (left : ℕ) (j : Strike) → 0 < left → left_after_lem left j + turns_in (later j) < left + turns_in j
fewer-by left None h = omega arith
fewer-by left (Jump zero place) h = omega arith
fewer-by left (Jump (suc k) place) h =
    let no : eqb (suc k) 0 ≡ false = ne_eqb (suc k) 0 (omega arith) in
    rw no (omega arith)

pub fewer-turns : (left left' : ℕ) (j j' : Strike) → left' ≡ left_after_lem left j → j' ≡ later j → 0 < left → left' + turns_in j' < left + turns_in j
fewer-turns left left' j j' l s h =
    subst (λ n. n + turns_in j' < left + turns_in j) (sym l) (subst (λ x. left_after_lem left j + turns_in x < left + turns_in j) (sym s) (fewer-by left j h))

-- ---- what the loop keeps
pub record Walking (bs : List ℕ) (m : Map) (budget : ℕ) (strike : Strike) (start : Parts) (left : ℕ) (rest : Strike) (p : Parts) : Type 0 where
  pub going : Going (lines_in bs) left p
  pub same : struck_of bs m budget strike start ≡ struck_of bs m left rest p
  pub words_long : length p.words ≡ length start.words
  pub slots_long : length p.slots ≡ length start.slots

pub walk-starts : {bs : List ℕ} {m : Map} {budget : ℕ} {strike : Strike} {start : Parts} → Going (lines_in bs) budget start → Walking bs m budget strike start budget strike start
walk-starts g = record { going = g; same = refl; words_long = refl; slots_long = refl }

module _ {bs : List ℕ} {m : Map} {budget : ℕ} {strike : Strike} {start : Parts} {left : ℕ} {rest : Strike} {p : Parts} (r : Walking bs m budget strike start left rest p) where
  pub going-one : 0 < left → Going (lines_in bs) 1 p
  going-one h = going-fewer (lines_in bs) left 1 p r.going (omega arith)

  pub walk-spent : left ≤ 0 → record { step = Went p.registers.at; parts = p } ≡ struck_of bs m budget strike start
  unfolding struck_of
  walk-spent h = run_none bs m left p h ∙ by rest ∙ sym r.same
    where
      by : (j : Strike) → run_of bs m left p ≡ struck_of bs m left j p
      by None = refl
      by (Jump k place) = jump-none bs m left k place p (omega arith)

  module _ (h : 0 < left) (a : After) (e : a ≡ turn_of bs m rest p) where
    next : struck_of bs m budget strike start ≡ onward a.step (λ k. struck_of bs m (left_after_lem left rest) (later rest) a.parts) a
    next =
        r.same ∙ turn-first bs m left rest p h
        ∙ ap (λ x. onward x.step (λ k. struck_of bs m (left_after_lem left rest) (later rest) x.parts) x) (sym e)

    pub walks_over : IsEnd a.step → a ≡ struck_of bs m budget strike start
    walks_over n = sym (next ∙ onward-end a.step n (λ k. struck_of bs m (left_after_lem left rest) (later rest) a.parts) a)

    pub walks_on : Ready bs m → (k : ℕ) → a.step ≡ Went k → length a.parts.words ≡ length p.words → length a.parts.slots ≡ length p.slots
        → (left' : ℕ) → left' ≡ left_after_lem left rest → (rest' : Strike) → rest' ≡ later rest
        → Walking bs m budget strike start left' rest' a.parts
    walks_on rd k z w t left' l rest' s =
        subst (λ n. Walking bs m budget strike start n rest' a.parts) (sym l)
        (subst (λ j. Walking bs m budget strike start (left_after_lem left rest) j a.parts) (sym s)
        (record {
          going = subst (λ x. Going (lines_in bs) (left_after_lem left rest) x.parts) (sym e) (turn-goes bs m left rest p h rd r.going k (ap (λ x. x.step) (sym e) ∙ z));
          same = next ∙ ap (λ o. onward o (λ j. struck_of bs m (left_after_lem left rest) (later rest) a.parts) a) z;
          words_long = w ∙ r.words_long;
          slots_long = t ∙ r.slots_long;
        }))
