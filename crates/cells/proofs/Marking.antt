-- What each step of the walk adds to a column. Assumes nothing.
use mathlib.Core.Path.{◌≡◌, refl, sym, ap, ◌∙◌, subst}
use mathlib.Core.Bool.{Bool, true, false, cond, ◌&&◌}
use mathlib.Core.List.{List, [], ◌∷◌}
use Prim.Native.Nat.{ℕ, suc, ◌+◌, ◌-◌, ◌<◌}
use native.Mathlib.Omega.{arith}
use lib.Dec.{eqb}
use lib.ListN.{length, get_or, set, take, drop, replicate, length-set, length-replicate, get_or-replicate}
use lib.Seq.{get_or-set_same, get_or-set_other}
use borrow.Author.Tests.{eq-eqb, ne_eqb, eqb-true, eqb-false}
use Rattle.rules.specs.Limits.{max_lines}
use Rattle.rules.specs.Line.{lines_in}
use Rattle.rules.specs.Function.{finish_of, last_place}
use Rattle.rules.specs.Settled.{across}
use Rattle.rules.specs.Sweep.{struck_ending}
use Rattle.state.specs.declared.machine.Machine.{Machine}
use Rattle.machine.specs.Step.{Map}
use Rattle.compare.specs.Compared.{ends_at}
use Rattle.compare.proofs.Begins.{from_there}
use Rattle.sweeper.proofs.Settling.{place_is}
use Rattle.sweeper.proofs.Walking as Walking
use Rattle.sweeper.specs.Walk.{form, unstruck, state_of}
use Rattle.sweeper.proofs.Sweeping.{Sweeping, stands-before}
use Rattle.cells.specs.declared.rank.Rank.{Rank}
use Rattle.cells.specs.declared.rank.Rank.TheVariants.{Never, Alarmed, Same, Unfinished, Other}
use Rattle.cells.specs.Worst.{rank, worse, strike_rank, worst_to, ColumnIs}
use Rattle.cells.specs.Struck.{PlaceOf, ends_there_lem, StruckIs, Marked}

-- a strike that never was makes nothing worse
worse-never : (x : Rank) → worse x Never ≡ x
worse-never Never = refl
worse-never Alarmed = refl
worse-never Same = refl
worse-never Unfinished = refl
worse-never Other = refl

module _ {bs : List ℕ} {mp : Map} {b : ℕ} {tr vs : List ℕ} {k left : ℕ} {m : Machine} {ws : List ℕ} {at : ℕ} (w : Sweeping bs mp b tr vs k left m ws at) (f p : ℕ) (pl : PlaceOf (lines_in bs) f p) where
  abbrev known : List ℕ
  known = take (length tr - at) (drop at tr)

  -- the strike is told as the sweep's definition has it, where the function runs
  ends_there : (s-f : (state_of bs vs k).running.function ≡ f) → ends_there_lem bs mp.starts m known left (get_or mp.starts m.registers.function 0 + p) (state_of bs vs k) ≡ struck_ending (form bs) (lines_in bs) vs b k p
  ends_there s-f =
      let x = across (lines_in bs) m.registers.at in
      let wk = w.walking in
      place_is bs mp w.ready vs b w.law w.finishes.finished w.few k wk.going (Walking.in_steps bs vs b k left m ws at wk) m ws wk.stood
      x refl (ends_at (lines_in bs) known left x (state_of bs vs k)) (Walking.ends_is bs vs b k left m ws at wk tr w.finishes.trace_is known (from_there tr at)) left wk.left_is
      p (omega (arith, pl.place_in, ap (last_place (lines_in bs)) s-f))

  module _ (r : Rank) (si : StruckIs bs mp.starts m ws known left f p r) where
    function_is : m.registers.function ≡ (state_of bs vs k).running.function
    function_is = (w.walking.stood.stands []).function_is

    at_is : m.registers.at ≡ (state_of bs vs k).running.at
    at_is = (w.walking.stood.stands []).at_is

    rank_is : r ≡ cond (eqb (state_of bs vs k).running.function f) (rank (struck_ending (form bs) (lines_in bs) vs b k p)) Never
    rank_is = si.is (state_of bs vs k) w.walking.stood ∙ by (eqb (state_of bs vs k).running.function f) refl
      where
        by : (v : Bool) → eqb (state_of bs vs k).running.function f ≡ v
            → cond (eqb m.registers.function f) (rank (ends_there_lem bs mp.starts m known left (get_or mp.starts m.registers.function 0 + p) (state_of bs vs k))) Never
            ≡ cond v (rank (struck_ending (form bs) (lines_in bs) vs b k p)) Never
        by true q =
            let z = eqb-true (state_of bs vs k).running.function f q in
            rw (eq-eqb m.registers.function f (function_is ∙ z)) (ap rank (ends_there z))
        by false q = rw (ne_eqb m.registers.function f (λ z. eqb-false (state_of bs vs k).running.function f q (sym function_is ∙ z))) refl

    -- what the step adds to the cell of line y
    here : strike_rank (form bs) (lines_in bs) vs b f m.registers.at p k ≡ r
    unfolding strike_rank
    here = rw (eq-eqb (state_of bs vs k).running.at m.registers.at (sym at_is)) (both (eqb (state_of bs vs k).running.function f) ∙ sym rank_is)
      where
        both : (v : Bool) → cond (v && true) (rank (struck_ending (form bs) (lines_in bs) vs b k p)) Never ≡ cond v (rank (struck_ending (form bs) (lines_in bs) vs b k p)) Never
        both true = refl
        both false = refl

    elsewhere : (y : ℕ) → (y ≡ m.registers.at → ⊥) → strike_rank (form bs) (lines_in bs) vs b f y p k ≡ Never
    unfolding strike_rank
    elsewhere y ne = rw (ne_eqb (state_of bs vs k).running.at y (λ z. ne (sym z ∙ sym at_is))) (both (eqb (state_of bs vs k).running.function f))
      where
        both : (v : Bool) → cond (v && false) (rank (struck_ending (form bs) (lines_in bs) vs b k p)) Never ≡ Never
        both true = refl
        both false = refl

    pub marked : (column : List Rank) → length column ≡ max_lines → ((y : ℕ) → y < max_lines → get_or column y Never ≡ worst_to k (strike_rank (form bs) (lines_in bs) vs b f y p))
        → m.registers.at < max_lines → (x : Rank) → x ≡ worse (get_or column m.registers.at Never) r
        → (y : ℕ) → y < max_lines → get_or (set column m.registers.at x) y Never ≡ worst_to (suc k) (strike_rank (form bs) (lines_in bs) vs b f y p)
    unfolding worst_to
    marked column long was l x xe y yl = by (eqb y m.registers.at) refl
      where
        by : (v : Bool) → eqb y m.registers.at ≡ v → get_or (set column m.registers.at x) y Never ≡ worse (worst_to k (strike_rank (form bs) (lines_in bs) vs b f y p)) (strike_rank (form bs) (lines_in bs) vs b f y p k)
        by true q =
            let e = eqb-true y m.registers.at q in
            rw e (get_or-set_same column m.registers.at x Never (omega (arith, l, long)) ∙ xe ∙ ap (λ c. worse c r) (was m.registers.at l) ∙ ap (worse (worst_to k (strike_rank (form bs) (lines_in bs) vs b f m.registers.at p))) (sym here))
        by false q =
            let e = eqb-false y m.registers.at q in
            get_or-set_other column m.registers.at y x Never e ∙ was y yl ∙ sym (ap (worse (worst_to k (strike_rank (form bs) (lines_in bs) vs b f y p))) (elsewhere y e) ∙ worse-never (worst_to k (strike_rank (form bs) (lines_in bs) vs b f y p)))

-- ---- the start
pub mark-starts : (bs vs : List ℕ) (b f p : ℕ) → PlaceOf (lines_in bs) f p → Marked (lines_in bs) vs b 0 f p (replicate max_lines Never)
unfolding worst_to
mark-starts bs vs b f p pl = record { place = pl; long = length-replicate max_lines Never; each = λ y l. get_or-replicate max_lines y Never Never l }

-- ---- one step more
module _ {bs : List ℕ} {mp : Map} {b : ℕ} {tr vs : List ℕ} {k left : ℕ} {m : Machine} {ws : List ℕ} {at : ℕ} (w : Sweeping bs mp b tr vs k left m ws at) where
  -- the line where the run stands is one of the table
  pub stands-in : m.registers.at < max_lines
  stands-in =
      let st = w.walking.stood in
      let so = w.ready.sound in
      omega (arith, (stands-before w).before_end, ap (finish_of (lines_in bs)) (st.stands []).function_is, so.finish_in (state_of bs vs k).running.function (st.stands []).inside.known, so.within.few_lines)

  pub mark_on : {f p : ℕ} {column : List Rank} → Marked (lines_in bs) vs b k f p column → {known : List ℕ} → known ≡ take (length tr - at) (drop at tr) → (r : Rank) → StruckIs bs mp.starts m ws known left f p r
      → (x : Rank) → x ≡ worse (get_or column m.registers.at Never) r → Marked (lines_in bs) vs b (suc k) f p (set column m.registers.at x)
  mark_on {f} {p} {column} d q r si x xe =
      record {
        place = d.place;
        long = length-set column m.registers.at x ∙ d.long;
        each = marked w f p d.place r (subst (λ y. StruckIs bs mp.starts m ws y left f p r) q si) column d.long d.each stands-in x xe;
      }

-- ---- all of them
pub column-is : (bs vs : List ℕ) (b f' p' : ℕ) (column : List Rank) → Marked (lines_in bs) vs b (unstruck bs vs b).steps f' p' column → (f p : ℕ) → ◌≡◌ {A = List ℕ} (f' ∷ p' ∷ []) (f ∷ p ∷ []) → ColumnIs (lines_in bs) vs b f p column
column-is bs vs b f' p' column d f p e =
    let q : f' ≡ f = cc in
    let z : p' ≡ p = cc in
    subst (λ y. ColumnIs (lines_in bs) vs b y p column) q (subst (λ y. ColumnIs (lines_in bs) vs b f' y column) z (record { long = d.long; each = d.each }))
