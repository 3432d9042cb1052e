-- What each function that takes a row answers, as laws: one for each of its returns. Assumes nothing.
use mathlib.Core.Logic.{◌⊎◌, inl, inr}
use mathlib.Core.Path.{◌≡◌, refl, sym, ap, ◌∙◌}
use mathlib.Core.Bool.{Bool, true, false, cond, not, ◌||◌}
use mathlib.Core.List.{List, [], ◌∷◌}
use Prim.Native.Nat.{ℕ, suc, ◌+◌, ◌-◌, ◌≤◌, ◌<◌}
use native.Mathlib.Omega.{arith}
use lib.Dec.{eqb}
use lib.ListN.{length, get_or, set, length-set}
use borrow.Author.Tests.{le-leb, lt-leb, eq-eqb, ne_eqb}
use Rattle.rules.specs.declared.kind.Kind.{Kind}
use Rattle.rules.specs.declared.kind.Kind.TheVariants.{Function, Do, If, Else, Loop, End, Break, Continue, Call, Unknown}
use Rattle.rules.specs.declared.refusal.Refusal.TheVariants.{WrongField, Misplaced, TooManyFunctions, TooManyParts}
use Rattle.rules.specs.Limits.{max_functions}
use Rattle.rules.specs.Row.{table_of}
use Rattle.rules.specs.Scan.{Part, then_part, loop_body, Open, pushes, turns, closes, stays, part_of, from_loop, regions, open_at, is_function_lem, functions}
use Rattle.rules.specs.Check.{is_outside, is_then, misplaced_in, one_too_many, all_constructs, all_regions}
use Rattle.walk.proofs.Verdicts.{row-misplaced, row-functions}
use Rattle.table.proofs.Functions.{next-function}
use Rattle.scan.specs.declared.open.Standing.{Standing}
use Rattle.scan.specs.Next.{Next, Faulty, On}
use Rattle.scan.specs.Standing.{part_byte, Parts, Sane, loop_bytes, loops_without_lem}
use Rattle.scan.specs.Next.{NextOk, Plain, by_do, by_call, PlainOk, Jump, by_break, by_continue, JumpOk, Enters, by_if, by_loop, EnterOk}
use Rattle.scan.proofs.Limits.{or-true, few_parts, few_regions, many-regions, many-constructs}
use Rattle.scan.proofs.Parts.{bytes-none, bytes_low, bytes-push, bytes-turn, bytes-close, loop-counted, loops-in, outside, inside, none_then, not-then, is-then, begin-parts, enter-parts, turn-parts, close_parts}
use Rattle.scan.proofs.Rows.{read, wrong_row, Does, row_on, row_out, row-over, row-does}

no-many : ℕ → List Open → Bool
no-many g fs = false

-- ---- a row that opens and closes nothing
no_loop : List Open → Bool
no_loop fs = is_outside (from_loop fs)

plain-does : {k : Kind} → Plain k → Does k stays is_outside no-many
unfolding misplaced_in one_too_many no-many
plain-does (by_do q) = rw q (record { known = refl; plain = refl; shaped = refl; placed = λ fs. refl; filled = λ g fs. refl })
plain-does (by_call q) = rw q (record { known = refl; plain = refl; shaped = refl; placed = λ fs. refl; filled = λ g fs. refl })

jump-does : {k : Kind} → Jump k → Does k stays no_loop no-many
unfolding misplaced_in one_too_many no-many no_loop
jump-does (by_break q) = rw q (record { known = refl; plain = refl; shaped = refl; placed = λ fs. refl; filled = λ g fs. refl })
jump-does (by_continue q) = rw q (record { known = refl; plain = refl; shaped = refl; placed = λ fs. refl; filled = λ g fs. refl })

module _ {s : Standing} where
  pub plain_out : s.depth ≡ 0 → PlainOk s (Faulty Misplaced)
  plain_out z = record { for_all = λ k ps p v. record { sane = tt; leads = λ bs i a w. row_out (plain-does p) a (outside _ w.parts z) } }

  pub plain-on : (s.depth ≡ 0 → ⊥) → PlainOk s (On s)
  unfolding no-many
  plain-on n = record { for_all = λ k ps p v. record { sane = v; leads = λ bs i a w. row-does (plain-does p) a w (inside _ w.parts n) refl refl w.parts } }

  loops_is : {ps fs : List _} {g : ℕ} → Sane s ps → Parts fs g s ps → no_loop fs ≡ eqb s.loops 0
  unfolding no_loop
  loops_is {ps} {fs} v w = loops-in ps fs w.spelt ∙ ap (λ d. eqb (loop_bytes ps d) 0) w.depth_is ∙ ap (λ l. eqb l 0) v.loops_are

  pub jump_out : s.loops ≡ 0 → JumpOk s (Faulty Misplaced)
  jump_out z = record {
    for_all = λ k ps p v. record {
      sane = tt;
      leads = λ bs i a w. row_out (jump-does p) a (loops_is v w.parts ∙ eq-eqb s.loops 0 z);
    };
  }

  pub jump-on : (s.loops ≡ 0 → ⊥) → JumpOk s (On s)
  unfolding no-many
  jump-on n = record {
    for_all = λ k ps p v. record {
      sane = v;
      leads = λ bs i a w. row-does (jump-does p) a w (loops_is v w.parts ∙ ne_eqb s.loops 0 n) refl refl w.parts;
    };
  }

-- ---- a function opens
module _ {s : Standing} {ps : List ℕ} (v : Sane s ps) where
  pub begin-out : (s.depth ≡ 0 → ⊥) → NextOk Function s ps ps (Faulty Misplaced)
  unfolding misplaced_in
  begin-out n = record {
    sane = tt;
    leads = λ bs i a w.
        let r = read bs i a refl in
        row-misplaced (table_of bs) i r.kind_is refl r.fits (ap not (inside _ w.parts n));
  }

  module _ (z : s.depth ≡ 0) where
    pub begin-many : 32 ≤ s.count → NextOk Function s ps ps (Faulty TooManyFunctions)
    unfolding misplaced_in
    begin-many h = record {
      sane = tt;
      leads = λ bs i a w.
          let r = read bs i a refl in
          row-functions (table_of bs) i r.kind_is refl r.fits (ap not (outside _ w.parts z))
          (le-leb max_functions (functions (table_of bs) i) (omega (arith, w.count_is)));
    }

    pub begin-on : s.count < 32 → NextOk Function s ps (set ps 0 1) (On (record { depth = 1; loops = 0; opened = 1; count = s.count + 1 }))
    unfolding misplaced_in one_too_many
    begin-on h = record {
      sane = record {
        long = length-set ps 0 1 ∙ v.long;
        deep = omega arith;
        loops_are = bytes-push ps 0 1 (omega (arith, v.long)) ∙ bytes-none ps;
        loops_low = omega arith;
        regions_low = omega arith;
        functions_low = omega arith;
      };
      leads = λ bs i a w.
          let r = read bs i a refl in
          row_on w r (ap not (outside _ w.parts z)) (lt-leb max_functions (functions (table_of bs) i) (omega (arith, w.count_is))) refl
          (omega (arith, next-function (table_of bs) i (ap is_function_lem r.kind_is), w.count_is))
          (begin-parts i (regions (table_of bs) i) (s.count + 1) (open_at (table_of bs) i) w.parts z (omega (arith, v.long)));
    }

-- ---- an if or a loop
too_many_lem : ℕ → List Open → Bool
too_many_lem g fs = all_constructs fs || all_regions g fs

-- the part that opens, and that `loops` counts it
record Entering (k : Kind) (part loops outer : ℕ) : Type 0 where
  pub inner : Part
  pub does : Does k (pushes inner) is_outside too_many_lem
  pub byte : part ≡ part_byte inner
  pub counted : cond (eqb part 0x05) (suc outer) outer ≡ loops
  pub low : loops ≤ outer + 1

entering : {k : Kind} {part loops outer : ℕ} → Enters k part loops outer → Entering k part loops outer
unfolding misplaced_in one_too_many too_many_lem
entering (by_if q p l) = rw (q, p, l) (record {
  inner = then_part;
  does = record { known = refl; plain = refl; shaped = refl; placed = λ fs. refl; filled = λ g fs. refl };
  byte = refl;
  counted = refl;
  low = omega arith;
})
entering (by_loop q p l) = rw (q, p, l) (record {
  inner = loop_body;
  does = record { known = refl; plain = refl; shaped = refl; placed = λ fs. refl; filled = λ g fs. refl };
  byte = refl;
  counted = omega arith;
  low = omega arith;
})

module _ {s : Standing} {ps : List ℕ} {g : ℕ} where
  deep-parts : (fs : List Open) → Parts fs g s ps → 16 < s.depth → too_many_lem g fs ≡ true
  unfolding too_many_lem
  deep-parts [] w h = absurd (omega (arith, w.depth_is))
  deep-parts (f ∷ fs) w h = rw (many-constructs f fs (length fs) refl (omega (arith, w.depth_is)))

  full-parts : (fs : List Open) → Parts fs g s ps → (s.depth ≡ 0 → ⊥) → 64 ≤ s.opened → too_many_lem g fs ≡ true
  unfolding too_many_lem
  full-parts [] w n h = absurd (n (sym w.depth_is))
  full-parts (f ∷ fs) w n h = rw (many-regions f fs g s.opened w.opened_are h) (or-true (all_constructs (f ∷ fs)))

  some-parts : (fs : List Open) → Parts fs g s ps → (s.depth ≡ 0 → ⊥) → s.depth ≤ 16 → s.opened < 64 → too_many_lem g fs ≡ false
  unfolding too_many_lem
  some-parts [] w n d h = absurd (n (sym w.depth_is))
  some-parts (f ∷ fs) w n d h = few_parts f fs g (length fs) s.opened refl w.opened_are (omega (arith, w.depth_is)) h

  full-regions : (fs : List Open) → Parts fs g s ps → (s.depth ≡ 0 → ⊥) → 64 ≤ s.opened → all_regions g fs ≡ true
  full-regions [] w n h = absurd (n (sym w.depth_is))
  full-regions (f ∷ fs) w n h = many-regions f fs g s.opened w.opened_are h

  some-regions : (fs : List Open) → Parts fs g s ps → (s.depth ≡ 0 → ⊥) → s.opened < 64 → all_regions g fs ≡ false
  some-regions [] w n h = absurd (n (sym w.depth_is))
  some-regions (f ∷ fs) w n h = few_regions f fs g s.opened w.opened_are h

module _ {part loops : ℕ} {s : Standing} {ps : List ℕ} (v : Sane s ps) where
  pub enter-out : s.depth ≡ 0 → EnterOk part loops s ps ps (Faulty Misplaced)
  enter-out z = record {
    for_all = λ k e. record {
      sane = tt;
      leads = λ bs i a w.
          row_out (entering e).does a (outside _ w.parts z);
    };
  }

  module _ (n : s.depth ≡ 0 → ⊥) where
    pub enter-deep : 16 < s.depth → EnterOk part loops s ps ps (Faulty TooManyParts)
    enter-deep h = record {
      for_all = λ k e. record {
        sane = tt;
        leads = λ bs i a w.
            row-over (entering e).does a (inside _ w.parts n) (deep-parts _ w.parts h);
      };
    }

    pub enter-many : 64 ≤ s.opened → EnterOk part loops s ps ps (Faulty TooManyParts)
    enter-many h = record {
      for_all = λ k e. record {
        sane = tt;
        leads = λ bs i a w.
            row-over (entering e).does a (inside _ w.parts n) (full-parts _ w.parts n h);
      };
    }

    pub enter-on : s.depth ≤ 16 → s.opened < 64
        → EnterOk part loops s ps (set ps s.depth part) (On (record { depth = s.depth + 1; loops = loops; opened = s.opened + 1; count = s.count }))
    enter-on d h = record {
      for_all = λ k e. let x = entering e in record {
        sane = record {
          long = length-set ps s.depth part ∙ v.long;
          deep = omega arith;
          loops_are = bytes-push ps s.depth part (omega (arith, v.long)) ∙ ap (λ l. cond (eqb part 0x05) (suc l) l) v.loops_are ∙ x.counted;
          loops_low = omega (arith, x.low, v.loops_low);
          regions_low = omega arith;
          functions_low = v.functions_low;
        };
        leads = λ bs i a w. row-does x.does a w (inside _ w.parts n) (some-parts _ w.parts n d h) refl
            (enter-parts i (regions (table_of bs) i) x.inner part loops s.count x.byte (open_at (table_of bs) i) w.parts n (omega (arith, v.long)));
      };
    }

pub ruleset plains = (plain_out, plain-on)

pub ruleset jumps = (jump_out, jump-on)

pub ruleset begins = (begin-out, begin-many, begin-on)

pub ruleset enters = (enter-out, enter-deep, enter-many, enter-on)

-- ---- an else
no_then : List Open → Bool
no_then fs = not (is_then (part_of fs))

else-does : Does Else turns no_then all_regions
unfolding misplaced_in one_too_many no_then
else-does = record { known = refl; plain = refl; shaped = refl; placed = λ fs. refl; filled = λ g fs. refl }

module _ {s : Standing} {ps : List ℕ} (v : Sane s ps) where
  pub turn-out : s.depth ≡ 0 → NextOk Else s ps ps (Faulty Misplaced)
  unfolding no_then
  turn-out z = record { sane = tt; leads = λ bs i a w. row_out else-does a (ap not (none_then _ w.parts z)) }

  module _ (n : s.depth ≡ 0 → ⊥) where
    pub turn-other : (get_or ps (s.depth - 1) 0 ≡ 3 → ⊥) → NextOk Else s ps ps (Faulty Misplaced)
    unfolding no_then
    turn-other x = record { sane = tt; leads = λ bs i a w. row_out else-does a (ap not (not-then _ w.parts x)) }

    module _ (e : get_or ps (s.depth - 1) 0 ≡ 3) where
      pub turn_many : 64 ≤ s.opened → NextOk Else s ps ps (Faulty TooManyParts)
      unfolding no_then
      turn_many h = record {
        sane = tt;
        leads = λ bs i a w.
            row-over else-does a (ap not (is-then _ w.parts n e)) (full-regions _ w.parts n h);
      }

      pub turn_on : s.opened < 64
          → NextOk Else s ps (set ps (s.depth - 1) 4) (On (record { depth = s.depth; loops = s.loops; opened = s.opened + 1; count = s.count }))
      unfolding no_then
      turn_on h = record {
        sane = record {
          long = length-set ps (s.depth - 1) 4 ∙ v.long;
          deep = v.deep;
          loops_are = bytes-turn ps s.depth n (omega (arith, v.long, v.deep)) e ∙ v.loops_are;
          loops_low = v.loops_low;
          regions_low = omega arith;
          functions_low = v.functions_low;
        };
        leads = λ bs i a w. row-does else-does a w (ap not (is-then _ w.parts n e)) (some-regions _ w.parts n h) refl
            (turn-parts i (regions (table_of bs) i) s.loops s.count (open_at (table_of bs) i) w.parts n (omega (arith, v.long, v.deep)) e);
      }

pub ruleset turnings = (turn-out, turn-other, turn_many, turn_on)

-- ---- an end
end-does : Does End closes is_outside no-many
unfolding misplaced_in one_too_many no-many
end-does = record { known = refl; plain = refl; shaped = refl; placed = λ fs. refl; filled = λ g fs. refl }

module _ {s : Standing} {ps : List ℕ} (v : Sane s ps) where
  pub close-out : s.depth ≡ 0 → NextOk End s ps ps (Faulty Misplaced)
  close-out z = record { sane = tt; leads = λ bs i a w. row_out end-does a (outside _ w.parts z) }

  module _ (n : s.depth ≡ 0 → ⊥) where
    -- what `loops_without` asks
    pub loop-open : get_or ps (s.depth - 1) 0 ≡ 5 → 0 < s.loops
    loop-open e = omega (arith, loop-counted ps s.depth n e, v.loops_are)

    closed : loop_bytes ps (s.depth - 1) ≡ loops_without_lem (get_or ps (s.depth - 1) 0) s.loops
    closed = bytes-close ps s.depth n ∙ ap (loops_without_lem (get_or ps (s.depth - 1) 0)) v.loops_are

    pub close-on : {l : ℕ} → l ≡ loops_without_lem (get_or ps (s.depth - 1) 0) s.loops
        → NextOk End s ps ps (On (record { depth = s.depth - 1; loops = l; opened = s.opened; count = s.count }))
    unfolding no-many
    close-on {l} q = record {
      sane = record {
        long = v.long;
        deep = omega (arith, v.deep);
        loops_are = closed ∙ sym q;
        loops_low = omega (arith, bytes_low ps (s.depth - 1), closed, q);
        regions_low = v.regions_low;
        functions_low = v.functions_low;
      };
      leads = λ bs i a w. row-does end-does a w (inside _ w.parts n) refl refl
          (close_parts i (regions (table_of bs) i) l s.count (open_at (table_of bs) i) w.parts n);
    }

pub ruleset closings = (close-out, close-on)

-- ---- a row of any kind
module _ {k : Kind} {s : Standing} {ps : List ℕ} {r : Next} (v : Sane s ps) where
  pub step-plain : (k ≡ Do) ⊎ (k ≡ Call) → PlainOk s r → NextOk k s ps ps r
  step-plain (inl q) p = p.for_all k ps (by_do q) v
  step-plain (inr q) p = p.for_all k ps (by_call q) v

  pub step-jump : (k ≡ Break) ⊎ (k ≡ Continue) → JumpOk s r → NextOk k s ps ps r
  step-jump (inl q) p = p.for_all k ps (by_break q) v
  step-jump (inr q) p = p.for_all k ps (by_continue q) v

module _ {k : Kind} {s : Standing} {ps ps' : List ℕ} {r : Next} where
  pub step-function : k ≡ Function → NextOk Function s ps ps' r → NextOk k s ps ps' r
  step-function q p = rw q p

  pub step-else : k ≡ Else → NextOk Else s ps ps' r → NextOk k s ps ps' r
  step-else q p = rw q p

  pub step_end : k ≡ End → NextOk End s ps ps' r → NextOk k s ps ps' r
  step_end q p = rw q p

  pub step-if : k ≡ If → EnterOk 3 s.loops s ps ps' r → NextOk k s ps ps' r
  step-if q p = p.for_all k (by_if q refl refl)

  pub step_loop : k ≡ Loop → EnterOk 5 (s.loops + 1) s ps ps' r → NextOk k s ps ps' r
  step_loop q p = p.for_all k (by_loop q refl refl)

pub step-unknown : {k : Kind} {s : Standing} {ps : List ℕ} → k ≡ Unknown → NextOk k s ps ps (Faulty WrongField)
step-unknown q = record { sane = tt; leads = λ bs i a w. wrong_row bs i a q }

pub ruleset steps = (step-plain, step-jump, step-function, step-else, step_end, step-if, step_loop, step-unknown)
