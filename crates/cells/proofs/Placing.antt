-- What the code of one strike needs to know of the line that it goes to, and what it says of it. Assumes nothing.
use mathlib.Core.Path.{◌≡◌, refl, sym, ap, ◌∙◌}
use mathlib.Core.List.{List}
use Prim.Native.Nat.{ℕ, suc, ◌+◌, ◌-◌, ◌≤◌, ◌<◌}
use native.Mathlib.Numerals.{add-one}
use native.Mathlib.Omega.{arith}
use lib.ListN.{length, get_or}
use borrow.Author.Tests.{eq-eqb, ne_eqb}
use Rattle.rules.specs.declared.ending.Ending.{Ending}
use Rattle.rules.specs.declared.ending.Ending.TheVariants.{Same}
use Rattle.rules.specs.Limits.{max_lines}
use Rattle.rules.specs.Line.{lines_in}
use Rattle.rules.specs.Function.{function_at, start_of, finish_of}
use Rattle.rules.specs.Settled.{across}
use Rattle.line.proofs.Decode.{length-lines}
use Rattle.state.specs.declared.machine.Machine.{Machine}
use Rattle.machine.specs.Step.{Map}
use Rattle.machine.specs.Stands.{Ready}
use Rattle.places.specs.Places.{wide_of, wide_last, wide_at}
use Rattle.compare.specs.declared.narrow.Narrow.{Narrow}
use Rattle.compare.specs.Compared.{ends_at}
use Rattle.compare.specs.Narrow.{NarrowIs}
use Rattle.sweeper.specs.Steps.{last_of}
use Rattle.sweeper.proofs.Settling.{dos_in}
use Rattle.cells.specs.declared.rank.Rank.{Rank}
use Rattle.cells.specs.declared.rank.Rank.TheVariants.{Never}
use Rattle.cells.specs.Worst.{rank}
use Rattle.cells.specs.Struck.{PlaceOf, InLines, ends_there_lem, EndingIs, StruckIs}

-- ---- a place of a function is a line of it, or its end
module _ (bs : List ℕ) (mp : Map) (rd : Ready bs mp) (f p : ℕ) (pl : PlaceOf (lines_in bs) f p) where
  first-there : get_or mp.starts f 0 ≡ start_of (lines_in bs) f
  first-there = rd.mapped.located.start_is f (omega (arith, pl.known))

  last-there : get_or mp.starts (f + 1) 0 ≡ finish_of (lines_in bs) f
  last-there = ap (λ n. get_or mp.starts n 0) (add-one f) ∙ rd.mapped.located.start_is (suc f) pl.known

  pub in_lines : InLines bs mp.starts f (get_or mp.starts f 0 + p)
  in_lines =
      let so = rd.sound in
      let end = so.finish_in f pl.known in
      record {
        known = omega (arith, pl.known, so.within.few_functions);
        line_in = omega (arith, first-there, last-there, pl.place_in, so.ordered f pl.known);
        few = omega (arith, last-there, end, so.within.few_lines);
        in_lines = omega (arith, last-there, end, length-lines bs);
        dos_in = dos_in bs so.within;
      }

  pub last_few : get_or mp.starts (f + 1) 0 ≤ max_lines
  last_few = omega (arith, last-there, rd.sound.finish_in f pl.known, rd.sound.within.few_lines)

  pub line_few : get_or mp.starts f 0 + p ≤ 65535
  line_few = omega (arith, in_lines.line_in, in_lines.few)

-- ---- the places of a function, in numbers of the code
pub place_of : (bs : List ℕ) (mp : Map) → Ready bs mp → (f : ℕ) → f < function_at (lines_in bs) (length (lines_in bs)) → (p : ℕ) → p ≤ get_or mp.starts (f + 1) 0 - get_or mp.starts f 0 → PlaceOf (lines_in bs) f p
place_of bs mp rd f known p h =
    let pl : PlaceOf (lines_in bs) f 0 = record { known = known; place_in = omega arith } in
    record { known = known; place_in = omega (arith, first-there bs mp rd f 0 pl, last-there bs mp rd f 0 pl) }

-- ---- a wide jump
pub wide-last : (bs : List ℕ) (y last d : ℕ) (vs : List ℕ) (left : ℕ) (r : Ending) → y ≡ last → r ≡ wide_last d left → r ≡ wide_of bs y last d vs left
wide-last bs y last d vs left r e q = rw (eq-eqb y last e) q

pub wide-line : (bs : List ℕ) (y last d : ℕ) (vs : List ℕ) (left : ℕ) (r : Ending) → (y ≡ last → ⊥) → r ≡ wide_at bs vs left y → r ≡ wide_of bs y last d vs left
wide-line bs y last d vs left r e q = rw (ne_eqb y last e) q

-- ---- each of the three ways to tell it
module _ (bs ss : List ℕ) (m : Machine) (ws known : List ℕ) (left y : ℕ) where
  pub ends_same : y ≡ m.registers.at → EndingIs bs ss m ws known left y Same
  ends_same e = record { is = λ s st. rw (eq-eqb y m.registers.at e) refl }

  pub ends-across : (y ≡ m.registers.at → ⊥) → (x : ℕ) → x ≡ across (lines_in bs) m.registers.at → y ≡ x → (n : Narrow) → NarrowIs (lines_in bs) m ws known left n
      → EndingIs bs ss m ws known left y n.ending
  ends-across e x xe q n ni =
      record {
        is = λ s st. rw (ne_eqb y m.registers.at e, eq-eqb y (across (lines_in bs) m.registers.at) (q ∙ xe))
            (ni.ending_is s st ∙ ap (λ z. ends_at (lines_in bs) known left z s) ni.line_is);
      }

  pub ends_wide : (y ≡ m.registers.at → ⊥) → (x : ℕ) → x ≡ across (lines_in bs) m.registers.at → (y ≡ x → ⊥) → (r : Ending)
      → r ≡ wide_of bs y (last_of ss m.registers) m.registers.depth m.variables left → EndingIs bs ss m ws known left y r
  ends_wide e x xe q r re =
      record {
        is = λ s st. rw (ne_eqb y m.registers.at e, ne_eqb y (across (lines_in bs) m.registers.at) (λ z. q (z ∙ sym xe))) re;
      }

-- ---- the strike's rank
module _ (bs ss : List ℕ) (m : Machine) (ws known : List ℕ) (left f p : ℕ) where
  pub struck-never : (m.registers.function ≡ f → ⊥) → StruckIs bs ss m ws known left f p Never
  struck-never e = record { is = λ s st. rw (ne_eqb m.registers.function f e) refl }

  pub struck-there : m.registers.function ≡ f → (y : ℕ) → y ≡ get_or ss f 0 + p → (e : Ending) → EndingIs bs ss m ws known left y e → (r : Rank) → r ≡ rank e → StruckIs bs ss m ws known left f p r
  struck-there q y ye e ei r re =
      record {
        is = λ s st. rw (eq-eqb m.registers.function f q)
            (re ∙ ap rank (ei.is s st ∙ ap (λ z. ends_there_lem bs ss m known left z s) (ye ∙ ap (λ n. get_or ss n 0 + p) (sym q))));
      }
