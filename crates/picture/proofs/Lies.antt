-- Where the lines of a function lie, in numbers of the code. Assumes nothing.
use mathlib.Core.Path.{◌≡◌}
use mathlib.Core.List.{List}
use Prim.Native.Nat.{ℕ, ◌+◌, ◌-◌, ◌*◌, ◌≤◌, ◌<◌}
use native.Mathlib.Omega.{arith}
use lib.ListN.{length, get_or, take, drop, length-drop}
use lib.Seq.{length-take-le}
use Rattle.rules.specs.Limits.{max_functions, max_lines}
use Rattle.rules.specs.Line.{Line, line_width, lines_in}
use Rattle.rules.specs.Function.{function_at}
use Rattle.machine.specs.Step.{Map}
use Rattle.machine.specs.Stands.{Ready, Sound}
use Rattle.cells.specs.Struck.{PlaceOf}
use Rattle.cells.proofs.Placing.{in_lines, last_few}

pub record Lies (lines starts : List ℕ) (f : ℕ) : Type 0 where
  pub known : f < max_functions
  pub ordered : get_or starts f 0 ≤ get_or starts (f + 1) 0
  pub few : get_or starts (f + 1) 0 ≤ max_lines
  pub in_bytes : line_width * get_or starts (f + 1) 0 ≤ length lines

pub lies : (bs : List ℕ) (mp : Map) → Ready bs mp → (f : ℕ) → f < function_at (lines_in bs) (length (lines_in bs)) → Lies bs mp.starts f
lies bs mp rd f h =
    let pl : PlaceOf (lines_in bs) f 0 = record { known = h; place_in = omega arith } in
    let il = in_lines bs mp rd f 0 pl in
    record {
      known = il.known;
      ordered = omega (arith, il.line_in);
      few = last_few bs mp rd f 0 pl;
      in_bytes = il.in_lines;
    }

-- its cells, of those of all lines
pub cells-long : {A : Type 0} (xs : List A) (from to : ℕ) → from ≤ to → to ≤ length xs → length (take (to - from) (drop from xs)) ≡ to - from
cells-long xs from to a b = length-take-le (to - from) (drop from xs) (omega (arith, length-drop from xs))

module _ {A : Type 0} (bs ss : List ℕ) (f : ℕ) (h : Lies bs ss f) (xs : List A) (long : length xs ≡ max_lines) where
  abbrev own : List A
  own = take (get_or ss (f + 1) 0 - get_or ss f 0) (drop (get_or ss f 0) xs)

  own-long : length own ≡ get_or ss (f + 1) 0 - get_or ss f 0
  own-long = cells-long xs (get_or ss f 0) (get_or ss (f + 1) 0) h.ordered (omega (arith, h.few, long))

  pub own-few : get_or ss f 0 + length own ≤ max_lines
  own-few = omega (arith, own-long, h.ordered, h.few)

  pub own_in : line_width * (get_or ss f 0 + length own) ≤ length bs
  own_in = omega (arith, own-long, h.ordered, h.in_bytes)

-- a function is there whose number is not above that of the last line
pub is-there : (ls : List Line) → Sound ls → (last f : ℕ) → last ≡ function_at ls (length ls - 1) → f ≤ last → f < function_at ls (length ls)
is-there ls so last f e h = omega (arith, so.known (length ls - 1) (omega (arith, so.within.some_line)))
