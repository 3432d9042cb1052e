use mathlib.Core.Path.{◌≡◌, sym, ap, ◌∙◌}
use mathlib.Core.List.{List}
use Prim.Native.Nat.{ℕ}
use Rattle.rules.specs.Strike.{Strike, None, Jump}
use Rattle.machine.specs.Step.{Map, Parts}
use Rattle.machine.specs.Run.{run_of}
use Rattle.strike.specs.Struck.{jump_of, struck_of}
use Rattle.strike.proofs.struck.strike.Goals as goal

by-none : (bs : List ℕ) (m : Map) (b : ℕ) (p : Parts) (j : Strike) → j ≡ None → run_of bs m b p ≡ struck_of bs m b j p
unfolding struck_of
by-none bs m b p j e = ap (λ x. struck_of bs m b x p) (sym e)

by_jump : (bs : List ℕ) (m : Map) (b k place : ℕ) (p : Parts) (j : Strike) → j ≡ Jump k place → jump_of bs m b k place p ≡ struck_of bs m b j p
unfolding struck_of
by_jump bs m b k place p j e = ap (λ x. struck_of bs m b x p) (sym e)

pub returns-in-None : goal.returns-in-None
returns-in-None c = c.run_lines.ensures ∙ by-none _ _ _ _ _ c.in-None.is

pub returns-in-Some : goal.returns-in-Some
returns-in-Some c = c.jump.ensures ∙ by_jump _ _ _ _ _ _ _ c.in-Some.is
