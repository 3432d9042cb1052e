use mathlib.Core.Path.{ap, ◌∙◌}
use Prim.Native.Nat.{◌+◌}
use borrow.Author.Tests.{eq-eqb, ne_eqb, lt-ltb, le-ltb}
use Rattle.guard.specs.Call.{shifting, call_of}
use Rattle.guard.proofs.call.call.Goals as goal

pub returns-then-wrong : goal.returns-then-wrong
unfolding call_of
returns-then-wrong c = simp (← c.get-held.ensures, ne_eqb _ _ c.if-wrong.true, c.stay.ensures)

pub returns-then-full : goal.returns-then-full
unfolding call_of
returns-then-full c = simp (← c.get-held.ensures, eq-eqb _ _ c.if-wrong.false, le-ltb (c.args.h.depth + 1) 16 c.if-full.true, c.stay-then-full.ensures)

pub returns : goal.returns
unfolding call_of
returns c =
    ap (λ x. shifting x c.fresh.new.words) c.opening.ensures
    ∙ simp (c.fresh.ensures, c.put.ensures, ← c.get-held.ensures, eq-eqb _ _ c.if-wrong.false, lt-ltb (c.args.h.depth + 1) 16 c.if-full.false)
