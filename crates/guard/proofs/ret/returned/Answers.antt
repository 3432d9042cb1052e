use borrow.Author.Tests.{eq-eqb, ne_eqb, lt-ltb, le-ltb}
use Rattle.guard.specs.Call.{return_of}
use Rattle.guard.proofs.ret.returned.Goals as goal

pub returns-then-h-gt0 : goal.returns-then-h-gt0
unfolding return_of
returns-then-h-gt0 c = simp (lt-ltb 0 c.args.h.depth c.if-h-gt0.true, ← c.get-v.ensures, c.returning.ensures)

pub returns-then-v-home : goal.returns-then-v-home
unfolding return_of
returns-then-v-home c = simp (le-ltb 0 c.args.h.depth c.if-h-gt0.false, ← c.get-v.ensures, ne_eqb _ _ c.if-v-home.true, c.stay.ensures)

pub returns : goal.returns
unfolding return_of
returns c = simp (le-ltb 0 c.args.h.depth c.if-h-gt0.false, ← c.get-v.ensures, eq-eqb _ _ c.if-v-home.false, c.stay-2.ensures)
