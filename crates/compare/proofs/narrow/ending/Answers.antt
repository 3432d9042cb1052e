use mathlib.Core.Path.{sym}
use mathlib.Core.List.{[]}
use native.Mathlib.Omega.{arith}
use Rattle.compare.proofs.Landing.{stands-already, standing_there, ends_there}
use Rattle.compare.proofs.narrow.ending.Goals as goal

pub returns-then-line-h : goal.returns-then-line-h
returns-then-line-h c = λ s st. stands-already _ _ _ _ _ _ c.if-line-h.true s st

pub copy_from_slice-requires : goal.copy_from_slice-requires
copy_from_slice-requires c = omega (arith, (c.requires.0.stood.stands []).sizes.words_are)

pub ending-requires : goal.ending-requires
ending-requires c = standing_there _ _ _ _ c.requires.1 c.requires.0 _ c.at_line-landed.ensures _ c.copy_from_slice.ensures.after

pub returns : goal.returns
returns c = λ s st. ends_there _ _ _ _ c.requires.1 _ _ _ c.at_line-landed.ensures _ c.copy_from_slice.ensures.after (λ e. c.if-line-h.false (sym e)) _ c.ending.ensures s st
