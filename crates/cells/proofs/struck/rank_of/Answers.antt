use mathlib.Core.Path.{refl, sym, subst}
use Prim.Native.Nat.{◌+◌}
use lib.ListN.{get_or}
use Rattle.cells.specs.Struck.{InLines}
use Rattle.cells.proofs.Placing.{in_lines, struck-there}
use Rattle.cells.proofs.struck.rank_of.Goals as goal

pub ending-e-requires : goal.ending-e-requires
ending-e-requires c = (c.requires.0, c.requires.1, subst (λ n. InLines c.args.table.now.lines.now c.args.table.now.starts n (get_or c.args.table.now.starts c.args.function 0 + c.args.place)) (sym c.if-h-function.false) (in_lines _ _ c.args.table.now.ready _ _ c.requires.2))

pub returns : goal.returns
returns c = struck-there _ _ _ _ _ _ _ _ c.if-h-function.false _ refl _ c.ending-e.ensures _ c.from.ensures
