use native.Mathlib.Omega.{arith}
use Rattle.source.proofs.Answers.{low, does}
use Rattle.source.proofs.table.Runnable.code_of.Goals as goal

pub bounds-self-from : goal.bounds-self-from
bounds-self-from c = omega (arith, low c.requires, c.from.ensures)

pub returns : goal.returns
returns c = does c.requires c.args.self.known c.from.ensures
