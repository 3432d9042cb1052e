use native.Mathlib.Omega.{arith}
use Rattle.reader.proofs.Passes.{dos-more}
use Rattle.reader.proofs.dos.dos.Goals as goal

pub loop-to-preserved : goal.loop-to-preserved
loop-to-preserved c = dos-more c.requires.0 c.loop-to.invariant (c.is_pair.ensures c.if-is_pair.true) (omega arith) c.copied.ensures c.write-to.ensures
