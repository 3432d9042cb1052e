use mathlib.Core.Path.{refl}
use Rattle.rules.specs.Calls.{zeros}
use Rattle.table.proofs.links.TableLinks.new.Goals as goal

pub returns-clause-ends : goal.returns-clause-ends
unfolding zeros
returns-clause-ends c = refl

pub returns-clause-elses : goal.returns-clause-elses
unfolding zeros
returns-clause-elses c = refl

pub returns-clause-heads : goal.returns-clause-heads
unfolding zeros
returns-clause-heads c = refl
