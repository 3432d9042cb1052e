-- The word stands behind what the page held.
use Rattle.std.proofs.Common.{arith}
use Rattle.console.proofs.Paging.{printed-here}
use Rattle.console.proofs.page.Page.add.Goals as goal

pub returns : goal.returns
returns g c = printed-here _ c.requires.0 c.requires.1 (omega arith) c.copy_from_slice.ensures.len c.copy_from_slice.ensures.after
