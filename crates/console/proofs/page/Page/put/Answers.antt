-- The byte stands alone on a page that was written out.
use Rattle.console.proofs.Paging.{printed_anew}
use Rattle.console.proofs.page.Page.put.Goals as goal

pub returns-then-is_some : goal.returns-then-is_some
returns-then-is_some g c = printed_anew _ c.in-Some.is c.args.self.now.within c.if-at-lt-SIZE.false c.flush.ensures.same
