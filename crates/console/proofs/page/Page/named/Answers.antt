-- The number is printed behind the word.
use Rattle.console.proofs.Paging.{named-printed}
use Rattle.console.proofs.page.Page.named.Goals as goal

pub returns : goal.returns
returns g c = named-printed c.args.self.now.within c.word.ensures c.number.ensures
