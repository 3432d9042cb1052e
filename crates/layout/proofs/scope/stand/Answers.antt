use Rattle.layout.proofs.Scopes.{stand-at}
use borrow.Author.Rules.{rules}
use Rattle.layout.proofs.scope.stand.Goals as goal

pub returns : goal.returns
returns c = search (stand-at, rules)
