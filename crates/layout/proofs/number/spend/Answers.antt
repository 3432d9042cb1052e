use Rattle.layout.proofs.Numbers.{spends}
use borrow.Author.Rules.{rules}
use Rattle.layout.proofs.number.spend.Goals as goal

pub overflow_add-spent : goal.overflow_add-spent
overflow_add-spent c = search (spends, rules)

pub returns : goal.returns
returns c = search (spends, rules)
