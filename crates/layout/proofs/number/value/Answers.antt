use Rattle.layout.proofs.Numbers.{valued}
use borrow.Author.Rules.{rules}
use Rattle.layout.proofs.number.value.Goals as goal

pub overflow_add-result : goal.overflow_add-result
overflow_add-result c = search (valued, rules)

pub returns : goal.returns
returns c = search (valued, rules)
