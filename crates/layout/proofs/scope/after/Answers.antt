use Rattle.layout.proofs.Survey.{nexts}
use borrow.Author.Rules.{rules}
use Rattle.layout.proofs.scope.after.Goals as goal

pub returns-in-Function : goal.returns-in-Function
returns-in-Function c = search (nexts, rules)

pub returns-in-Do : goal.returns-in-Do
returns-in-Do c = search (nexts, rules)

pub returns-in-If : goal.returns-in-If
returns-in-If c = search (nexts, rules)

pub returns-in-Else : goal.returns-in-Else
returns-in-Else c = search (nexts, rules)

pub returns-in-Loop : goal.returns-in-Loop
returns-in-Loop c = search (nexts, rules)

pub returns-in-End : goal.returns-in-End
returns-in-End c = search (nexts, rules)

pub returns-in-Break : goal.returns-in-Break
returns-in-Break c = search (nexts, rules)

pub returns-in-Unknown : goal.returns-in-Unknown
returns-in-Unknown c = search (nexts, rules)
