use borrow.Author.Rules.{rules}
use Rattle.scan.proofs.Steps.{steps}
use Rattle.scan.proofs.open.step.Goals as goal

pub returns-in-Do : goal.returns-in-Do
returns-in-Do c = search (steps, rules)

pub returns-in-If : goal.returns-in-If
returns-in-If c = search (steps, rules)

pub returns-in-Loop : goal.returns-in-Loop
returns-in-Loop c = search (steps, rules)

pub returns-in-Break : goal.returns-in-Break
returns-in-Break c = search (steps, rules)

pub returns-in-Unknown : goal.returns-in-Unknown
returns-in-Unknown c = search (steps, rules)
