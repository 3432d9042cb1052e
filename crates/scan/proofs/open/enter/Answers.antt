use borrow.Author.Rules.{rules}
use Rattle.scan.proofs.Steps.{enters}
use Rattle.scan.proofs.open.enter.Goals as goal

pub returns-then-s-eq0 : goal.returns-then-s-eq0
returns-then-s-eq0 c = search (enters, rules)

pub returns-then-s-gt-CONSTRUCTS : goal.returns-then-s-gt-CONSTRUCTS
returns-then-s-gt-CONSTRUCTS c = search (enters, rules)

pub returns-then-s-ge-REGIONS : goal.returns-then-s-ge-REGIONS
returns-then-s-ge-REGIONS c = search (enters, rules)

pub returns : goal.returns
returns c = search (enters, rules)
