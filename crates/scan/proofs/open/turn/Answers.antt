use borrow.Author.Rules.{rules}
use Rattle.scan.proofs.Steps.{turnings}
use Rattle.scan.proofs.open.turn.Goals as goal

pub returns-then-s-eq0 : goal.returns-then-s-eq0
returns-then-s-eq0 c = search (turnings, rules)

pub returns-then-parts-inner-ne-IF : goal.returns-then-parts-inner-ne-IF
returns-then-parts-inner-ne-IF c = search (turnings, rules)

pub returns-then-s-ge-REGIONS : goal.returns-then-s-ge-REGIONS
returns-then-s-ge-REGIONS c = search (turnings, rules)

pub returns : goal.returns
returns c = search (turnings, rules)
