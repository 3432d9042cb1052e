use Rattle.std.proofs.Common.{ap, ◌∙◌, sym, ◌+◌, ◌*◌}
use Rattle.console.proofs.Digits.{none_read, read-starts, read-other, read-over, read_more, read_all}
use Rattle.console.proofs.number.decimal.Goals as goal

pub returns-then-is_empty : goal.returns-then-is_empty
returns-then-is_empty c = none_read _ (sym c.is_empty.ensures ∙ c.if-is_empty.true)

pub loop-b-init : goal.loop-b-init
loop-b-init c = read-starts _ (sym c.is_empty.ensures ∙ c.if-is_empty.false)

pub returns-then-not-is_ascii_digit : goal.returns-then-not-is_ascii_digit
returns-then-not-is_ascii_digit c = read-other c.loop-b.invariant c.loop-b-test.true (cc)

pub returns-then-value-gt65535 : goal.returns-then-value-gt65535
returns-then-value-gt65535 c = read-over c.loop-b.invariant c.loop-b-test.true (cc) (ap (λ x. 10 * c.loop-b.value + x) c.from.ensures)
    c.if-value-gt65535.true

pub loop-b-preserved : goal.loop-b-preserved
loop-b-preserved c = read_more c.loop-b.invariant c.loop-b-test.true (cc) (ap (λ x. 10 * c.loop-b.value + x) c.from.ensures)
    c.if-value-gt65535.false

pub returns : goal.returns
returns c = read_all c.loop-b.invariant c.loop-b-test.false
