use Rattle.text.proofs.Putting.{puts-more, ones, tens, hundreds}
use Rattle.text.proofs.write.put_decimal.Goals as goal

pub returns-then-n-lt10 : goal.returns-then-n-lt10
returns-then-n-lt10 c = rw (ones _ c.if-n-lt10.true) c.put.ensures

pub returns-then-n-lt100 : goal.returns-then-n-lt100
returns-then-n-lt100 c = rw (tens _ c.if-n-lt10.false c.if-n-lt100.true)
    (puts-more c.put-second.ensures c.put-then-n-lt100.ensures)

pub returns : goal.returns
returns c = rw (hundreds _ c.if-n-lt100.false)
    (puts-more (puts-more c.put-second-2.ensures c.put-third.ensures) c.put-2.ensures)
