use Rattle.text.proofs.Putting.{puts-hex}
use Rattle.text.proofs.write.put_hex.Goals as goal

pub returns : goal.returns
returns c = puts-hex _ c.figure.ensures c.figure-2.ensures
    c.put-next.ensures c.put.ensures
