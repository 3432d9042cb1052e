use native.Mathlib.Omega.{arith}
use Rattle.text.proofs.Putting.{puts-length, word-length, decimal-length, refused}
use Rattle.text.proofs.write.refusal.Goals as goal

pub put_decimal-last-requires : goal.put_decimal-last-requires
put_decimal-last-requires c = omega (arith, c.put_word-first.ensures.next_is, word-length, puts-length c.put_word-first.ensures)

pub put-requires : goal.put-requires
put-requires c = omega
    (arith, c.put_word-first.ensures.next_is, word-length, puts-length c.put_word-first.ensures, c.put_decimal-last.ensures.next_is, decimal-length c.args.number, puts-length c.put_decimal-last.ensures)

pub returns : goal.returns
returns c = refused _ (omega arith) c.put_word-first.ensures c.put_decimal-last.ensures c.put.ensures
