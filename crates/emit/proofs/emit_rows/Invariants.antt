use Rattle.emit.proofs.Emits.{Emitting}
use Rattle.emit.proofs.emit_rows.Given as goal

abbrev pub invariant-loop-k : goal.invariant-loop-k
invariant-loop-k l = Emitting l.table.linked.rows.now l.from l.count l.initial.out l.out l.k
