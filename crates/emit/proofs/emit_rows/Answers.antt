use mathlib.Core.Path.{◌∙◌}
use native.Mathlib.Omega.{arith}
use borrow.Author.Rules.{rules}
use Rattle.emit.proofs.Emits.{emit-start, emit-holds, emit_more}
use Rattle.emit.proofs.emit_rows.Goals as goal

pub loop-k-init : goal.loop-k-init
loop-k-init c = emit-start c.requires

pub loop-k-preserved : goal.loop-k-preserved
loop-k-preserved c = emit_more c.loop-k.invariant (omega arith) (c.from-first.ensures ∙ c.line_of.ensures) c.emit.ensures (search rules)

pub emit-requires : goal.emit-requires
emit-requires c = (omega (arith, c.requires.rows), emit-holds c.loop-k.invariant (omega arith) (c.from-first.ensures ∙ c.line_of.ensures))
