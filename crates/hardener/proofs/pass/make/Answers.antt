use mathlib.Core.Path.{refl, sym, ◌∙◌}
use native.Mathlib.Omega.{arith}
use Rattle.hardener.proofs.Passes.{made-start, made-room, made-stretch, made_more, made-differs, made_all}
use Rattle.hardener.proofs.pass.make.Goals as goal

pub loop-from-init : goal.loop-from-init
loop-from-init g c = (omega arith, refl, made-start g.U.Use.comparing c.args.table.now.linked.rows.now (g.U.Use.given c.args.used.now) c.args.out.now)

pub agrees-requires : goal.agrees-requires
agrees-requires g c = made-stretch g.U.Use.comparing c.args.table.now.linked.rows.now (g.U.Use.given c.args.used.now) c.args.out.now _ c.loop-from.from c.batch-count.result c.requires c.batch-count.ensures (omega arith) (c.from-first.ensures ∙ c.line_of.ensures) (c.from-past.ensures ∙ c.line_of-in-loop-from.ensures)

pub returns-then-not-agrees : goal.returns-then-not-agrees
returns-then-not-agrees g c = made-differs g.U.Use.comparing c.args.table.now.linked.rows.now (g.U.Use.given c.args.used.now) c.args.out.now c.loop-from.out c.loop-from.from c.batch-count.result c.batch-count.ensures c.emit_rows.ensures (c.from-first.ensures ∙ c.line_of.ensures) (c.from-past.ensures ∙ c.line_of-in-loop-from.ensures) (sym c.if-not-agrees.true ∙ c.agrees.ensures)

pub loop-from-preserved : goal.loop-from-preserved
loop-from-preserved g c = (c.batch-count.ensures.rows, omega arith, made_more g.U.Use.comparing c.args.table.now.linked.rows.now (g.U.Use.given c.args.used.now) c.args.out.now c.loop-from.out c.loop-from.from c.batch-count.result c.loop-from.invariant.2 (omega arith) c.batch-count.ensures c.emit_rows.ensures (c.from-first.ensures ∙ c.line_of.ensures) (c.from-past.ensures ∙ c.line_of-in-loop-from.ensures) (sym c.if-not-agrees.false ∙ c.agrees.ensures))

pub returns : goal.returns
returns g c = made_all g.U.Use.comparing c.args.table.now.linked.rows.now (g.U.Use.given c.args.used.now) c.args.out.now c.loop-from.out c.loop-from.from c.loop-from.invariant.2 (omega arith) c.requires

pub emit_rows-requires : goal.emit_rows-requires
emit_rows-requires g c = made-room g.U.Use.comparing c.args.table.now.linked.rows.now (g.U.Use.given c.args.used.now) c.args.out.now c.loop-from.out c.loop-from.from c.batch-count.result c.loop-from.invariant.2 (omega arith) c.requires c.batch-count.ensures c.loop-from.invariant.1
