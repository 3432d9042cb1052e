use mathlib.Core.Path.{ap, sym, ◌∙◌}
use lib.Dec.{eqb}
use Rattle.reader.specs.Candidate.{is_leave_lem}
use Rattle.reader.proofs.LineRows.{leaves-beyond, leaves-there, leaves-nowhere}
use native.Mathlib.Omega.{arith}
use Rattle.reader.proofs.candidate.leaves_to.Goals as goal

pub returns-then-line-count : goal.returns-then-line-count
returns-then-line-count c = leaves-beyond c.args.lines.now c.args.line c.args.k (omega arith)

pub returns-then-is_leave : goal.returns-then-is_leave
returns-then-is_leave c = ap (λ x. eqb x c.args.k) c.go_of.ensures ∙ leaves-there c.args.lines.now c.args.line c.args.k (omega arith) (sym (c.is_leave.ensures ∙ ap is_leave_lem c.kind_at.ensures) ∙ c.if-is_leave.true)

pub returns : goal.returns
returns c = leaves-nowhere c.args.lines.now c.args.line c.args.k (omega arith) (sym (c.is_leave.ensures ∙ ap is_leave_lem c.kind_at.ensures) ∙ c.if-is_leave.false)
