-- The bytes up to here are printed.
use Rattle.console.proofs.Paging.{Upto}
use Rattle.console.proofs.page.Page.through.Given as goal

abbrev pub invariant-loop-b : goal.invariant-loop-b
invariant-loop-b g l = Upto l.w l.fn.self.held l.fn.self.text l.self.text l.self.held l.b-index
