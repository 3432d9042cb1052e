use Prim.Native.Nat.{◌-◌, ◌/◌, ◌≤◌}
use mathlib.Core.Path.{◌≡◌}
use lib.ListN.{length}
use Rattle.hardener.proofs.Passes.{Made}
use Rattle.hardener.proofs.pass.make.Given as goal

abbrev pub invariant-loop-from : goal.invariant-loop-from
invariant-loop-from g l = (l.from ≤ length l.table.linked.rows.now / 6) × (length l.out ≡ length l.initial.out) × (Made g.U.Use.comparing l.table.linked.rows.now (g.U.Use.given l.used) l.initial.out l.out l.from)

abbrev pub decreases-loop-from : goal.decreases-loop-from
decreases-loop-from g l = l.n - l.from
