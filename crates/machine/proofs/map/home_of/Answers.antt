use mathlib.Core.Path.{ap, ◌∙◌}
use Prim.Native.Nat.{◌-◌}
use native.Mathlib.Omega.{arith}
use Rattle.line.specs.Read.{struct_at}
use Rattle.line.proofs.Decode.{line-bytes}
use Rattle.machine.proofs.Sound.{some-place, home-in, home_is}
use Rattle.machine.proofs.map.home_of.Goals as goal

pub overflow_sub-finish : goal.overflow_sub-finish
overflow_sub-finish c = omega (arith, c.requires.1.start_is 1 c.requires.0.first.known, some-place _ c.requires.0)

pub line_at-l-requires : goal.line_at-l-requires
line_at-l-requires c = line-bytes c.args.lines.now _ (omega (arith, c.requires.1.start_is 1 c.requires.0.first.known, home-in c.args.lines.now c.requires.0))

pub returns : goal.returns
returns c = ap (λ l. l.a) c.line_at-l.ensures ∙ ap (λ n. (struct_at c.args.lines.now (n - 1)).a) (c.requires.1.start_is 1 c.requires.0.first.known) ∙ home_is c.args.lines.now c.requires.0
