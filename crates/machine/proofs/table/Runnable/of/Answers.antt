use native.Mathlib.Omega.{arith}
use mathlib.Core.Path.{refl}
use Rattle.machine.proofs.Sound.{sound}
use Rattle.machine.proofs.table.Runnable.of.Goals as goal

pub survey-requires : goal.survey-requires
survey-requires c = (sound c.args.lines.now (record { each = λ i. omega (arith, c.type_inv.lines i) }) c.requires, refl, refl)

pub home_of-home-requires : goal.home_of-home-requires
home_of-home-requires c = (sound c.args.lines.now (record { each = λ i. omega (arith, c.type_inv.lines i) }) c.requires, c.survey.ensures)

pub invariant_of-result : goal.invariant_of-result
invariant_of-result c = record { ready = record { sound = sound c.args.lines.now (record { each = λ i. omega (arith, c.type_inv.lines i) }) c.requires; mapped = record { located = c.survey.ensures; home_is = c.home_of-home.ensures } } }
