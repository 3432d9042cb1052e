use mathlib.Core.Path.{◌≡◌, refl, sym, ap, ◌∙◌}
use mathlib.Core.Bool.{false, cond}
use Prim.Native.Nat.{◌+◌}
use lib.ListN.{set}
use Rattle.line.specs.declared.kind.LineKind.{LineKind}
use Rattle.line.specs.declared.kind.LineKind.TheVariants.{Do, Tick, Test, Leave, Out, Call, Back, Ret}
use Rattle.line.specs.Read.{ends_function_lem}
use Rattle.machine.specs.Map.{passed, passed_of}
use Rattle.machine.proofs.map.pass.Goals as goal

not-ret : (kd : LineKind) → (kd ≡ Ret → ⊥) → ends_function_lem kd ≡ false
not-ret Do k = refl
not-ret Tick k = refl
not-ret Test k = refl
not-ret Leave k = refl
not-ret Out k = refl
not-ret Call k = refl
not-ret Back k = refl
not-ret Ret k = absurd (k refl)

pub returns-in_default : goal.returns-in_default
unfolding passed_of
returns-in_default c = ap (λ b. cond b (passed (c.args.function + 1) (set c.args.starts.now (c.args.function + 1) (c.args.line + 1))) (passed c.args.function c.args.starts.now))
    (sym (ap ends_function_lem (sym c.kind_at.ensures) ∙ not-ret c.kind_at.result c.in_default.not-Ret))

pub returns : goal.returns
unfolding passed_of
returns c = sym (ap (λ kd. passed_of kd c.args.line c.args.function c.args.starts.now) (sym c.kind_at.ensures ∙ c.in-Ret.is))
