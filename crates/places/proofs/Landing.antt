-- How a wide jump ends, by what is computed of the do at its place and by the kind of its line. Assumes nothing.
use mathlib.Core.Path.{◌≡◌, sym, ap, ◌∙◌}
use mathlib.Core.Bool.{cond}
use mathlib.Core.List.{List}
use Prim.Native.Nat.{ℕ}
use Rattle.rules.specs.Computed.{Computed, Fits, Overflows}
use Rattle.rules.specs.declared.ending.Ending.{Ending}
use Rattle.rules.specs.declared.ending.Ending.TheVariants.{Unfinished}
use Rattle.rules.specs.declared.operands.Operands.{Operands}
use Rattle.rules.specs.Variables.{computed, is_overflow}
use Rattle.line.specs.declared.Line.{Line}
use Rattle.line.specs.declared.kind.LineKind.{LineKind}
use Rattle.line.specs.Read.{struct_at, line_kind_at}
use Rattle.places.specs.Places.{late, wide_do, wide_kind}

module _ (bs vs : List ℕ) (k left : ℕ) {l : Line} {c : Computed} (e : l ≡ struct_at bs k) (q : c ≡ computed l.operands vs) where
  told : (x : Computed) → c ≡ x → cond (is_overflow x) Unfinished (late left) ≡ wide_do (struct_at bs k).operands vs left
  told x p = ap (λ y. cond (is_overflow y) Unfinished (late left)) (sym p ∙ q ∙ ap (λ y. computed y.operands vs) e)

  pub do-fits : {p x : ℕ} {r : Ending} → c ≡ Fits p x → r ≡ late left → r ≡ wide_do (struct_at bs k).operands vs left
  do-fits {p} {x} e z = z ∙ told (Fits p x) e

  pub do-overflows : c ≡ Overflows → Unfinished ≡ wide_do (struct_at bs k).operands vs left
  do-overflows p = told Overflows p

pub kind-arm : (bs vs : List ℕ) (k left : ℕ) (o : Operands) {kd K : LineKind} {r : Ending} → kd ≡ line_kind_at bs k → kd ≡ K → r ≡ wide_kind K o vs left → r ≡ wide_kind (line_kind_at bs k) o vs left
kind-arm bs vs k left o e p z = z ∙ ap (λ x. wide_kind x o vs left) (sym p ∙ e)
