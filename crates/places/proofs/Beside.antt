-- The place across a do, told from the kind of the line. Assumes nothing.
use mathlib.Core.Path.{◌≡◌, refl, sym, ap, ◌∙◌}
use mathlib.Core.List.{List}
use Prim.Native.Nat.{ℕ, ◌<◌}
use native.Mathlib.Numerals.{add-one}
use lib.ListN.{length}
use Rattle.rules.specs.Line.{lines_in}
use Rattle.rules.specs.Settled.{across_by, across}
use Rattle.line.specs.declared.Line as Declared
use Rattle.line.specs.declared.kind.LineKind.{LineKind}
use Rattle.line.specs.declared.kind.LineKind.TheVariants.{Do, Tick, Test, Leave, Out, Call, Back, Ret}
use Rattle.line.specs.Read.{line_kind_at, struct_at, as_line}
use Rattle.line.proofs.Decode.{line_is}
use Rattle.places.specs.Places.{across_kind}

by_kind : (kd : LineKind) (l : Declared.Line) (k : ℕ) → across_kind kd k ≡ across_by (as_line kd l) k
by_kind Do l k = add-one k
by_kind Tick l k = refl
by_kind Test l k = refl
by_kind Leave l k = refl
by_kind Out l k = refl
by_kind Call l k = refl
by_kind Back l k = refl
by_kind Ret l k = refl

pub across-is : (bs : List ℕ) (k : ℕ) → k < length (lines_in bs) → across_kind (line_kind_at bs k) k ≡ across (lines_in bs) k
unfolding across
across-is bs k h = by_kind (line_kind_at bs k) (struct_at bs k) k ∙ ap (λ l. across_by l k) (sym (line_is bs k h))
