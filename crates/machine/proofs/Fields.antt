-- The fields of a line of a hardened table are in range. Assumes nothing.
use mathlib.Core.List.{List}
use Prim.Native.Nat.{ℕ}
use native.Mathlib.Omega.{arith}
use Rattle.rules.specs.Line.{Line}
use Rattle.rules.specs.Bounds.{Fits, Within}
use Rattle.line.specs.declared.Line as Declared
use Rattle.line.specs.declared.kind.LineKind.{LineKind}
use Rattle.line.specs.declared.kind.LineKind.TheVariants.{Do, Tick, Test, Leave, Out, Call, Back, Ret}
use Rattle.line.specs.Read.{as_line}
use Rattle.guard.specs.Fields.{FieldsIn}

pub fields_fit : (ls : List Line) → Within ls → (f k : ℕ) (kd : LineKind) (l : Declared.Line) → Fits ls f k (as_line kd l) → FieldsIn kd l
fields_fit ls w f k Do l h = h.0
fields_fit ls w f k Tick l h = h.0
fields_fit ls w f k Test l h =
    (h.0, record { r_in = h.1; s_in = h.2; t_in = h.3 })
fields_fit ls w f k Leave l h = record { r_in = h.0; s_in = h.1 }
fields_fit ls w f k Out l h = record { r_in = h.0; s_in = h.1; t_in = h.2 }
fields_fit ls w f k Call l h = record { r_in = h.0; go_in = omega (arith, h.4.in_table, w.few_lines) }
fields_fit ls w f k Back l h = h.0
fields_fit ls w f k Ret l h = tt
