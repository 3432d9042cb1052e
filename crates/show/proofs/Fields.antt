-- The regions whose counters a line looks at are in range. Assumes nothing.
use mathlib.Core.Logic.{⊎_elim}
use mathlib.Core.Path.{◌≡◌, sym, subst}
use mathlib.Core.List.{List, [], ◌∷◌}
use Prim.Native.Nat.{ℕ, ◌<◌}
use native.Mathlib.Omega.{arith}
use types.Run.{OneOf}
use denote.Enum.Declared.{tag_of}
use Rattle.line.specs.contracts.kind.LineKind.{the_type}
use Rattle.line.specs.declared.Line.{Line}
use Rattle.line.specs.declared.kind.LineKind.{LineKind}
use Rattle.line.specs.declared.kind.LineKind.TheVariants.{Do, Tick, Test, Leave, Out, Call, Back, Ret}
use Rattle.line.specs.Read.{struct_at, line_kind_at}
use Rattle.guard.specs.Fields.{FieldsIn}
use Rattle.machine.specs.Ready.{LineHere}

pub fields_in : (bs : List ℕ) (k : ℕ) (K : LineKind) (l : Line) → LineHere bs k → K ≡ line_kind_at bs k → l ≡ struct_at bs k → FieldsIn K l
fields_in bs k K l h e f = subst (λ x. FieldsIn x l) (sym e) (subst (FieldsIn (line_kind_at bs k)) (sym f) h.fields_in)

pub leave-in : (K : LineKind) (l : Line) → FieldsIn K l → K ≡ Leave → (l.r < 64) × (l.s < 64)
leave-in K l h e = let x = subst (λ y. FieldsIn y l) e h in (x.r_in, x.s_in)

-- of a kind that looks at one
pub one_in : (K : LineKind) (l : Line) → FieldsIn K l → OneOf (1 ∷ 2 ∷ 4 ∷ 5 ∷ 6 ∷ []) (tag_of the_type K) → l.r < 64
one_in Do l h k = absurd (⊎_elim (λ z. omega arith) (⊎_elim (λ z. omega arith) (⊎_elim (λ z. omega arith) (⊎_elim (λ z. omega arith) (λ z. omega arith)))) k)
one_in Tick l h k = h
one_in Test l h k = h.1.r_in
one_in Leave l h k = h.r_in
one_in Out l h k = h.r_in
one_in Call l h k = h.r_in
one_in Back l h k = h
one_in Ret l h k = absurd (⊎_elim (λ z. omega arith) (⊎_elim (λ z. omega arith) (⊎_elim (λ z. omega arith) (⊎_elim (λ z. omega arith) (λ z. omega arith)))) k)
