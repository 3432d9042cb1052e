-- What the code needs to know of lines and places. Assumes nothing.
use mathlib.Core.Path.{◌≡◌, refl, sym, ap, ◌∙◌}
use mathlib.Core.Bool.{Bool}
use mathlib.Core.List.{List}
use Prim.Native.Nat.{ℕ, ◌+◌, ◌-◌, ◌*◌, ◌≤◌}
use native.Mathlib.Omega.{arith}
use lib.ListN.{length}
use Rattle.rules.specs.Line.{line_width, lines_in}
use Rattle.rules.specs.Hardened.{Hardened}
use Rattle.line.specs.declared.kind.LineKind.{LineKind}
use Rattle.line.specs.declared.kind.LineKind.TheVariants.{Do, Tick, Test, Leave, Out, Call, Back, Ret}
use Rattle.line.specs.declared.Line.{Line}
use Rattle.line.specs.Read.{line_kind_at, struct_at, as_line}
use Rattle.line.proofs.Decode.{length-lines, line_is}
use Rattle.machine.specs.Step.{Map, Parts, last_line_lem}
use Rattle.machine.specs.Stands.{Ready, Stands}
use Rattle.machine.proofs.Steps.{last_line}
use Rattle.slip.specs.declared.amount.Amount.{Amount}
use Rattle.slip.specs.declared.amount.Amount.TheVariants.{NotSmall}
use Rattle.slip.specs.Amount.{slips_by, over_line, over_do_lem}

-- the arm of a `let .. else` that is not the first variant's
no-do : (k : LineKind) → (k ≡ Do → ⊥) → (l : Line) (back : Bool) → NotSmall ≡ over_line (as_line k l) back
no-do Do o l back = absurd (o refl)
no-do Tick o l back = refl
no-do Test o l back = refl
no-do Leave o l back = refl
no-do Out o l back = refl
no-do Call o l back = refl
no-do Back o l back = refl
no-do Ret o l back = refl

module _ (bs : List ℕ) (k : ℕ) (back : Bool) (h : line_width * k + line_width ≤ length bs) {kd : LineKind} (e : kd ≡ line_kind_at bs k) where
  read_is : over_line (as_line kd (struct_at bs k)) back ≡ over_do_lem (lines_in bs) k back
  unfolding over_do_lem
  read_is = ap (λ y. over_line (as_line y (struct_at bs k)) back) e ∙ ap (λ y. over_line y back) (sym (line_is bs k (omega (arith, length-lines bs))))

  pub over_none : (kd ≡ Do → ⊥) → NotSmall ≡ over_do_lem (lines_in bs) k back
  over_none o = no-do kd o (struct_at bs k) back ∙ read_is

  pub over_do : {l : Line} {r : Amount} → kd ≡ Do → l ≡ struct_at bs k → r ≡ slips_by l.e back → r ≡ over_do_lem (lines_in bs) k back
  over_do d l q = q ∙ ap (λ y. slips_by y.e back) l ∙ ap (λ y. over_line (as_line y (struct_at bs k)) back) (sym d) ∙ read_is

-- a place is not past the bytes
pub in_bytes : (bs : List ℕ) (k : ℕ) → k ≤ length (lines_in bs) → line_width * k ≤ length bs
in_bytes bs k h = omega (arith, length-lines bs)

-- place p of a function that begins at line a and ends at line z
pub place_in : (bs : List ℕ) (a z p : ℕ) → p ≤ z - a → a ≤ z → z ≤ length (lines_in bs) → line_width * (a + p) ≤ length bs
place_in bs a z p h l e = in_bytes bs (a + p) (omega arith)

-- where the machine stands
pub stands-in : (bs : List ℕ) (m : Map) → Ready bs m → (held : List ℕ) (p : Parts) (s : Hardened) → Stands (lines_in bs) held p s → p.registers.at ≤ length (lines_in bs)
stands-in bs m rd held p s st = omega (arith, st.at_is, st.inside.not_after, rd.sound.finish_in s.running.function st.inside.known)

pub last-in : (bs : List ℕ) (m : Map) → Ready bs m → (held : List ℕ) (p : Parts) (s : Hardened) → Stands (lines_in bs) held p s → last_line_lem m p.registers ≤ length (lines_in bs)
last-in bs m rd held p s st = omega (arith, last_line bs m rd held p s st, rd.sound.finish_in s.running.function st.inside.known)

pub few_lines : (bs : List ℕ) (m : Map) → Ready bs m → length (lines_in bs) ≤ 2048
few_lines bs m rd = omega (arith, rd.sound.within.few_lines)
