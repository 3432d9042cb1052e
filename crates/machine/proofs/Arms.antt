-- What a step comes to, by the kind of its line. Assumes nothing.
use mathlib.Core.Logic.{◌≢◌}
use mathlib.Core.Path.{◌≡◌, refl, sym, ap, ◌∙◌, subst}
use mathlib.Core.List.{List}
use Prim.Native.Nat.{ℕ, ◌+◌}
use lib.ListN.{get_or}
use borrow.Author.Tests.{eq-eqb, ne_eqb}
use Rattle.rules.specs.declared.step.Step.{Step}
use Rattle.line.specs.declared.Line as Declared
use Rattle.line.specs.declared.kind.LineKind.{LineKind}
use Rattle.line.specs.declared.kind.LineKind.TheVariants.{Do, Tick, Test, Leave, Out, Call, Back, Ret}
use Rattle.state.specs.declared.machine.Registers.{Registers}
use Rattle.state.specs.declared.machine.Moved.{Moved}
use Rattle.line.specs.Read.{struct_at, line_kind_at}
use Rattle.guard.specs.Fields.{FieldsIn}
use Rattle.machine.specs.Ready.{CanStep}
use Rattle.guard.specs.Guard.{Counted, counted, tick_of, leave_of, out_of, back_of}
use Rattle.state.specs.Machine.{done, did_of, moved}
use Rattle.guard.specs.Call.{return_of, call_of, shifted, Settled, settled, ret_of, tested_of}
use Rattle.machine.specs.Step.{Map, Parts, after, guarded, settling, line_of, last_line_lem, step_of}

-- ---- the fields of a line of a known kind are in range
pub fields_in : (bs ss ws tr : List ℕ) (h : Registers) → CanStep bs ss h ws tr → h.at ≢ get_or ss (h.function + 1) 0
    → (K kd : LineKind) (l : Declared.Line) → kd ≡ line_kind_at bs h.at → kd ≡ K → l ≡ struct_at bs h.at → FieldsIn K l
fields_in bs ss ws tr h can n K kd l e k f =
    subst (λ x. FieldsIn x l) k (subst (λ x. FieldsIn x l) (sym e) (subst (FieldsIn (line_kind_at bs h.at)) (sym f) (can.here n).fields_in))

module _ (bs : List ℕ) (m : Map) (p : Parts) where
  pub at_last : (x : Moved) → p.registers.at ≡ last_line_lem m p.registers → x ≡ return_of m.home p.registers p.resumes p.functions p.words
      → after x p.resumes p.functions p.vars p.words p.slots ≡ step_of bs m p
  unfolding step_of
  at_last x l e = rw (eq-eqb _ _ l, e)

  module _ (n : p.registers.at ≢ last_line_lem m p.registers) (kd : LineKind) (l : Declared.Line) (e : kd ≡ line_kind_at bs p.registers.at) (f : l ≡ struct_at bs p.registers.at) where
    is-line : (K : LineKind) → kd ≡ K → line_of m K l p ≡ step_of bs m p
    unfolding step_of
    is-line K k = rw (ne_eqb _ _ n, ← f, ← e, k)

    guard-arm : (K : LineKind) → kd ≡ K → (y : Counted) → line_of m K l p ≡ guarded p y → (s : Step) (x : Moved) (ws : List ℕ) → counted s ws ≡ y → x ≡ moved s p.registers
        → after x p.resumes p.functions p.vars ws p.slots ≡ step_of bs m p
    guard-arm K k y q s x ws c v = rw v (ap (guarded p) c ∙ sym q ∙ is-line K k)

    settle-arm : (K : LineKind) → kd ≡ K → (y : Settled) → line_of m K l p ≡ settling p y → (x : Moved) (ws : List ℕ) → settled x ws ≡ y
        → after x p.resumes p.functions p.vars ws p.slots ≡ step_of bs m p
    settle-arm K k y q x ws c = ap (settling p) c ∙ sym q ∙ is-line K k

    pub do-arm : kd ≡ Do → (x : Moved) (vs tr : List ℕ) → done x vs tr ≡ did_of l.operands l.e p.registers p.vars p.slots
        → after x p.resumes p.functions vs p.words tr ≡ step_of bs m p
    unfolding line_of
    do-arm k x vs tr c = ap (λ y. after y.to p.resumes p.functions y.vars p.words y.slots) c ∙ is-line Do k

    pub tick-arm : kd ≡ Tick → (s : Step) (x : Moved) (ws : List ℕ) → counted s ws ≡ tick_of l p.registers.at p.registers.depth p.words → x ≡ moved s p.registers
        → after x p.resumes p.functions p.vars ws p.slots ≡ step_of bs m p
    unfolding line_of
    tick-arm k = guard-arm Tick k _ refl

    pub test-arm : kd ≡ Test → (x : Moved) (ws : List ℕ) → settled x ws ≡ tested_of l p.registers p.vars p.words
        → after x p.resumes p.functions p.vars ws p.slots ≡ step_of bs m p
    unfolding line_of
    test-arm k = settle-arm Test k _ refl

    pub leave-arm : kd ≡ Leave → (s : Step) (x : Moved) (ws : List ℕ) → counted s ws ≡ leave_of l p.registers.depth p.words → x ≡ moved s p.registers
        → after x p.resumes p.functions p.vars ws p.slots ≡ step_of bs m p
    unfolding line_of
    leave-arm k = guard-arm Leave k _ refl

    pub out-arm : kd ≡ Out → (s : Step) (x : Moved) (ws : List ℕ) → counted s ws ≡ out_of l p.registers.depth p.words → x ≡ moved s p.registers
        → after x p.resumes p.functions p.vars ws p.slots ≡ step_of bs m p
    unfolding line_of
    out-arm k = guard-arm Out k _ refl

    pub call-arm : kd ≡ Call → (x : Moved) (ps fs ws : List ℕ) → shifted x ps fs ws ≡ call_of l m.owners p.registers p.resumes p.functions p.words
        → after x ps fs p.vars ws p.slots ≡ step_of bs m p
    unfolding line_of
    call-arm k x ps fs ws c = ap (λ y. after y.to y.resumes y.functions p.vars y.words p.slots) c ∙ is-line Call k

    pub back-arm : kd ≡ Back → (s : Step) (x : Moved) (ws : List ℕ) → counted s ws ≡ back_of l p.registers.last p.registers.at p.registers.depth p.words → x ≡ moved s p.registers
        → after x p.resumes p.functions p.vars ws p.slots ≡ step_of bs m p
    unfolding line_of
    back-arm k = guard-arm Back k _ refl

    pub ret-arm : kd ≡ Ret → (x : Moved) (ws : List ℕ) → settled x ws ≡ ret_of l m.home p.registers p.resumes p.functions p.words
        → after x p.resumes p.functions p.vars ws p.slots ≡ step_of bs m p
    unfolding line_of
    ret-arm k = settle-arm Ret k _ refl
