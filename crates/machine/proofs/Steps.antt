-- A step of the code agrees with a step of the hardened machine, whatever its line, and may be made. Assumes a hardened table.
use mathlib.Core.Logic.{◌≢◌}
use mathlib.Core.Path.{◌≡◌, refl, sym, ap, ◌∙◌, subst}
use mathlib.Core.Bool.{Bool, true, false, cond}
use mathlib.Core.List.{List}
use Prim.Native.Nat.{ℕ, suc, ◌≤◌, ◌<◌}
use native.Mathlib.Numerals.{add-one}
use native.Mathlib.Omega.{arith}
use lib.Dec.{eqb}
use lib.ListN.{length, get_or, drop, length-append, length-drop}
use borrow.Author.Tests.{eqb-false}
use Rattle.rules.specs.Line.{Line, lines_in, line_at}
use Rattle.rules.specs.Function.{function_at, finish_of}
use Rattle.rules.specs.Hardened.{Hardened, leaves, line_step_lem, hardened_step}
use Rattle.rules.specs.Bounds.{Fits}
use Rattle.rules.specs.Calls.{over}
use Rattle.line.specs.declared.Line as Declared
use Rattle.line.specs.declared.kind.LineKind.{LineKind}
use Rattle.line.specs.declared.kind.LineKind.TheVariants.{Do, Tick, Test, Leave, Out, Call, Back, Ret}
use Rattle.line.specs.Read.{line_kind_at, struct_at, as_line}
use Rattle.machine.specs.Ready.{LineHere, CanStep}
use Rattle.machine.specs.Step.{Map, Parts, line_of, returned_of, last_line_lem, step_of}
use Rattle.machine.specs.Stands.{Inside, Ready, Stands}
use Rattle.line.proofs.Decode.{line_is, line-bytes}
use Rattle.machine.proofs.Fields.{fields_fit}
use Rattle.machine.proofs.Agree.{Agrees}
use Rattle.machine.proofs.AgreeGuard.{tick-agrees, test-agrees, leave-agrees, out-agrees, back-agrees}
use Rattle.machine.proofs.AgreeDo.{do_agrees}
use Rattle.machine.proofs.AgreeCall.{call_agrees, ret_agrees, return_agrees}

pub length_over : (tr held : List ℕ) → length tr ≤ length held → length (over tr held) ≡ length held
length_over tr held h = omega (arith, length-append tr (drop (length tr) held), length-drop (length tr) held)

module _ (bs : List ℕ) (m : Map) (rd : Ready bs m) (held : List ℕ) (p : Parts) (s : Hardened) (st : Stands (lines_in bs) held p s) where
  abbrev ls : List Line
  ls = lines_in bs

  abbrev f : ℕ
  f = s.running.function

  -- ---- the line of the running function's place
  pub last_line : last_line_lem m p.registers ≡ finish_of ls f
  last_line =
      ap (λ n. get_or m.starts n 0) (add-one p.registers.function ∙ ap suc st.function_is) ∙ rd.mapped.located.start_is (suc f) st.inside.known

  before_last : p.registers.at ≢ finish_of ls f → p.registers.at < finish_of ls f
  before_last n = by s.running.at st.at_is st.inside.not_after
    where
      by : (k : ℕ) → p.registers.at ≡ k → k ≤ finish_of ls f → p.registers.at < finish_of ls f
      by k e h = less p.registers.at (finish_of ls f) n (omega arith)
        where
          less : (x y : ℕ) → x ≢ y → x ≤ y → x < y
          less x y n h = omega arith

  module _ (n : p.registers.at ≢ finish_of ls f) where
    place_in : p.registers.at < length ls
    place_in = omega (arith, before_last n, rd.sound.finish_in f st.inside.known)

    number_is : function_at ls p.registers.at ≡ f
    number_is = rd.sound.numbered f p.registers.at (subst (Inside ls f) (sym st.at_is) st.inside) (before_last n)

    here-is : line_at ls p.registers.at ≡ as_line (line_kind_at bs p.registers.at) (struct_at bs p.registers.at)
    here-is = line_is bs p.registers.at place_in

    here-fits : Fits ls f p.registers.at (as_line (line_kind_at bs p.registers.at) (struct_at bs p.registers.at))
    here-fits =
        subst (Fits ls f p.registers.at) here-is
        (subst (λ g. Fits ls g p.registers.at (line_at ls p.registers.at)) number_is (rd.sound.within.each_fits p.registers.at place_in))

    line-here : LineHere bs p.registers.at
    line-here =
        record {
          line_in = line-bytes bs p.registers.at place_in;
          next_in = omega (arith, place_in, rd.sound.within.few_lines);
          fields_in = fields_fit ls rd.sound.within f p.registers.at (line_kind_at bs p.registers.at) (struct_at bs p.registers.at) here-fits;
        }

  pub can_step : p.registers.traced < length held → p.registers.traced < 65535 → CanStep bs m.starts p.registers p.words p.slots
  can_step room few =
      record {
        known = omega (arith, st.function_is, st.inside.known, rd.sound.within.few_functions);
        has_room = record { deep = st.sizes.deep; room = omega (arith, st.sizes.words_are) };
        has_slot =
            record {
              slot = omega (arith, ap length st.traces.slots_are, length_over s.trace held (omega (arith, st.traces.traced_is)));
              count = few;
            };
        here = λ n. line-here (λ e. n (e ∙ sym last_line));
      }

  -- ---- by the kind of the line
  module _ (room : p.registers.traced < length held) where
    line_agrees : (kd : LineKind) (l : Declared.Line) → Fits ls f p.registers.at (as_line kd l)
        → Agrees ls held p.registers.traced (line_of m kd l p) (line_step_lem ls p.registers.at (as_line kd l) s)
    line_agrees Do l h = do_agrees ls held m p s st l room h
    line_agrees Tick l h = tick-agrees ls held m p s st l h
    line_agrees Test l h = test-agrees ls held m p s st l h
    line_agrees Leave l h = leave-agrees ls held m p s st l h
    line_agrees Out l h = out-agrees ls held m p s st l h
    line_agrees Call l h = call_agrees ls held rd.sound m rd.mapped p s st l h
    line_agrees Back l h = back-agrees ls held m p s st l h
    line_agrees Ret l h = ret_agrees ls held m rd.mapped p s st l

    by_place : (b : Bool) → eqb p.registers.at (finish_of ls f) ≡ b
        → Agrees ls held p.registers.traced (cond b (returned_of m p) (line_of m (line_kind_at bs p.registers.at) (struct_at bs p.registers.at) p))
        (cond b (leaves ls s s.callers) (line_step_lem ls p.registers.at (line_at ls p.registers.at) s))
    by_place true e = return_agrees ls held m rd.mapped p s st
    by_place false e =
        let n = eqb-false p.registers.at (finish_of ls f) e in
        subst (λ x. Agrees ls held p.registers.traced (line_of m (line_kind_at bs p.registers.at) (struct_at bs p.registers.at) p) (line_step_lem ls p.registers.at x s))
        (sym (here-is n)) (line_agrees (line_kind_at bs p.registers.at) (struct_at bs p.registers.at) (here-fits n))

    pub step_agrees : Agrees ls held p.registers.traced (step_of bs m p) (hardened_step ls s)
    unfolding step_of Rattle.rules.specs.Form.step_of
    step_agrees =
        subst (λ k. Agrees ls held p.registers.traced (cond (eqb p.registers.at (last_line_lem m p.registers)) (returned_of m p) (line_of m (line_kind_at bs p.registers.at) (struct_at bs p.registers.at) p))
        (cond (eqb k (finish_of ls f)) (leaves ls s s.callers) (line_step_lem ls k (line_at ls k) s)))
        st.at_is
        (subst (λ x. Agrees ls held p.registers.traced (cond (eqb p.registers.at x) (returned_of m p) (line_of m (line_kind_at bs p.registers.at) (struct_at bs p.registers.at) p))
        (cond (eqb p.registers.at (finish_of ls f)) (leaves ls s s.callers) (line_step_lem ls p.registers.at (line_at ls p.registers.at) s)))
        (sym last_line) (by_place (eqb p.registers.at (finish_of ls f)) refl))
