-- A do of the code agrees with that of the hardened machine: its row goes into the first slot past the trace, or it overflows and ends the
-- run. Assumes that there is such a slot.
use mathlib.Core.Path.{◌≡◌, refl, sym, ap, ◌∙◌, subst}
use mathlib.Core.List.{List, [], ◌∷◌, ◌++◌, append_assoc}
use Prim.Native.Nat.{ℕ, suc, ◌+◌, ◌<◌}
use native.Mathlib.Numerals.{add-one}
use native.Mathlib.Omega.{arith}
use lib.ListN.{length, get_or, set, drop, length-append}
use lib.Seq.{drop-cons, set-append_seam}
use Rattle.rules.specs.Line.{Line}
use Rattle.rules.specs.Computed.{Computed, Fits, Overflows}
use Rattle.rules.specs.declared.step.Step.TheVariants.{Overflow}
use Rattle.rules.specs.Variables.{variable, computed}
use Rattle.rules.specs.State.{frame}
use Rattle.rules.specs.Run.{Turn, on, ends}
use Rattle.rules.specs.Form.{turn_by}
use Rattle.rules.specs.Hardened.{Counters, Hardened, line_step_lem}
use Rattle.rules.specs.Bounds as bounds
use Rattle.rules.specs.Calls.{over}
use Rattle.line.specs.declared.Line as Declared
use Rattle.line.specs.declared.kind.LineKind.TheVariants.{Do}
use Rattle.line.specs.Read.{as_line}
use Rattle.state.specs.Machine.{did_by, did_of}
use Rattle.state.proofs.Ends.{overflow-ends}
use Rattle.machine.specs.Step.{Map, Parts, After, after, line_of}
use Rattle.machine.specs.Stands.{Stands}
use Rattle.machine.proofs.Agree.{Agrees, inside-line}

length-one-more : (tr : List ℕ) (e : ℕ) → length (tr ++ (e ∷ [])) ≡ suc (length tr)
length-one-more tr e = omega (arith, length-append tr (e ∷ []))

over-more : (tr held : List ℕ) (e : ℕ) → length tr < length held → set (over tr held) (length tr) e ≡ over (tr ++ (e ∷ [])) held
over-more tr held e h =
    ap (λ x. set (tr ++ x) (length tr) e) (drop-cons held (length tr) 0 h) ∙ set-append_seam tr (get_or held (length tr) 0) (drop (suc (length tr)) held) e
    ∙ sym (append_assoc tr (e ∷ []) (drop (suc (length tr)) held)) ∙ ap (λ n. (tr ++ (e ∷ [])) ++ drop n held) (sym (length-one-more tr e))

module _ (ls : List Line) (held : List ℕ) (m : Map) (p : Parts) (s : Hardened) (st : Stands ls held p s) (l : Declared.Line) where
  -- what the code and the machine come to, where this is computed
  abbrev coded : Computed → After
  coded c =
      let x = did_by c l.operands.p l.e p.registers p.vars p.slots in
      after x.to p.resumes p.functions x.vars p.words x.slots

  abbrev turned : Computed → Turn Counters
  turned (Fits to x) =
      on (record {
        running = frame s.running.function (suc p.registers.at) s.running.own;
        callers = s.callers;
        last = s.last;
        vars = set s.vars to x;
        trace = s.trace ++ (l.e ∷ []);
      })
  turned Overflows = ends (Overflow l.e (variable s.vars l.operands.p)) s

  turned_is : (c : Computed) → computed l.operands s.vars ≡ c → line_step_lem ls p.registers.at (as_line Do l) s ≡ turned c
  unfolding turn_by
  turned_is (Fits to x) e = rw e
  turned_is Overflows e = rw e

  agrees : (c : Computed) → p.registers.traced < length held → bounds.Fits ls s.running.function p.registers.at (as_line Do l) → Agrees ls held p.registers.traced (coded c) (turned c)
  agrees Overflows room f =
      record {
        is = ap (λ v. Overflow l.e (variable v l.operands.p)) st.vars_are;
        is_end = overflow-ends l.e (variable s.vars l.operands.p);
        vars_are = st.vars_are;
        traces = record { slots_are = st.traces.slots_are; traced_is = st.traces.traced_is };
      }
  agrees (Fits to x) room f =
      let t = st.traces in
      record {
        line = p.registers.at + 1;
        went = refl;
        stands = λ n. record {
          sizes = record { deep = st.sizes.deep; resumes_are = st.sizes.resumes_are; functions_are = st.sizes.functions_are; words_are = st.sizes.words_are };
          function_is = st.function_is;
          at_is = add-one p.registers.at;
          inside = inside-line ls s.running.function s.running.at (suc p.registers.at) st.inside f.2;
          own_is = st.own_is;
          waiting = st.waiting;
          last_is = st.last_is;
          vars_are = ap (λ v. set v to x) st.vars_are;
          traces = record {
            slots_are = ap (λ x. set x p.registers.traced l.e) t.slots_are ∙ ap (λ i. set (over s.trace held) i l.e) t.traced_is
                ∙ over-more s.trace held l.e (omega (arith, t.traced_is));
            traced_is = omega (arith, t.traced_is, length-one-more s.trace l.e);
          };
        };
        traced_more = omega arith;
      }

  pub do_agrees : p.registers.traced < length held → bounds.Fits ls s.running.function p.registers.at (as_line Do l) → Agrees ls held p.registers.traced (line_of m Do l p) (line_step_lem ls p.registers.at (as_line Do l) s)
  unfolding line_of did_of
  do_agrees room f =
      let c = computed l.operands s.vars in
      subst (λ y. Agrees ls held p.registers.traced (coded y) (line_step_lem ls p.registers.at (as_line Do l) s)) (sym (ap (computed l.operands) st.vars_are))
      (subst (Agrees ls held p.registers.traced (coded c)) (sym (turned_is c refl)) (agrees c room f))
