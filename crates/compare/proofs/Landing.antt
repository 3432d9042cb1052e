-- A machine that goes on at another line of its function, over a copy of its counters. Assumes nothing.
use mathlib.Core.Path.{◌≡◌, refl, sym, ◌∙◌, subst}
use mathlib.Core.Logic.{◌≢◌}
use mathlib.Core.List.{List, []}
use Prim.Native.Nat.{ℕ, ◌<◌}
use native.Mathlib.Omega.{arith}
use lib.ListN.{length}
use borrow.Author.Tests.{eq-eqb, ne_eqb}
use Rattle.rules.specs.declared.ending.Ending.{Ending}
use Rattle.rules.specs.declared.ending.Ending.TheVariants.{Same}
use Rattle.rules.specs.Strike.{None}
use Rattle.rules.specs.Line.{Line}
use Rattle.rules.specs.State.{go_to, retraced}
use Rattle.rules.specs.Run.{run}
use Rattle.rules.specs.Hardened.{Hardened, striking_step}
use Rattle.rules.specs.Sweep.{ending_of}
use Rattle.rules.specs.Settled.{across, StandsBefore}
use Rattle.rules.specs.Function.{function_at}
use Rattle.state.specs.declared.machine.Machine.{Machine}
use Rattle.state.specs.Machine.{machine_at}
use Rattle.machine.specs.Stands.{Inside, Sound}
use Rattle.compare.specs.Compared.{Stood, Standing, ends_at}

-- ---- the landing
module _ (ls : List Line) (m : Machine) (ws : List ℕ) (y : ℕ) (i : Inside ls m.registers.function y) where
  pub stood-there : (s : Hardened) → Stood ls m ws s → Stood ls (machine_at m y) ws (go_to y s.running.own s)
  stood-there s st =
      record {
        stands = λ slots. let z = st.stands slots in record {
          sizes = record { deep = z.sizes.deep; resumes_are = z.sizes.resumes_are; functions_are = z.sizes.functions_are; words_are = z.sizes.words_are };
          function_is = z.function_is;
          at_is = refl;
          inside = subst (λ f. Inside ls f y) z.function_is i;
          own_is = z.own_is;
          waiting = z.waiting;
          last_is = z.last_is;
          vars_are = z.vars_are;
          traces = record { slots_are = z.traces.slots_are; traced_is = z.traces.traced_is };
        };
        no_steps = st.no_steps;
      }

  -- over a copy of the counters, as the code has it
  pub standing_there : Standing ls m ws → (x : Machine) → x ≡ machine_at m y → (us : List ℕ) → us ≡ ws → Standing ls x us
  standing_there st x e us q =
      subst (λ w. Standing ls x w) (sym q)
      (subst (λ z. Standing ls z ws) (sym e) (record { state = _; stood = stood-there st.state st.stood }))

  pub ends_there : (known : List ℕ) (left : ℕ) (x : Machine) → x ≡ machine_at m y → (us : List ℕ) → us ≡ ws → m.registers.at ≢ y → (r : Ending)
      → ((s : Hardened) → Stood ls x us s → r ≡ ending_of known (run (striking_step ls None) left 0 (retraced [] s)))
      → (s : Hardened) → Stood ls m ws s → r ≡ ends_at ls known left y s
  unfolding ends_at
  ends_there known left x e us q n r f s st =
      f (go_to y s.running.own s) (subst (λ w. Stood ls x w (go_to y s.running.own s)) (sym q) (subst (λ z. Stood ls z ws (go_to y s.running.own s)) (sym e) (stood-there s st)))
      ∙ sym (rw (ne_eqb y s.running.at (λ z. n ((st.stands []).at_is ∙ sym z))))

pub stands-already : (ls : List Line) (m : Machine) (ws known : List ℕ) (left y : ℕ) → y ≡ m.registers.at → (s : Hardened) → Stood ls m ws s → Same ≡ ends_at ls known left y s
unfolding ends_at
stands-already ls m ws known left y e s st = rw (eq-eqb y s.running.at (e ∙ (st.stands []).at_is))

-- ---- the line where the run stands, and the one across a do
module _ (ls : List Line) (m : Machine) (ws : List ℕ) (st : Standing ls m ws) (b : StandsBefore ls m.registers.function m.registers.at) where
  known : m.registers.function < function_at ls (length ls)
  known = subst (λ f. f < function_at ls (length ls)) (sym (st.stood.stands []).function_is) (st.stood.stands []).inside.known

  pub line-there : Sound ls → (m.registers.at < length ls) × (m.registers.at < 65535)
  line-there so = (omega (arith, b.before_end, so.finish_in m.registers.function known), omega (arith, b.before_end, so.finish_in m.registers.function known, so.within.few_lines))

  pub inside-across : (y : ℕ) → y ≡ across ls m.registers.at → Inside ls m.registers.function y
  inside-across y e = record { known = known; not_before = omega (arith, b.across_from); not_after = omega (arith, b.across_before) }
