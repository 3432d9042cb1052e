-- What it means that a step of the code and a step of the hardened machine agree, and what every kind of line needs for it.
use mathlib.Core.Path.{◌≡◌, refl, sym, ap, ◌∙◌, subst}
use mathlib.Core.Bool.{Bool, true, false, cond, ◌&&◌}
use mathlib.Core.List.{List, [], ◌∷◌}
use Prim.Native.Nat.{ℕ, zero, suc, ◌+◌, ◌*◌, ◌≤◌, ◌<◌}
use native.Mathlib.Omega.{arith}
use lib.Dec.{eqb}
use lib.ListN.{length, set}
use lib.Seq.{get_or-set_other}
use Rattle.rules.specs.declared.step.Step.{Step}
use Rattle.rules.specs.declared.step.Step.TheVariants.{Went, Alarm}
use Rattle.rules.specs.Line.{Line}
use Rattle.rules.specs.State.{Frame, go_to}
use Rattle.rules.specs.Run.{Turn, on, ends, untaken}
use Rattle.rules.specs.Hardened.{Counters, Hardened, must, check}
use Rattle.rules.specs.Bounds.{LineIn}
use Rattle.state.proofs.Ends.{IsEnd, alarm-ends}
use Rattle.guard.specs.Counters.{counter}
use Rattle.guard.specs.Guard.{Counted, counted}
use Rattle.machine.specs.Step.{Parts, After, guarded}
use Rattle.machine.specs.Run.{parts_at}
use Rattle.machine.specs.Stands.{Inside, Own, Waiting, Traced, Stands}
use Rattle.machine.proofs.Own.{SameBelow, waiting-same}

-- ---- agreement
-- the run goes on at a line, in a machine that stands for the next state, with at most one more trace slot than before
pub record GoesOn (ls : List Line) (held : List ℕ) (traced : ℕ) (a : After) (s : Hardened) : Type 0 where
  pub line : ℕ
  pub went : a.step ≡ Went line
  pub stands : (n : ℕ) → Stands ls held (parts_at a.parts line n) s
  pub traced_more : a.parts.registers.traced ≤ traced + 1

-- the run ends with the same answer, variables and trace
pub record EndsAs (held : List ℕ) (a : After) (o : Step) (s : Hardened) : Type 0 where
  pub is : a.step ≡ o
  pub is_end : IsEnd o
  pub vars_are : a.parts.vars ≡ s.vars
  pub traces : Traced a.parts held s.trace

abbrev pub Agrees : List Line → (held : List ℕ) → (traced : ℕ) → After → Turn Counters → Type 0
Agrees ls held n a (on s) = GoesOn ls held n a s
Agrees ls held n a (ends o s) = EndsAs held a o s
Agrees ls held n a (untaken o s) = ⊥

-- ---- lines of a function
pub inside-line : (ls : List Line) (f k j : ℕ) → Inside ls f k → LineIn ls f j → Inside ls f j
inside-line ls f k j i l = record { known = i.known; not_before = l.not_before; not_after = omega (arith, l.not_after) }

-- ---- the functions that wait
pub waiting-length : (ls : List Line) (ps fs ws : List ℕ) (d : ℕ) (gs : List (Frame Counters)) → Waiting ls ps fs ws d gs → length gs ≡ d
waiting-length ls ps fs ws zero [] w = refl
waiting-length ls ps fs ws zero (g ∷ gs) w = absurd w
waiting-length ls ps fs ws (suc d) [] w = absurd w
waiting-length ls ps fs ws (suc d) (g ∷ gs) w = ap suc (waiting-length ls ps fs ws d gs w.1)

-- where a function goes on, and its number, saved at depth i, above them
pub waiting-saved : (ls : List Line) (ps fs ws : List ℕ) (i k f d : ℕ) (gs : List (Frame Counters)) → d ≤ i → Waiting ls ps fs ws d gs
    → Waiting ls (set ps i k) (set fs i f) ws d gs
waiting-saved ls ps fs ws i k f zero [] h w = tt
waiting-saved ls ps fs ws i k f zero (g ∷ gs) h w = w
waiting-saved ls ps fs ws i k f (suc d) [] h w = w
waiting-saved ls ps fs ws i k f (suc d) (g ∷ gs) h w = (
  record {
    function_is = get_or-set_other fs i d f 0 (λ e. omega arith) ∙ w.0.function_is;
    at_is = get_or-set_other ps i d k 0 (λ e. omega arith) ∙ w.0.at_is;
    inside = w.0.inside;
    own_is = w.0.own_is;
  },
  waiting-saved ls ps fs ws i k f d gs (omega arith) w.1,
)

-- two tests in one check
pub must-and : (a b : Bool) (s : Hardened) (t : Turn Counters) → must (a && b) s t ≡ must a s (must b s t)
must-and true b s t = refl
must-and false b s t = refl

module _ (ls : List Line) (held : List ℕ) (p : Parts) (s : Hardened) (st : Stands ls held p s) where
  -- ---- the run ends, with any counters
  pub ends_as : (o : Step) → IsEnd o → (ws : List ℕ) → EndsAs held (guarded p (counted o ws)) o s
  ends_as o n ws =
      record {
        is = refl;
        is_end = n;
        vars_are = st.vars_are;
        traces = record { slots_are = st.traces.slots_are; traced_is = st.traces.traced_is };
      }

  -- ---- the run goes on in the same function, with other counters
  pub moves_on : (k j : ℕ) (ws : List ℕ) (own : Counters) → k ≡ j → LineIn ls s.running.function j → length ws ≡ 1024 → SameBelow (64 * p.registers.depth) p.words ws
      → Own ws p.registers.depth own → GoesOn ls held p.registers.traced (guarded p (counted (Went k) ws)) (go_to j own s)
  moves_on k j ws own e i n b o =
      record {
        line = k;
        went = refl;
        stands = λ m. record {
          sizes = record { deep = st.sizes.deep; resumes_are = st.sizes.resumes_are; functions_are = st.sizes.functions_are; words_are = n };
          function_is = st.function_is;
          at_is = e;
          inside = inside-line ls s.running.function s.running.at j st.inside i;
          own_is = o;
          waiting = waiting-same ls p.resumes p.functions p.words ws p.registers.depth s.callers b st.waiting;
          last_is = st.last_is;
          vars_are = st.vars_are;
          traces = record { slots_are = st.traces.slots_are; traced_is = st.traces.traced_is };
        };
        traced_more = omega arith;
      }

  -- ---- a test that both make
  by_test : (b : Bool) (x : Counted) (t : Turn Counters) (ws : List ℕ) → Agrees ls held p.registers.traced (guarded p x) t
      → Agrees ls held p.registers.traced (guarded p (cond b x (counted Alarm ws))) (must b s t)
  by_test true x t ws a = a
  by_test false x t ws a = ends_as Alarm alarm-ends ws

  pub both : (c b : Bool) → c ≡ b → (x : Counted) (t : Turn Counters) (ws : List ℕ) → Agrees ls held p.registers.traced (guarded p x) t
      → Agrees ls held p.registers.traced (guarded p (cond c x (counted Alarm ws))) (must b s t)
  both c b e x t ws a = subst (λ y. Agrees ls held p.registers.traced (guarded p (cond y x (counted Alarm ws))) (must b s t)) (sym e) (by_test b x t ws a)

  pub checks : (r e : ℕ) (x : Counted) (t : Turn Counters) → r < 64 → Agrees ls held p.registers.traced (guarded p x) t
      → Agrees ls held p.registers.traced (guarded p (cond (eqb (counter p.words p.registers.depth r) e) x (counted Alarm p.words))) (check r e s t)
  checks r e x t h a = both _ _ (ap (λ v. eqb v e) (st.own_is r h)) x t p.words a
