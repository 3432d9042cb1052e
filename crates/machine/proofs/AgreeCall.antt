-- A call, a ret and a return from place m of the code agree with those of the hardened machine. Assumes that the fields are in range.
use mathlib.Core.Path.{◌≡◌, refl, sym, ap, ◌∙◌, subst}
use mathlib.Core.Bool.{Bool, true, false, cond}
use mathlib.Core.List.{List, [], ◌∷◌}
use Prim.Native.Nat.{ℕ, zero, suc, ◌+◌, ◌*◌, ◌-◌, ◌≤◌, ◌<◌}
use native.Mathlib.Numerals.{add-one}
use native.Mathlib.Omega.{arith}
use lib.Dec.{eqb, ltb}
use lib.ListN.{length, length-set, get_or, set}
use lib.Seq.{get_or-set_same}
use borrow.Author.Tests.{ltb-true, lt-ltb, le-ltb}
use Rattle.rules.specs.declared.step.Step.TheVariants.{Finished, Alarm, TooManyOpen}
use Rattle.rules.specs.Line.{Line}
use Rattle.rules.specs.Function.{function_at, ret_value}
use Rattle.rules.specs.State.{Frame, frame, go_to, opening, returning, depth}
use Rattle.rules.specs.Run.{Turn, on, ends}
use Rattle.rules.specs.Form.{turn_by}
use Rattle.rules.specs.Hardened.{Counters, Hardened, put, clear, must, check, leaves, line_step_lem}
use Rattle.rules.specs.Bounds.{Fits}
use Rattle.line.specs.declared.Line as Declared
use Rattle.line.specs.declared.kind.LineKind.TheVariants.{Call, Ret}
use Rattle.line.specs.Read.{as_line}
use Rattle.guard.specs.Counters.{counter, with_counter, fresh_at}
use Rattle.state.specs.Machine.{moved}
use Rattle.state.specs.Open.{Opened, opened_of, closed_of}
use Rattle.guard.specs.Call.{Shifted, shifted, shifting, call_of, return_of, settled, ret_of}
use Rattle.machine.specs.Step.{Map, Parts, parts_of, After, after, settling, line_of, returned_of}
use Rattle.machine.specs.Stands.{Inside, Sound, Mapped, Own, WaitsAt, Waiting, Stands}
use Rattle.guard.proofs.Zeroed.{length-zeroed}
use Rattle.machine.proofs.Own.{SameBelow, set_below, below_both, own_same, waiting-same, own_put, own_fresh, fresh-below}
use Rattle.machine.proofs.Agree.{Agrees, GoesOn, inside-line, waiting-length, waiting-saved, ends_as}
use Rattle.state.proofs.Ends.{alarm-ends, finished-ends, too-many-ends}

-- ---- a return
module _ (ls : List Line) (held : List ℕ) (m : Map) (mp : Mapped ls m) (p : Parts) (s : Hardened) (st : Stands ls held p s) where
  abbrev v : ℕ
  v = counter p.words p.registers.depth 0

  v-is : v ≡ s.running.own 0
  v-is = st.own_is 0 (omega arith)

  -- the host compares
  by-host : (b : Bool) → Agrees ls held p.registers.traced (after (cond b (moved Finished p.registers) (moved Alarm p.registers)) p.resumes p.functions p.vars p.words p.slots) (must b s (ends Finished s))
  by-host true = ends_as ls held p s st Finished finished-ends p.words
  by-host false = ends_as ls held p s st Alarm alarm-ends p.words

  host : Agrees ls held p.registers.traced (after (cond (eqb v m.home) (moved Finished p.registers) (moved Alarm p.registers)) p.resumes p.functions p.vars p.words p.slots) (leaves ls s [])
  host =
      subst (λ b. Agrees ls held p.registers.traced (after (cond b (moved Finished p.registers) (moved Alarm p.registers)) p.resumes p.functions p.vars p.words p.slots) (leaves ls s []))
      (ap (λ x. eqb x (ret_value ls 0)) (sym v-is) ∙ ap (eqb v) (sym mp.home_is)) (by-host (eqb (s.running.own 0) (ret_value ls 0)))

  closes : (d : ℕ) → p.registers.depth ≡ suc d → (g : Frame Counters) (gs : List (Frame Counters)) → WaitsAt ls p.resumes p.functions p.words d g
      → Waiting ls p.resumes p.functions p.words d gs
      → GoesOn ls held p.registers.traced (after (closed_of p.registers v p.resumes p.functions) p.resumes p.functions p.vars p.words p.slots) (returning g gs s)
  closes d e g gs w ws =
      let q : p.registers.depth - 1 ≡ d = omega arith in
      record {
        line = get_or p.resumes (p.registers.depth - 1) 0;
        went = refl;
        stands = λ n. record {
          sizes = record { deep = omega (arith, st.sizes.deep); resumes_are = st.sizes.resumes_are; functions_are = st.sizes.functions_are; words_are = st.sizes.words_are };
          function_is = ap (λ i. get_or p.functions i 0) q ∙ w.function_is;
          at_is = ap (λ i. get_or p.resumes i 0) q ∙ w.at_is;
          inside = w.inside;
          own_is = subst (λ i. Own p.words i g.own) (sym q) w.own_is;
          waiting = subst (λ i. Waiting ls p.resumes p.functions p.words i gs) (sym q) ws;
          last_is = v-is;
          vars_are = st.vars_are;
          traces = record { slots_are = st.traces.slots_are; traced_is = st.traces.traced_is };
        };
        traced_more = omega arith;
      }

  by_depth : (d : ℕ) → p.registers.depth ≡ d → (gs : List (Frame Counters)) → Waiting ls p.resumes p.functions p.words d gs → Agrees ls held p.registers.traced (returned_of m p) (leaves ls s gs)
  unfolding return_of
  by_depth zero e [] w = rw (le-ltb 0 p.registers.depth (omega arith)) host
  by_depth zero e (g ∷ gs) w = absurd w
  by_depth (suc d) e [] w = absurd w
  by_depth (suc d) e (g ∷ gs) w = rw (lt-ltb 0 p.registers.depth (omega arith)) (closes d e g gs w.0 w.1)

  pub return_agrees : Agrees ls held p.registers.traced (returned_of m p) (leaves ls s s.callers)
  return_agrees = by_depth p.registers.depth refl s.callers st.waiting

-- ---- a ret
module _ (ls : List Line) (held : List ℕ) (m : Map) (mp : Mapped ls m) (p : Parts) (s : Hardened) (st : Stands ls held p s) (l : Declared.Line) where
  abbrev ended : List ℕ
  ended = with_counter p.words p.registers.depth 0 l.a

  abbrev q : Parts
  q = parts_of p.registers p.resumes p.functions p.vars ended p.slots

  stands-ended : Stands ls held q (go_to p.registers.at (put 0 l.a s.running.own) s)
  stands-ended =
      record {
        sizes = record { deep = st.sizes.deep; resumes_are = st.sizes.resumes_are; functions_are = st.sizes.functions_are; words_are = simp length-set st.sizes.words_are };
        function_is = st.function_is;
        at_is = refl;
        inside = subst (Inside ls s.running.function) (sym st.at_is) st.inside;
        own_is = own_put p.words p.registers.depth 0 l.a s.running.own (omega (arith, st.sizes.deep, st.sizes.words_are)) st.own_is;
        waiting = waiting-same ls p.resumes p.functions p.words ended p.registers.depth s.callers (set_below (64 * p.registers.depth) p.words (64 * p.registers.depth + 0) l.a (omega arith)) st.waiting;
        last_is = st.last_is;
        vars_are = st.vars_are;
        traces = record { slots_are = st.traces.slots_are; traced_is = st.traces.traced_is };
      }

  by_check : (b : Bool) (t : Turn Counters) → Agrees ls held p.registers.traced (returned_of m q) t
      → Agrees ls held p.registers.traced (settling p (cond b (settled (return_of m.home p.registers p.resumes p.functions ended) ended) (settled (moved Alarm p.registers) p.words))) (must b s t)
  by_check true t a = a
  by_check false t a = ends_as ls held p s st Alarm alarm-ends p.words

  pub ret_agrees : Agrees ls held p.registers.traced (line_of m Ret l p) (line_step_lem ls p.registers.at (as_line Ret l) s)
  unfolding line_of turn_by ret_of
  ret_agrees =
      subst (λ b. Agrees ls held p.registers.traced (settling p (cond b (settled (return_of m.home p.registers p.resumes p.functions ended) ended) (settled (moved Alarm p.registers) p.words))) (check 0 l.e s (leaves ls (go_to p.registers.at (put 0 l.a s.running.own) s) s.callers)))
      (ap (λ x. eqb x l.e) (sym (st.own_is 0 (omega arith))))
      (by_check (eqb (s.running.own 0) l.e) _ (return_agrees ls held m mp q (go_to p.registers.at (put 0 l.a s.running.own) s) stands-ended))

-- ---- a call
module _ (ls : List Line) (held : List ℕ) (sd : Sound ls) (m : Map) (mp : Mapped ls m) (p : Parts) (s : Hardened) (st : Stands ls held p s) (l : Declared.Line)
    (f : Fits ls s.running.function p.registers.at (as_line Call l)) where
  abbrev d : ℕ
  d = p.registers.depth

  abbrev k : ℕ
  k = p.registers.at

  abbrev checked_words : List ℕ
  checked_words = with_counter p.words d l.r l.a

  abbrev opened_words : List ℕ
  opened_words = fresh_at checked_words (d + 1) l.b

  abbrev open_now : Opened
  open_now = opened_of p.registers (get_or m.owners l.go 0) l.go p.resumes p.functions

  abbrev opened : After
  opened = after open_now.to open_now.resumes open_now.functions p.vars opened_words p.slots

  abbrev caller : Frame Counters
  caller = frame s.running.function (suc k) (put l.r l.a s.running.own)

  long : 64 * d + l.r < length p.words
  long = omega (arith, st.sizes.deep, st.sizes.words_are, f.0)

  checked-long : length checked_words ≡ 1024
  checked-long = simp length-set st.sizes.words_are

  module _ (deep : d + 1 < 16) where
    open-fits : 64 * (d + 1) + 64 ≤ length checked_words
    open-fits = omega (arith, checked-long)

    opened-long : length opened_words ≡ 1024
    opened-long = simp length-set (length-zeroed checked_words (64 * (d + 1)) 64 open-fits ∙ checked-long)

    caller-own : Own opened_words d (put l.r l.a s.running.own)
    caller-own =
        own_same checked_words opened_words d (put l.r l.a s.running.own) (fresh-below checked_words (d + 1) l.b (64 * d + 64) open-fits (omega arith))
        (own_put p.words d l.r l.a s.running.own long st.own_is)

    below-same : SameBelow (64 * d) p.words opened_words
    below-same =
        below_both (64 * d) p.words checked_words opened_words (set_below (64 * d) p.words (64 * d + l.r) l.a (omega arith))
        (fresh-below checked_words (d + 1) l.b (64 * d) open-fits (omega arith))

    waits : Waiting ls (set p.resumes d (k + 1)) (set p.functions d p.registers.function) opened_words (d + 1) (caller ∷ s.callers)
    waits =
        subst (λ n. Waiting ls (set p.resumes d (k + 1)) (set p.functions d p.registers.function) opened_words n (caller ∷ s.callers)) (sym (add-one d)) (
          record {
            function_is = get_or-set_same p.functions d p.registers.function 0 (omega (arith, st.sizes.deep, st.sizes.functions_are)) ∙ st.function_is;
            at_is = get_or-set_same p.resumes d (k + 1) 0 (omega (arith, st.sizes.deep, st.sizes.resumes_are)) ∙ add-one k;
            inside = inside-line ls s.running.function s.running.at (suc k) st.inside f.6;
            own_is = caller-own;
          },
          waiting-saved ls p.resumes p.functions opened_words d (k + 1) p.registers.function d s.callers (omega arith)
              (waiting-same ls p.resumes p.functions p.words opened_words d s.callers below-same st.waiting),
        )

    opens : GoesOn ls held p.registers.traced opened (opening (function_at ls l.go) l.go (put 0 l.b clear) (go_to (suc k) (put l.r l.a s.running.own) s))
    opens =
        let go = f.4 in
        record {
          line = l.go;
          went = refl;
          stands = λ n. record {
            sizes = record { deep = deep; resumes_are = simp length-set st.sizes.resumes_are; functions_are = simp length-set st.sizes.functions_are; words_are = opened-long };
            function_is = mp.located.owner_is l.go go.in_table;
            at_is = refl;
            inside = record { known = sd.known l.go go.in_table; not_before = go.not_before; not_after = omega (arith, go.not_after) };
            own_is = own_fresh checked_words (d + 1) l.b open-fits;
            waiting = waits;
            last_is = st.last_is;
            vars_are = st.vars_are;
            traces = record { slots_are = st.traces.slots_are; traced_is = st.traces.traced_is };
          };
          traced_more = omega arith;
        }

  abbrev shifts : Shifted → After
  shifts x = after x.to x.resumes x.functions p.vars x.words p.slots

  opened_turn : Turn Counters
  opened_turn = on (opening (function_at ls l.go) l.go (put 0 l.b clear) (go_to (suc k) (put l.r l.a s.running.own) s))

  by_room : (b : Bool) → ltb (d + 1) 16 ≡ b
      → Agrees ls held p.registers.traced
      (shifts (cond b (shifting open_now opened_words) (shifted (moved (TooManyOpen 16) p.registers) p.resumes p.functions p.words)))
      (cond b opened_turn (ends (TooManyOpen 16) s))
  unfolding opened_turn
  by_room true e = opens (ltb-true (d + 1) 16 e)
  by_room false e = ends_as ls held p s st (TooManyOpen 16) (too-many-ends 16) p.words

  by_check_call : (b : Bool) (x : Shifted) (t : Turn Counters) → Agrees ls held p.registers.traced (shifts x) t
      → Agrees ls held p.registers.traced (shifts (cond b x (shifted (moved Alarm p.registers) p.resumes p.functions p.words))) (must b s t)
  by_check_call true x t a = a
  by_check_call false x t a = ends_as ls held p s st Alarm alarm-ends p.words

  depth_is : d + 1 ≡ depth s
  depth_is = omega (arith, waiting-length ls p.resumes p.functions p.words d s.callers st.waiting)

  pub call_agrees : Agrees ls held p.registers.traced (line_of m Call l p) (line_step_lem ls k (as_line Call l) s)
  unfolding line_of turn_by call_of opened_turn
  call_agrees =
      let c = eqb (s.running.own l.r) l.e in
      let room = subst (λ n. Agrees ls held p.registers.traced
      (shifts (cond (ltb (d + 1) 16) (shifting open_now opened_words) (shifted (moved (TooManyOpen 16) p.registers) p.resumes p.functions p.words)))
      (cond (ltb n 16) opened_turn (ends (TooManyOpen 16) s))) depth_is (by_room (ltb (d + 1) 16) refl) in
      subst (λ b. Agrees ls held p.registers.traced
      (shifts (cond b (cond (ltb (d + 1) 16) (shifting open_now opened_words) (shifted (moved (TooManyOpen 16) p.registers) p.resumes p.functions p.words)) (shifted (moved Alarm p.registers) p.resumes p.functions p.words)))
      (check l.r l.e s (cond (ltb (depth s) 16) opened_turn (ends (TooManyOpen 16) s))))
      (ap (λ x. eqb x l.e) (sym (st.own_is l.r f.0))) (by_check_call c _ _ room)
