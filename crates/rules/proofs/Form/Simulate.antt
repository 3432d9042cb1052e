-- One step of an unstruck hardened run: it is a step of its source's run, or a tick or back that the source has no step for; and the
-- start. Assumes that the table is accepted.
use mathlib.Core.Path.{◌≡◌, refl, sym, ap, ◌∙◌, subst}
use mathlib.Core.Bool.{Bool, true, false, not}
use mathlib.Core.List.{List, [], ◌∷◌}
use Prim.Native.Nat.{ℕ, suc, ◌+◌, ◌<◌}
use native.Mathlib.Nat.{add-zero}
use native.Mathlib.Omega.{arith}
use lib.ListN.{length}
use borrow.Author.Tests.{ne_eqb}
use Rattle.rules.specs.declared.kind.Kind.{Kind}
use Rattle.rules.specs.declared.kind.Kind.TheVariants.{Function, Do, If, Else, Loop, End, Break, Continue, Call, Unknown}
use Rattle.rules.specs.Row.{Table, kind_at}
use Rattle.rules.specs.Scan.{Part, body, then_part, else_part, loop_body, Open, regions, has_else, function_row}
use Rattle.rules.specs.Check.{is_then, misplaced_in}
use Rattle.rules.specs.Value.{base, value}
use Rattle.rules.specs.Line.{line_at}
use Rattle.rules.specs.Harden.{line_count, line_of, test_of, end_line, row_lines, harden}
use Rattle.rules.specs.Function.{finish_of}
use Rattle.rules.specs.State.{Frame, State}
use Rattle.rules.specs.Run.{on}
use Rattle.rules.specs.Source.{Source, source_start}
use Rattle.rules.specs.Form.{Form, step_of, start_by}
use Rattle.rules.specs.Match.{is_quiet, quiet_at_lem}
use Rattle.rules.proofs.Logic.{clash}
use Rattle.rules.proofs.Accepted.{Proper}
use Rattle.rules.proofs.Value.{Silent, a_function, fresh-value}
use Rattle.rules.proofs.Harden.{line-at, some_line}
use Rattle.rules.proofs.Function.{InFunction, entry, formed-here, placed-in, not-silent, not-unknown, function-zero, row_zero, some-function}
use Rattle.rules.proofs.Place.{before_finish}
use Rattle.rules.proofs.Form.Settles.{Settles, body_part}
use Rattle.rules.proofs.Form.Relation.{Back, line_backs, src, hard, here, Linked, Mode, ready, ticking, backing, due, Related, Both, owing, extra}
use Rattle.rules.proofs.Form.StepTest.{step-do, step-if, step_loop}
use Rattle.rules.proofs.Form.StepLeave.{step-else, step_end}
use Rattle.rules.proofs.Form.StepOut.{step-break, step-continue}
use Rattle.rules.proofs.Form.StepCall.{step_call, step-return, step-tick, step_back}

-- ---- every row
step-ready : (t : Table) (ok : Proper t) {H : Type 0} {F : Form H} (S : Settles t F) (n i : ℕ) (f : Open) (fs : List Open) → InFunction t n i f fs → (rest : List Back) → Linked t n rest → (l : H) (vs tr : List ℕ)
    → (k : Kind) → kind_at t i ≡ k → Both S (length rest + extra k) (src n i rest vs tr) (step_of F (harden t) (here S n i f fs rest l vs tr))
unfolding misplaced_in
step-ready t ok S n i f fs m rest lk l vs tr Function e = absurd (not-silent t ok i m.within m.open_is (subst Silent (sym e) a_function))
step-ready t ok S n i f fs m rest lk l vs tr Do e = step-do t ok S n i f fs m rest lk l vs tr e
step-ready t ok S n i f fs m rest lk l vs tr If e = owing (omega arith) (step-if t ok S n i f fs m rest lk l vs tr e)
step-ready t ok S n i f [] m rest lk l vs tr Else e =
    clash (ap (λ p. not (is_then p)) (formed-here t ok m).0) (placed-in t ok i m.within e m.open_is)
step-ready t ok S n i f (h ∷ hs) m rest lk l vs tr Else e = owing (omega arith) (step-else t ok S n i f h hs m rest lk l vs tr e)
step-ready t ok S n i f fs m rest lk l vs tr Loop e = owing (omega arith) (step_loop t ok S n i f fs m rest lk l vs tr e)
step-ready t ok S n i f [] m rest lk l vs tr End e = owing (omega arith) (step-return t ok S n i f m l vs tr e (formed-here t ok m).0 rest lk)
step-ready t ok S n i f (h ∷ hs) m rest lk l vs tr End e =
    owing (omega arith) (step_end t ok S n i f h hs m rest lk l vs tr f.part refl (formed-here t ok m).0 e)
step-ready t ok S n i f fs m rest lk l vs tr Break e = owing (omega arith) (step-break t ok S n i f fs m rest lk l vs tr e)
step-ready t ok S n i f fs m rest lk l vs tr Continue e = owing (omega arith) (step-continue t ok S n i f fs m rest lk l vs tr e)
step-ready t ok S n i f fs m rest lk l vs tr Call e = step_call t ok S n i f fs m rest lk l vs tr e
step-ready t ok S n i f fs m rest lk l vs tr Unknown e = absurd (not-unknown t ok i m.within e)

-- ---- which steps are ticks and backs
test-loud : (t : Table) (i : ℕ) (fs : List Open) (b : Bool) → is_quiet (test_of t i fs b) ≡ false
unfolding test_of
test-loud t i fs true = refl
test-loud t i fs false = refl

end-loud : (t : Table) (i : ℕ) (fs : List Open) (p : Part) → is_quiet (end_line t i fs p) ≡ false
end-loud t i fs body = refl
end-loud t i fs then_part = refl
end-loud t i fs else_part = refl
end-loud t i fs loop_body = refl

first-loud : (t : Table) (i : ℕ) (f : Open) (fs : List Open) (k : Kind) → is_quiet (line_at (row_lines t i (f ∷ fs) k) 0) ≡ false
unfolding row_lines
first-loud t i f fs Function = refl
first-loud t i f fs Do = refl
first-loud t i f fs If = test-loud t i (f ∷ fs) (has_else t i)
first-loud t i f fs Else = refl
first-loud t i f fs Loop = test-loud t i (f ∷ fs) false
first-loud t i f fs End = end-loud t i (f ∷ fs) f.part
first-loud t i f fs Break = refl
first-loud t i f fs Continue = refl
first-loud t i f fs Call = refl
first-loud t i f fs Unknown = refl

quiet_at : (t : Table) → Proper t → {H : Type 0} {F : Form H} (S : Settles t F) → {n i : ℕ} {f : Open} {fs : List Open} → InFunction t n i f fs → (k ph : ℕ) → k ≡ line_of t i + ph → ph < line_count (kind_at t i)
    → (c : H) (rest : List (Frame H)) (l : H) (vs tr : List ℕ) → quiet_at_lem (harden t) (hard n k c rest l vs tr) ≡ is_quiet (line_at (row_lines t i (f ∷ fs) (kind_at t i)) ph)
unfolding quiet_at_lem
quiet_at t ok S {n} {i} {f} {fs} m k ph e h c rest l vs tr =
    rw (ne_eqb k (finish_of (harden t) n) (λ x. omega (arith, before_finish t ok m)))
    (ap (λ x. is_quiet (line_at (harden t) x)) e ∙ ap is_quiet (line-at t i ph m.within h ∙ ap (λ s. line_at (row_lines t i s (kind_at t i)) ph) m.open_is))

-- ---- the step from related states
abbrev pub extra_at : Table → Source → ℕ
extra_at t s = extra (kind_at t s.running.at)

pub data Next {H : Type 0} {t : Table} {F : Form H} (S : Settles t F) (d : ℕ) (s : Source) (h : State H) : Type 0 where
  moves : quiet_at_lem (harden t) h ≡ false → Both S (d + extra_at t s) s (step_of F (harden t) h) → Next S d s h
  waits : quiet_at_lem (harden t) h ≡ true → (h' : State H) (d' : ℕ) → step_of F (harden t) h ≡ on h' → Related S d' s h' → d ≡ suc d' → Next S d s h

next-by : (t : Table) → Proper t → {H : Type 0} {F : Form H} (S : Settles t F) → (n i j k w : ℕ) (l : H) (rest : List Back) (vs tr : List ℕ) (f : Open) (fs : List Open) → InFunction t n i f fs → Linked t n rest
    → (x : Mode S i j k w (S.seen l) (value t f.region i))
    → Next S (length rest + due x) (src n j rest vs tr) (hard n k (S.at k (f ∷ fs) w) (line_backs S rest) l vs tr)
unfolding row_lines
next-by t ok S n i j k w l rest vs tr f fs m lk (ready ej ea ew) =
    rw (ej, ea, ew, add-zero (length rest))
    (moves (quiet_at t ok S m (line_of t i) 0 (omega arith) (some_line (kind_at t i) (not-silent t ok i m.within m.open_is)) _ _ l vs tr ∙ first-loud t i f fs (kind_at t i))
    (step-ready t ok S n i f fs m rest lk l vs tr (kind_at t i) refl))
next-by t ok S n i j k w l rest vs tr f fs m lk (ticking e ej ea ew) =
    let x = step-tick t ok S n i f fs m rest lk l vs tr e in
    rw (ej, ea, ew) (waits (quiet_at t ok S m (suc (line_of t i)) 1 (omega arith) (rw e (omega arith)) _ _ l vs tr ∙ rw e) x.0 (length rest) x.1 x.2 (omega arith))
next-by t ok S n i j k w l rest vs tr f fs m lk (backing e ej ea ew el) =
    let x = step_back t ok S n i f fs m rest lk l vs tr e el in
    rw (ej, ea, ew) (waits (quiet_at t ok S m (suc (line_of t i)) 1 (omega arith) (rw e (omega arith)) _ _ l vs tr ∙ rw e) x.0 (length rest) x.1 x.2 (omega arith))

pub next : (t : Table) → Proper t → {H : Type 0} {F : Form H} (S : Settles t F) → (d : ℕ) (s : Source) (h : State H) → Related S d s h → Next S d s h
next t ok S d s h r = rw (r.owes, r.s_is, r.h_is)
    (next-by t ok S r.n r.i r.j r.k r.w r.l r.rest r.vs r.tr r.f r.fs r.in_function r.linked r.mode)

-- ---- the start
pub start : (t : Table) → Proper t → {H : Type 0} {F : Form H} (S : Settles t F) → (vs : List ℕ) → Related S 0 (source_start vs) (start_by F vs)
unfolding regions line_of base
start t ok {F = F} S vs =
    let o = function-zero t ok in
    record {
      n = 0;
      i = suc (function_row t 0);
      j = 1;
      k = 0;
      w = 1;
      l = F.nothing;
      rest = [];
      vs = vs;
      tr = [];
      f = body_part t 0;
      fs = [];
      s_is = refl;
      h_is = ap (λ x. hard 0 0 x [] F.nothing vs []) S.first_is;
      in_function = entry t ok 0 (some-function t ok);
      linked = refl;
      mode = ready (ap suc (sym o)) (sym (ap (λ x. line_of t (suc x)) o ∙ ap (λ k. 0 + line_count k) (row_zero t ok))) (sym (fresh-value t (function_row t 0) ∙ ap (λ x. base t (regions t x)) o));
      owes = omega arith;
    }
