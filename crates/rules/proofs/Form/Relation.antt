-- How an unstruck hardened run stands to its source's run: the same function, variables and trace; the line of the source's row, or
-- the tick or back that follows; what the form settles there is kept. Assumes that the table is accepted, where it says so.
use mathlib.Core.Logic.{◌≢◌}
use mathlib.Core.Path.{◌≡◌, refl, ap, ◌∙◌, subst}
use mathlib.Core.Bool.{Bool, true, false}
use mathlib.Core.List.{List, [], ◌∷◌}
use Prim.Native.Nat.{ℕ, suc, ◌+◌, ◌<◌}
use native.Mathlib.Omega.{arith}
use lib.ListN.{length}
use borrow.Author.Tests.{ne_eqb}
use Rattle.rules.specs.declared.kind.Kind.{Kind}
use Rattle.rules.specs.declared.kind.Kind.TheVariants.{Function, Do, If, Else, Loop, End, Break, Continue, Call, Unknown}
use Rattle.rules.specs.declared.step.Step.{Step}
use Rattle.rules.specs.declared.step.Step.TheVariants.{Finished}
use Rattle.rules.specs.Row.{Table, kind_at, operands_at}
use Rattle.rules.specs.Scan.{Open, open_at}
use Rattle.rules.specs.Value.{value, value_in}
use Rattle.rules.specs.Line.{Line, line_at}
use Rattle.rules.specs.Harden.{line_count, line_of, row_lines, harden}
use Rattle.rules.specs.Function.{finish_of}
use Rattle.rules.specs.State.{Frame, State, frame}
use Rattle.rules.specs.Run.{Turn, on, ends, outcome_of_lem}
use Rattle.rules.specs.Source.{Source, row_step, source_step}
use Rattle.rules.specs.Form.{Form, line_step_of, step_of}
use Rattle.rules.proofs.Logic.{clash}
use Rattle.rules.proofs.Accepted.{Proper}
use Rattle.rules.proofs.Harden.{line-at}
use Rattle.rules.proofs.Function.{InFunction}
use Rattle.rules.proofs.Place.{before_finish}
use Rattle.rules.proofs.Form.Settles.{Settles}

-- ---- a caller that waits: its function and the row of its call
pub record Back : Type 0 where
  pub function : ℕ
  pub row : ℕ

-- what it keeps: the call has moved its region on by 1
abbrev pub waiting : {H : Type 0} {t : Table} {F : Form H} → Settles t F → ℕ → H
waiting {H} {t} S i = S.at (suc (line_of t i)) (open_at t i) (value_in t i (open_at t i) + 1)

abbrev pub source_backs : List Back → List (Frame (Unit {0}))
source_backs [] = []
source_backs (b ∷ bs) = frame b.function (suc b.row) tt ∷ source_backs bs

abbrev pub line_backs : {H : Type 0} {t : Table} {F : Form H} → Settles t F → List Back → List (Frame H)
line_backs S [] = []
line_backs {H} {t} S (b ∷ bs) = frame b.function (suc (line_of t b.row)) (waiting S b.row) ∷ line_backs S bs

pub backs-length : {H : Type 0} {t : Table} {F : Form H} (S : Settles t F) (bs : List Back) → length (line_backs S bs) ≡ length (source_backs bs)
backs-length S [] = refl
backs-length S (b ∷ bs) = ap suc (backs-length S bs)

-- ---- the states of the two runs
abbrev pub src : (n i : ℕ) → List Back → (vs tr : List ℕ) → Source
src n i rest vs tr = record { running = frame n i tt; callers = source_backs rest; last = tt; vars = vs; trace = tr }

abbrev pub hard : {H : Type 0} → (n k : ℕ) → H → List (Frame H) → (last : H) → (vs tr : List ℕ) → State H
hard n k c fs l vs tr = record { running = frame n k c; callers = fs; last = l; vars = vs; trace = tr }

-- the hardened run before the first line of row i
abbrev pub here : {H : Type 0} {t : Table} {F : Form H} → Settles t F → (n i : ℕ) (f : Open) (fs : List Open) (rest : List Back) (l : H) (vs tr : List ℕ) → (State H)
here {H} {t} S n i f fs rest l vs tr = hard n (line_of t i) (S.at (line_of t i) (f ∷ fs) (value t f.region i)) (line_backs S rest) l vs tr

-- every caller waits at a call of the function above it, and the oldest is function 0
pub record Caller (t : Table) (n : ℕ) (b : Back) : Type 0 where
  pub calls : kind_at t b.row ≡ Call
  pub callee : (operands_at t b.row).n ≡ n
  pub top : Open
  pub others : List Open
  pub in_function : InFunction t b.function b.row top others

abbrev pub Linked : Table → ℕ → List Back → Type 0
Linked t n [] = n ≡ 0
Linked t n (b ∷ bs) = Caller t n b × Linked t b.function bs

-- Row i, the source's row j, the line k; the innermost region has reached w, where row i's value is u; the function that returned last is
-- seen to have ended at `last`.
pub data Mode {H : Type 0} {t : Table} {F : Form H} (S : Settles t F) (i j k w last u : ℕ) : Type 0 where
  ready : j ≡ i → k ≡ line_of t i → w ≡ u → Mode S i j k w last u
  ticking : kind_at t i ≡ Do → j ≡ suc i → k ≡ suc (line_of t i) → w ≡ u → Mode S i j k w last u
  backing : kind_at t i ≡ Call → j ≡ suc i → k ≡ suc (line_of t i) → w ≡ u + 1 → last ≡ S.end (operands_at t i).n → Mode S i j k w last u

-- ticks and backs that are due at once
abbrev pub due : {H : Type 0} {t : Table} {F : Form H} {S : Settles t F} {i j k w last u : ℕ} → Mode S i j k w last u → ℕ
due (ready a b c) = 0
due (ticking e a b c) = 1
due (backing e a b c l) = 1

-- the tick of row i is due
abbrev pub tick_due : {H : Type 0} {t : Table} {F : Form H} {S : Settles t F} {i j k w last u : ℕ} → Mode S i j k w last u → Bool
tick_due (ready a b c) = false
tick_due (ticking e a b c) = true
tick_due (backing e a b c l) = false

-- d more ticks and backs are owed: the one that is due, and a back for each caller that waits
pub record Related {H : Type 0} {t : Table} {F : Form H} (S : Settles t F) (d : ℕ) (s : Source) (h : State H) : Type 0 where
  pub n : ℕ
  pub i : ℕ
  pub j : ℕ
  pub k : ℕ
  pub w : ℕ
  pub l : H
  pub rest : List Back
  pub vs : List ℕ
  pub tr : List ℕ
  pub f : Open
  pub fs : List Open
  pub s_is : s ≡ src n j rest vs tr
  pub h_is : h ≡ hard n k (S.at k (f ∷ fs) w) (line_backs S rest) l vs tr
  pub in_function : InFunction t n i f fs
  pub linked : Linked t n rest
  pub mode : Mode S i j k w (S.seen l) (value t f.region i)
  pub owes : d ≡ length rest + due mode

-- where a step of the source from row x leads: a tick is due only right after its do
pub record Arrives {H : Type 0} {t : Table} {F : Form H} (S : Settles t F) (d x : ℕ) (s : Source) (h : State H) : Type 0 where
  pub related : Related S d s h
  pub after_do : tick_due related.mode ≡ true → related.i ≡ x

-- an end leaves the same variables, the same trace and the same open functions
pub record Same {H : Type 0} {t : Table} {F : Form H} (S : Settles t F) (s : Source) (h : State H) : Type 0 where
  pub n : ℕ
  pub i : ℕ
  pub k : ℕ
  pub l : H
  pub rest : List Back
  pub c : H
  pub vs : List ℕ
  pub tr : List ℕ
  pub s_is : s ≡ src n i rest vs tr
  pub h_is : h ≡ hard n k c (line_backs S rest) l vs tr

-- an end that both runs share: the finish, where nothing is owed any more, or one before it that is no alarm
pub data SharedEnd (d : ℕ) (o : Step) : Type 0 where
  finish : o ≡ Finished → d ≡ 0 → SharedEnd d o
  early : outcome_of_lem o ≢ 0 → outcome_of_lem o ≢ 1 → outcome_of_lem o ≢ 2 → SharedEnd d o

-- the step of the source from g, and a step b of the hardened run
pub data Both {H : Type 0} {t : Table} {F : Form H} (S : Settles t F) (d : ℕ) (g : Source) (b : Turn H) : Type 0 where
  both_on : (s : Source) (h : State H) → source_step t g ≡ on s → b ≡ on h → Arrives S d g.running.at s h → Both S d g b
  both_end : (o : Step) (s : Source) (h : State H) → source_step t g ≡ ends o s → b ≡ ends o h → Same S s h → SharedEnd d o → Both S d g b

pub owing : {H : Type 0} {t : Table} {F : Form H} {S : Settles t F} {d e : ℕ} {g : Source} {b : Turn H} → d ≡ e → Both S d g b → Both S e g b
owing {H} {t} {F} {S} {d} {e} {g} {b} q x = subst (λ y. Both S y g b) q x

-- a do is followed by a tick, a call by a back
abbrev pub extra : Kind → ℕ
extra Function = 0
extra Do = 1
extra If = 0
extra Else = 0
extra Loop = 0
extra End = 0
extra Break = 0
extra Continue = 0
extra Call = 1
extra Unknown = 0

-- ---- one step of each machine at a row that is known
pub source-step : (t : Table) (n i : ℕ) (rest : List Back) (vs tr : List ℕ) {k : Kind} {fs : List Open} → kind_at t i ≡ k → open_at t i ≡ fs
    → source_step t (src n i rest vs tr) ≡ row_step t i fs k (src n i rest vs tr)
unfolding source_step
source-step t n i rest vs tr {k} {fs} e q = ap (λ x. row_step t i (open_at t i) x (src n i rest vs tr)) e ∙ ap (λ x. row_step t i x k (src n i rest vs tr)) q

pub line_step : (t : Table) → Proper t → {H : Type 0} {F : Form H} (S : Settles t F) → {n i : ℕ} {f : Open} {fs : List Open} → InFunction t n i f fs → (k ph : ℕ) (ℓ : Line) → k ≡ line_of t i + ph → ph < line_count (kind_at t i)
    → line_at (row_lines t i (f ∷ fs) (kind_at t i)) ph ≡ ℓ → (c : H) (rest : List (Frame H)) (l : H) (vs tr : List ℕ)
    → step_of F (harden t) (hard n k c rest l vs tr) ≡ line_step_of F (harden t) k ℓ (hard n k c rest l vs tr)
unfolding step_of
line_step t ok S {n} {i} {f} {fs} m k ph ℓ e h q c rest l vs tr =
    rw (ne_eqb k (finish_of (harden t) n) (λ x. omega (arith, before_finish t ok m)), ap (line_at (harden t)) e ∙ line-at t i ph m.within h ∙ ap (λ s. line_at (row_lines t i s (kind_at t i)) ph) m.open_is ∙ q)

-- both runs before row j
pub ready_at : {H : Type 0} {t : Table} {F : Form H} (S : Settles t F) {n j k w : ℕ} {g : Open} {gs : List Open} → InFunction t n j g gs → (rest : List Back) → Linked t n rest → k ≡ line_of t j → w ≡ value t g.region j
    → (l : H) (vs tr : List ℕ) → (c : H) → c ≡ S.at k (g ∷ gs) w
    → Related S (length rest) (src n j rest vs tr) (hard n k c (line_backs S rest) l vs tr)
ready_at S {n} {j} {k} {w} {g} {gs} m rest lk a e l vs tr c p =
    record {
      n = n;
      i = j;
      j = j;
      k = k;
      w = w;
      l = l;
      rest = rest;
      vs = vs;
      tr = tr;
      f = g;
      fs = gs;
      s_is = refl;
      h_is = ap (λ x. hard n k x (line_backs S rest) l vs tr) p;
      in_function = m;
      linked = lk;
      mode = ready refl a e;
      owes = omega arith;
    }

-- the same, after a step from row x
pub ready-after : {H : Type 0} {t : Table} {F : Form H} (S : Settles t F) (x : ℕ) {n j k w : ℕ} {g : Open} {gs : List Open} → InFunction t n j g gs → (rest : List Back) → Linked t n rest → k ≡ line_of t j
    → w ≡ value t g.region j → (l : H) (vs tr : List ℕ) → (c : H) → c ≡ S.at k (g ∷ gs) w
    → Arrives S (length rest) x (src n j rest vs tr) (hard n k c (line_backs S rest) l vs tr)
unfolding ready_at
ready-after S x m rest lk a e l vs tr c p = record { related = ready_at S m rest lk a e l vs tr c p; after_do = λ q. clash {b = false} q refl }

-- a line of the function that is known
pub step-at : {H : Type 0} {t : Table} {F : Form H} (S : Settles t F) (n k : ℕ) (ℓ : Line) → k < finish_of (harden t) n → line_at (harden t) k ≡ ℓ → (c : H) (rest : List (Frame H)) (l : H) (vs tr : List ℕ)
    → step_of F (harden t) (hard n k c rest l vs tr) ≡ line_step_of F (harden t) k ℓ (hard n k c rest l vs tr)
unfolding step_of
step-at {H} {t} S n k ℓ h q c rest l vs tr = rw (ne_eqb k (finish_of (harden t) n) (omega arith), q)
