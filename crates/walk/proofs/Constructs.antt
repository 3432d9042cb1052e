-- What `construct` answers for each kind of row, as laws. Assumes nothing.
use mathlib.Core.Path.{◌≡◌, refl, sym, ◌∙◌}
use mathlib.Core.Bool.{Bool, true, false}
use mathlib.Core.List.{List}
use Prim.Native.Nat.{ℕ, zero, suc, ◌+◌, ◌*◌, ◌≤◌, ◌<◌}
use native.Mathlib.Nat.{add-zero, le_refl}
use native.Mathlib.Numerals.{add-one}
use native.Mathlib.Omega.{arith}
use lib.ListN.{length, drop, length-drop}
use Rattle.rules.specs.declared.kind.Kind.{Kind}
use Rattle.rules.specs.declared.kind.Kind.TheVariants.{Function, Else, End, Break, Continue, Call, Unknown}
use Rattle.rules.specs.declared.refusal.Refusal.{Refusal}
use Rattle.rules.specs.declared.refusal.Refusal.TheVariants.{WrongField, Misplaced}
use Rattle.rules.specs.Row.{row_width, row_in, fields_fit_lem}
use Rattle.rules.specs.Scan.{Open}
use Rattle.rows.specs.First.{first_kind_lem}
use Rattle.walk.specs.Standing.{Inside}
use Rattle.walk.specs.Walked.{TurnedAway, step_rows, fields_verdict, jump_step, StepOk}
use Rattle.rules.specs.Verdict.{Verdict, Accepted, Refused}
use Rattle.std.specs.Prelude.{Ok, Err}
use Rattle.std.specs.Result.{result_and}
use mathlib.Core.Logic.{◌⊎◌, inl, inr}
use Rattle.rows.specs.Dos.{DosAre}
use Rattle.rows.proofs.Fields.{none-fits}
use Rattle.rows.proofs.FirstRow.{first_fits, first-wrong}
use Rattle.rows.proofs.Rows.{drops}
use Rattle.walk.proofs.Stepping.{inside-at, inside_do, inside-wrong, inside_function, inside_call, inside_break, inside_break_out, inside_continue, inside_continue_out}
use Rattle.walk.specs.Answer.{StepAnswer, Faulty, Past, EndHere, ElseHere}

-- where a walk stands after dos
pub dos-past : {bs xs : List ℕ} {i : ℕ} {h : Open} {hs : List Open} {d o : ℕ} {b : Bool} {n : ℕ} {e l : List ℕ} {count : ℕ}
    → Inside bs xs i h hs d o b n e l → DosAre xs count → (m : ℕ) → m ≤ count → Inside bs (drop (row_width * m) xs) (i + m) h hs d o b n e l
dos-past {i = i} w v zero le = inside-at w refl (sym (add-zero i)) refl refl
dos-past {xs = xs} {i = i} {count = count} w v (suc m) le =
    inside-at
    (inside_do (dos-past w v m (omega arith)) (omega (arith, length-drop (row_width * m) xs, v.fit)) (v.each m (omega arith)))
    (drops xs (row_width * m) row_width (row_width * suc m) (omega arith))
    (omega arith)
    refl
    refl

module _ {xs : List ℕ} {base d o : ℕ} {b : Bool} {e l : List ℕ} where
  -- a row that is turned away, and a row that leaves the open parts as they are
  pub faulty : {e' l' : List ℕ} {c : Refusal} → 5 < length xs
      → ((bs : List ℕ) (h : Open) (hs : List Open) (n : ℕ) → Inside bs xs base h hs d o b n e l → TurnedAway bs c)
      → StepOk xs base d o b e l e' l' (Faulty c)
  unfolding step_rows
  faulty long f = record { some = omega arith; fit = omega arith; leads = f }

  one_row : 5 < length xs
      → ((bs : List ℕ) (h : Open) (hs : List Open) (n : ℕ) → Inside bs xs base h hs d o b n e l → Inside bs (drop row_width xs) (suc base) h hs d o b n e l)
      → StepOk xs base d o b e l e l (Past 1 o)
  unfolding step_rows
  one_row long f = record {
    some = omega arith;
    fit = omega arith;
    leads = λ bs h hs n w. inside-at (f bs h hs n w) refl (sym (add-one base)) refl refl;
  }

  module _ (long : 5 < length xs) where
    a_function : first_kind_lem xs ≡ Function → StepOk xs base d o b e l e l (Faulty Misplaced)
    a_function q = faulty long (λ bs h hs n w. inside_function w long q)

    wrong : first_kind_lem xs ≡ Unknown → StepOk xs base d o b e l e l (Faulty WrongField)
    wrong q = faulty long (λ bs h hs n w. inside-wrong w long q)

    a_call : first_kind_lem xs ≡ Call → StepOk xs base d o b e l e l (Past 1 o)
    a_call q = one_row long (λ bs h hs n w. inside_call w long q)

    an_end : first_kind_lem xs ≡ End → StepOk xs base d o b e l e l EndHere
    unfolding step_rows
    an_end q = record { some = omega arith; fit = omega arith; leads = λ bs h hs n w. record { here = w; kind_is = q } }

    an_else : first_kind_lem xs ≡ Else → StepOk xs base d o b e l e l ElseHere
    unfolding step_rows
    an_else q = record { some = omega arith; fit = omega arith; leads = λ bs h hs n w. record { here = w; kind_is = q } }

  pub at-dos : {count : ℕ} → DosAre xs count → StepOk xs base d o b e l e l (Past count o)
  unfolding step_rows
  at-dos {count} v = record { some = v.some; fit = v.fit; leads = λ bs h hs n w. dos-past w v count (le_refl count) }

module _ {xs : List ℕ} {base d o : ℕ} {e l : List ℕ} (long : 5 < length xs) where
  a-break : (b : Bool) → first_kind_lem xs ≡ Break → StepOk xs base d o b e l e l (jump_step o b)
  a-break true q = one_row long (λ bs h hs n w. inside_break w long q refl)
  a-break false q = faulty long (λ bs h hs n w. inside_break_out w long q refl)

  a-continue : (b : Bool) → first_kind_lem xs ≡ Continue → StepOk xs base d o b e l e l (jump_step o b)
  a-continue true q = one_row long (λ bs h hs n w. inside_continue w long q refl)
  a-continue false q = faulty long (λ bs h hs n w. inside_continue_out w long q refl)

-- what the first byte's name and the test of the fields say of the row
fits-or-not : (xs : List ℕ) (k : Kind) {v : Verdict} → v ≡ fields_verdict k xs
    → ((v ≡ Accepted) × (fields_fit_lem k (row_in xs 0).operands ≡ true)) ⊎ ((v ≡ Refused WrongField) × (fields_fit_lem k (row_in xs 0).operands ≡ false))
fits-or-not xs k {v} q = by (fields_fit_lem k (row_in xs 0).operands) refl
  where
    by : (f : Bool) → fields_fit_lem k (row_in xs 0).operands ≡ f
        → ((v ≡ Accepted) × (fields_fit_lem k (row_in xs 0).operands ≡ true)) ⊎ ((v ≡ Refused WrongField) × (fields_fit_lem k (row_in xs 0).operands ≡ false))
    by true e = inl (rw e at q, e)
    by false e = inr (rw e at q, e)

pub kind_at : (xs : List ℕ) (k : Kind) {k' : Kind} {v : Verdict} {u : Unit {0}} → k' ≡ (row_in xs 0).kind → k' ≡ k → v ≡ fields_verdict k xs → v ≡ Ok u
    → first_kind_lem xs ≡ k
kind_at xs k {v = v} p m q t = by (fits-or-not xs k q)
  where
    by : ((v ≡ Accepted) × (fields_fit_lem k (row_in xs 0).operands ≡ true)) ⊎ ((v ≡ Refused WrongField) × (fields_fit_lem k (row_in xs 0).operands ≡ false))
        → first_kind_lem xs ≡ k
    by (inl e) = sym (first_fits xs (sym m ∙ p) refl e.1)
    by (inr e) = cc

module _ {xs : List ℕ} {base d o : ℕ} {b : Bool} {e l : List ℕ} {k : Kind} (long : 5 < length xs) (p : k ≡ (row_in xs 0).kind) where
  pub at-wrong : {c : Kind} {v : Verdict} {r : Refusal} → k ≡ c → v ≡ fields_verdict c xs → v ≡ Err r
      → StepOk xs base d o b e l e l (Faulty r)
  at-wrong {c} {v} {r} m q t = by (fits-or-not xs c q)
    where
      by : ((v ≡ Accepted) × (fields_fit_lem c (row_in xs 0).operands ≡ true)) ⊎ ((v ≡ Refused WrongField) × (fields_fit_lem c (row_in xs 0).operands ≡ false))
          → StepOk xs base d o b e l e l (Faulty r)
      by (inl w) = cc
      by (inr w) = let z : WrongField ≡ r = cc in rw (← z) (wrong long (sym (first-wrong xs (sym m ∙ p) refl w.1)))

  pub at-unknown : k ≡ Unknown → StepOk xs base d o b e l e l (Faulty WrongField)
  at-unknown m = wrong long (sym (first-wrong xs (sym m ∙ p) refl (sym (none-fits (row_in xs 0).operands refl))))

  -- what fits is answered by `s`
  fit-or-not : {c : Kind} {s r : StepAnswer} {v : Verdict} → k ≡ c → v ≡ fields_verdict c xs
      → (first_kind_lem xs ≡ c → StepOk xs base d o b e l e l s) → r ≡ result_and v s → StepOk xs base d o b e l e l r
  fit-or-not {c} {s} {r} {v} m q g z = by (fits-or-not xs c q)
    where
      by : ((v ≡ Accepted) × (fields_fit_lem c (row_in xs 0).operands ≡ true)) ⊎ ((v ≡ Refused WrongField) × (fields_fit_lem c (row_in xs 0).operands ≡ false))
          → StepOk xs base d o b e l e l r
      by (inl w) = rw (z, w.0) (g (kind_at xs c p m q w.0))
      by (inr w) = rw (z, w.0) (at-wrong m q w.0)

  module _ {v : Verdict} {r : StepAnswer} where
    pub at-function : k ≡ Function → v ≡ fields_verdict Function xs → r ≡ result_and v (Faulty Misplaced) → StepOk xs base d o b e l e l r
    at-function m q = fit-or-not m q (a_function long)

    pub at-else : k ≡ Else → v ≡ fields_verdict Else xs → r ≡ result_and v ElseHere → StepOk xs base d o b e l e l r
    at-else m q = fit-or-not m q (an_else long)

    pub at_end : k ≡ End → v ≡ fields_verdict End xs → r ≡ result_and v EndHere → StepOk xs base d o b e l e l r
    at_end m q = fit-or-not m q (an_end long)

    pub at_call : k ≡ Call → v ≡ fields_verdict Call xs → r ≡ result_and v (Past 1 o) → StepOk xs base d o b e l e l r
    at_call m q = fit-or-not m q (a_call long)

    module _ {s : StepAnswer} (j : s ≡ jump_step o b) where
      pub at-break : k ≡ Break → v ≡ fields_verdict Break xs → r ≡ result_and v s → StepOk xs base d o b e l e l r
      at-break m q = fit-or-not m q (λ a. rw j (a-break long b a))

      pub at-continue : k ≡ Continue → v ≡ fields_verdict Continue xs → r ≡ result_and v s → StepOk xs base d o b e l e l r
      at-continue m q = fit-or-not m q (λ a. rw j (a-continue long b a))
