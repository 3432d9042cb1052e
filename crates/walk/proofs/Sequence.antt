-- The loop of `sequence`: its invariant and what it answers, as laws; and what an answer by name says as numbers. Assumes nothing.
use mathlib.Core.Path.{◌≡◌, refl, sym, ap}
use mathlib.Core.Bool.{Bool}
use mathlib.Core.List.{List}
use Prim.Native.Nat.{ℕ, ◌+◌, ◌*◌, ◌-◌, ◌≤◌}
use native.Mathlib.Nat.{add-zero}
use native.Mathlib.Omega.{arith}
use lib.ListN.{length, take, drop, length-drop}
use Rattle.rules.specs.declared.refusal.Refusal.{Refusal}
use Rattle.rules.specs.declared.refusal.Refusal.TheVariants.{Misplaced}
use Rattle.rules.specs.Scan.{Open}
use Rattle.walk.specs.Standing.{Inside}
use Rattle.walk.specs.Walked.{seq_rows, step_rows, rest_rows, SeqOk, StepOk}
use Rattle.rows.proofs.Rows.{rest_all, drops}
use Rattle.walk.proofs.Stepping.{inside-at, inside-end}
use Rattle.walk.specs.Answer.{SeqAnswer, Broken, AtEnd, AtElse, StepAnswer, Faulty, Past, EndHere, ElseHere, RestAnswer, Rows}

-- up to the row `at`, with o' regions opened
pub record SeqTo (xs : List ℕ) (base d o : ℕ) (b : Bool) (e₀ l₀ e l : List ℕ) (at o' : ℕ) : Type 0 where
  pub le : 6 * at ≤ length xs
  pub leads : (bs : List ℕ) (h : Open) (hs : List Open) (n : ℕ) → Inside bs xs base h hs d o b n e₀ l₀
      → Inside bs (drop (6 * at) xs) (base + at) h hs d o' b n e l

pub to_start : {xs : List ℕ} {base d o : ℕ} {b : Bool} {e l : List ℕ} → SeqTo xs base d o b e l e l 0 o
to_start {base = base} = record {
  le = omega arith;
  leads = λ bs h hs n w. inside-at w refl (sym (add-zero base)) refl refl;
}

step-at : (xs : List ℕ) {base d o : ℕ} {b : Bool} {e l e' l' : List ℕ} {r r' : StepAnswer} (a : ℕ)
    → StepOk (take (length xs - a) (drop a xs)) base d o b e l e' l' r → r ≡ r' → StepOk (drop a xs) base d o b e l e' l' r'
step-at xs a h q = rw (rest_all a xs, q) at h

module _ {xs : List ℕ} {base d o : ℕ} {b : Bool} {e₀ l₀ e l : List ℕ} {at o' : ℕ} (v : SeqTo xs base d o b e₀ l₀ e l at o') where
  pub to_out : length xs ≤ 6 * at + 5 → SeqOk xs base d o b e₀ l₀ e l (Broken Misplaced)
  unfolding seq_rows
  to_out a = record {
    fit = omega arith;
    leads = λ bs h hs n w. inside-end (v.leads bs h hs n w) (omega (arith, length-drop (6 * at) xs));
  }

  module _ {e' l' : List ℕ} {r : StepAnswer} (ok : StepOk (take (length xs - 6 * at) (drop (6 * at) xs)) (base + at) d o' b e l e' l' r) where
    pub to-broken : {c : Refusal} → r ≡ Faulty c → SeqOk xs base d o b e₀ l₀ e' l' (Broken c)
    unfolding seq_rows
    to-broken m = let s = step-at xs (6 * at) ok m in record {
      fit = omega arith;
      leads = λ bs h hs n w. s.leads bs h hs n (v.leads bs h hs n w);
    }

    pub to_end : r ≡ EndHere → SeqOk xs base d o b e₀ l₀ e' l' (AtEnd at o')
    unfolding seq_rows step_rows
    to_end m = let s = step-at xs (6 * at) ok m in record {
      fit = omega (arith, v.le, s.fit, length-drop (6 * at) xs);
      leads = λ bs h hs n w. s.leads bs h hs n (v.leads bs h hs n w);
    }

    pub to-else : r ≡ ElseHere → SeqOk xs base d o b e₀ l₀ e' l' (AtElse at o')
    unfolding seq_rows step_rows
    to-else m = let s = step-at xs (6 * at) ok m in record {
      fit = omega (arith, v.le, s.fit, length-drop (6 * at) xs);
      leads = λ bs h hs n w. s.leads bs h hs n (v.leads bs h hs n w);
    }

    pub to-past : {k o'' : ℕ} → r ≡ Past k o'' → SeqTo xs base d o b e₀ l₀ e' l' (at + k) o''
    unfolding step_rows
    to-past {k} m = let s = step-at xs (6 * at) ok m in record {
      le = omega (arith, v.le, s.fit, length-drop (6 * at) xs);
      leads = λ bs h hs n w. inside-at (s.leads bs h hs n (v.leads bs h hs n w)) (drops xs (6 * at) (6 * k) (6 * (at + k)) (omega arith)) (omega arith) refl refl;
    }

pub ruleset sequences = (to_start, to_out, to-broken, to_end, to-else, to-past)

-- ---- rules for `omega`
pub end-rows : (r : SeqAnswer) (k o : ℕ) → r ≡ AtEnd k o → seq_rows r ≡ k + 1
unfolding seq_rows
end-rows r k o m = ap seq_rows m

pub else_rows : (r : SeqAnswer) (k o : ℕ) → r ≡ AtElse k o → seq_rows r ≡ k + 1
unfolding seq_rows
else_rows r k o m = ap seq_rows m

pub past-rows : (r : StepAnswer) (k o : ℕ) → r ≡ Past k o → step_rows r ≡ k
unfolding step_rows
past-rows r k o m = ap step_rows m

pub rest-rows-are : (r : RestAnswer) (k o : ℕ) → r ≡ Rows k o → rest_rows r ≡ k
unfolding rest_rows
rest-rows-are r k o m = ap rest_rows m

pub ruleset rows_of_lem = (end-rows, else_rows, past-rows, rest-rows-are)
