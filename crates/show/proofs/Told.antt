-- The calls of a table as given, by those of its chain. Assumes nothing.
use mathlib.Core.Path.{◌≡◌, refl, sym, ap, ◌∙◌}
use mathlib.Core.List.{List}
use Prim.Native.Nat.{ℕ}
use lib.ListN.{take}
use Rattle.std.specs.Prelude.{Ok, Err}
use Rattle.rules.specs.declared.refusal.Refusal.{Refusal}
use Rattle.rules.specs.Verdict.{Verdict, Accepted}
use Rattle.rules.specs.Bytes.{AreBytes}
use Rattle.rules.specs.Row.{table_of}
use Rattle.rules.specs.Chained.{StandsFor}
use Rattle.rules.specs.Links.{Checked}
use Rattle.rules.specs.Match.{calls_in}
use Rattle.rules.proofs.Accepted.{refused-not}
use Rattle.rules.proofs.Switch.Plain.{plain-accepted}
use Rattle.chain.specs.Linked.{Linked, LinkedOk}
use Rattle.chain.proofs.Links.{linked-refused, linked-chain}
use Rattle.show.specs.Calls.{CallsTold}

module _ {rows chain : List ℕ} (s : StandsFor rows chain) {budget : ℕ} {vs : List ℕ} {W : Type 0} {before page : W} {calls : ℕ} (e : calls ≡ calls_in (table_of chain) budget vs) where
  pub told-chain : CallsTold rows budget vs before page calls
  told-chain =
      record {
        accepted = λ a. e ∙ ap (λ x. calls_in (table_of x) budget vs) (sym s.chain_is);
        refused = λ c r. refused-not (sym r ∙ s.accepted);
      }

-- what the walkers accept is its own chain
pub told-own : {W : Type 0} {before page : W} {rows ends elses heads vs : List ℕ} {budget calls : ℕ} {v : Verdict} → AreBytes rows → Checked rows v ends elses heads → v ≡ Accepted
    → calls ≡ calls_in (table_of rows) budget vs → CallsTold rows budget vs before page calls
told-own {rows} w checked m e = told-chain (plain-accepted rows w (sym checked.verdict_is ∙ m)) e

module _ {rows chain ends elses heads : List ℕ} {x : Linked} (ok : LinkedOk rows chain ends elses heads x) where
  pub told-linked : {W : Type 0} {before page : W} {n budget calls : ℕ} {vs : List ℕ} → x ≡ Ok n → calls ≡ calls_in (table_of (take n chain)) budget vs → CallsTold rows budget vs before page calls
  told-linked m e = told-chain (linked-chain ok m).stands e

  pub told-refused : {W : Type 0} {page : W} {c : Refusal} {budget : ℕ} {vs : List ℕ} → x ≡ Err c → CallsTold rows budget vs page page 0
  told-refused m =
      record {
        accepted = λ a. refused-not (sym (linked-refused ok m) ∙ a);
        refused = λ c r. (refl, refl);
      }
