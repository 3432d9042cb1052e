-- What the pass finds and what the check of the chain finds, together, and that taken apart by the answer. Assumes nothing.
use mathlib.Core.Path.{◌≡◌, sym, ap, ◌∙◌, subst}
use mathlib.Core.List.{List}
use Prim.Native.Nat.{ℕ, ◌*◌, ◌≤◌}
use native.Mathlib.Omega.{arith}
use lib.ListN.{length, take}
use Rattle.rules.specs.declared.refusal.Refusal.{Refusal}
use Rattle.rules.specs.Verdict.{Verdict, Accepted, Refused}
use Rattle.rules.specs.Limits.{max_rows}
use Rattle.rules.specs.Row.{row_width}
use Rattle.rules.specs.Check.{verdict_of}
use Rattle.rules.specs.Switch.{chain_bytes}
use Rattle.rules.specs.Given.{given_verdict}
use Rattle.rules.specs.Links.{Checked}
use Rattle.rules.proofs.Switch.Chain.{chain-accepted}
use Rattle.rules.proofs.Switch.Bound.{few_chained}
use Rattle.std.specs.Prelude.{Ok, Err}
use Rattle.fault.specs.declared.pass.TableFault.{TableFault}
use Rattle.fault.specs.Found.{Found, HasChain, FoundOk}
use Rattle.chain.specs.Linked.{Linked, ChainLinked, LinkedOk}

module _ {rows chain : List ℕ} {x : Found} (ok : FoundOk rows chain x) where
  pub link-refused : {f : TableFault} {ends elses heads : List ℕ} → x ≡ Err f → LinkedOk rows chain ends elses heads (Err f.cause)
  link-refused m = record { leads = (subst (FoundOk rows chain) m ok).leads.refused }

  module _ {n : ℕ} (m : x ≡ Ok n) (long : length chain ≡ row_width * max_rows) where
    found : HasChain rows n chain
    found = (subst (FoundOk rows chain) m ok).leads

    pub chain_fits : row_width * n ≤ row_width * max_rows
    chain_fits = omega (arith, found.rows_are, few_chained rows found.accepted)

    front : chain_bytes rows ≡ take (row_width * n) chain
    unfolding chain_bytes
    front =
        let q = found.rows_are in
        sym (found.written (omega (arith, long, few_chained rows found.accepted))) ∙ ap (λ k. take (row_width * k) chain) (sym q)

    good : verdict_of (take (row_width * n) chain) ≡ Accepted
    good = ap verdict_of (sym front) ∙ chain-accepted rows found.accepted

    -- the check of the chain turns nothing away
    pub link-checked : {v : Verdict} {c : Refusal} {ends elses heads : List ℕ} {r : Linked} → Checked (take (row_width * n) chain) v ends elses heads → v ≡ Err c
        → LinkedOk rows chain ends elses heads r
    link-checked k m = let e : Err _ ≡ Accepted = sym m ∙ k.verdict_is ∙ good in cc

    pub link-found : {v : Verdict} {ends elses heads : List ℕ} → Checked (take (row_width * n) chain) v ends elses heads
        → LinkedOk rows chain ends elses heads (Ok (row_width * n))
    link-found {v} k =
        record {
          leads = record {
            within = omega (arith, long, chain_fits);
            stands = record { accepted = found.accepted; chain_is = front };
            accepted = good;
            links = k.links (k.verdict_is ∙ good);
          };
        }

-- ---- by what `link` answers
module _ {rows chain ends elses heads : List ℕ} {x : Linked} (ok : LinkedOk rows chain ends elses heads x) where
  pub linked-refused : {c : Refusal} → x ≡ Err c → given_verdict rows ≡ Refused c
  linked-refused m = (subst (LinkedOk rows chain ends elses heads) m ok).leads

  pub linked-chain : {n : ℕ} → x ≡ Ok n → ChainLinked rows chain ends elses heads n
  linked-chain m = (subst (LinkedOk rows chain ends elses heads) m ok).leads
