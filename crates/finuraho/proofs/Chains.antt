-- What the calls give, by what the walkers or the pass over the rows as given found. Assumes nothing.
use mathlib.Core.Path.{◌≡◌, sym, ap, ◌∙◌, subst}
use mathlib.Core.List.{List}
use Prim.Native.Nat.{ℕ, ◌/◌}
use lib.ListN.{length}
use Rattle.rules.specs.declared.answer.Fault.{Fault}
use Rattle.rules.specs.declared.refusal.Refusal.{Refusal}
use Rattle.rules.specs.Verdict.{Verdict, Accepted}
use Rattle.rules.specs.Bytes.{AreBytes}
use Rattle.rules.specs.Row.{row_width}
use Rattle.rules.specs.Refusal.{number_of, refusal_number}
use Rattle.rules.specs.Check.{verdict_of}
use Rattle.rules.specs.Chained.{StandsFor}
use Rattle.rules.specs.Links.{Checked}
use Rattle.rules.specs.Calls.{check_call}
use Rattle.rules.specs.Fault.{stop_row, fault_call}
use Rattle.rules.proofs.Switch.Plain.{plain-accepted}
use Rattle.std.specs.Prelude.{Ok, Err}
use Rattle.fault.specs.declared.pass.TableFault.{TableFault}
use Rattle.fault.specs.Found.{Found, FoundOk}

-- ---- the fault, and the number alone
module _ (rows out : List ℕ) (x : Found) (ok : FoundOk rows out x) where
  pub fault-found : (f : TableFault) (n : ℕ) → x ≡ Err f → n ≡ refusal_number f.cause → record { number = n; row = f.row } ≡ fault_call rows
  unfolding fault_call stop_row
  fault-found f n m q =
      let o = (subst (FoundOk rows out) m ok).leads in
      rw (o.refused, q, o.row_is)

  pub fault-none : (n : ℕ) → x ≡ Ok n → record { number = 0; row = length rows / row_width } ≡ fault_call rows
  unfolding fault_call stop_row
  fault-none n m = let o = (subst (FoundOk rows out) m ok).leads in rw o.accepted

pub fault-number : (rows : List ℕ) (f : Fault) → f ≡ fault_call rows → f.number ≡ check_call rows
unfolding fault_call
fault-number rows f e = ap (λ x. x.number) e

-- ---- what the walkers accept is its own chain
module _ {rows ends elses heads : List ℕ} {v : Verdict} (w : AreBytes rows) (checked : Checked rows v ends elses heads) (m : v ≡ Accepted) where
  pub own-accepted : verdict_of rows ≡ Accepted
  own-accepted = sym checked.verdict_is ∙ m

  pub own-chain : StandsFor rows rows
  own-chain = plain-accepted rows w own-accepted

  pub own-number : 0 ≡ check_call rows
  own-number = ap number_of (sym own-chain.accepted)
