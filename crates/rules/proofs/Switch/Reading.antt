-- Reading back gives the chain, and "is a hardened table" means what it meant, for source tables with switches too. Assumes nothing.
use mathlib.Core.Path.{◌≡◌, refl, sym, ap, ◌∙◌}
use mathlib.Core.Logic.{◌≢◌}
use mathlib.Core.Bool.{Bool, true, false}
use mathlib.Core.List.{List}
use Prim.Native.Nat.{ℕ}
use Rattle.rules.specs.Bytes.{AreBytes}
use Rattle.rules.specs.Harden.{hardened_bytes}
use Rattle.rules.specs.Switch.{chain_bytes}
use Rattle.rules.specs.ReadBack.{source_bytes, is_hardened_lem}
use Rattle.rules.specs.Chained.{ChainAccepted, ReadsChain, RecognisesGiven, OneChain, TenExactly, OnlySource}
use Rattle.rules.proofs.Reading.{reads-back, hardened-source, recognises, one-source}
use Rattle.rules.proofs.Logic.{clash}
use Rattle.rules.proofs.Switch.Chain.{chain-accepted}
use Rattle.rules.proofs.Switch.Plain.{plain-accepted}
use Rattle.rules.proofs.Switch.Bound.{chain-are-bytes}

pub accepted : ChainAccepted
accepted = chain-accepted

pub reads-chain : ReadsChain
reads-chain rows w e = reads-back (chain_bytes rows) (chain-are-bytes rows w e) (chain-accepted rows e)

pub recognises-given : RecognisesGiven
recognises-given lines w = (
  λ h.
      let k = (recognises lines w).0 h in
      let own = plain-accepted k.rows k.are_bytes k.accepted in
      record { rows = k.rows; are_bytes = k.are_bytes; accepted = own.accepted; hardens = ap hardened_bytes own.chain_is ∙ k.hardens },
  λ k.
      (recognises lines w).1
      (record {
        rows = chain_bytes k.rows;
        are_bytes = chain-are-bytes k.rows k.are_bytes k.accepted;
        accepted = chain-accepted k.rows k.accepted;
        hardens = k.hardens;
      }),
)

pub one-chain : OneChain
one-chain rows others w u v x h =
    one-source (chain_bytes rows) (chain_bytes others) (chain-are-bytes rows w v) (chain-are-bytes others u x) (chain-accepted rows v) (chain-accepted others x) h

-- ---- the number of a call that judges lines
pub ten-exactly : (lines : List ℕ) (number : ℕ) → AreBytes lines → (is_hardened_lem lines ≡ true → number ≢ 10) → (is_hardened_lem lines ≡ false → number ≡ 10)
    → TenExactly lines number
ten-exactly lines number w other ten = by (is_hardened_lem lines) refl
  where
    by : (b : Bool) → is_hardened_lem lines ≡ b → TenExactly lines number
    by true h = record { none = λ e g. other h e; some = λ n. (recognises-given lines w).0 h }
    by false h = record { none = λ e g. clash (sym h ∙ (recognises-given lines w).1 g) refl; some = λ n. absurd (n (ten h)) }

pub only-source : (lines : List ℕ) → is_hardened_lem lines ≡ true → OnlySource lines (source_bytes lines)
only-source lines h =
    record {
      accepted = (hardened-source lines h).0;
      hardens = (hardened-source lines h).1;
      only = λ other. sym (reads-chain other.rows other.are_bytes other.accepted) ∙ ap source_bytes other.hardens;
    }
