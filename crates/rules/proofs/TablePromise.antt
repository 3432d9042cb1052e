-- What a caller is promised of the calls that give or judge tables holds of their definitions. Assumes nothing.
use mathlib.Core.Path.{◌≡◌, refl, sym, ap, ◌∙◌, subst}
use mathlib.Core.Bool.{Bool, true, false}
use mathlib.Core.List.{List}
use Prim.Native.Nat.{ℕ, ◌≤◌}
use native.Mathlib.Omega.{arith}
use lib.ListN.{length, drop}
use lib.Seq.{take-append_seam}
use Rattle.rules.specs.Verdict.{Verdict, Accepted, Refused}
use Rattle.rules.specs.Bytes.{AreBytes}
use Rattle.rules.specs.Refusal.{number_of, and_then}
use Rattle.rules.specs.Switch.{chain_bytes}
use Rattle.rules.specs.Given.{given_verdict}
use Rattle.rules.specs.Harden.{hardened_bytes}
use Rattle.rules.specs.ReadBack.{source_bytes, is_hardened_lem}
use Rattle.rules.specs.Chained.{OnlySource}
use Rattle.rules.specs.Calls.{Writing, writing, short_output, not_hardened, harden_call, check_hardened_call, read_back_call}
use Rattle.rules.specs.TablePromise.{front, HardenPromise, CheckHardenedPromise, ReadBackPromise}
use Rattle.rules.proofs.Accepted.{then-left}
use Rattle.rules.proofs.Calls.{accepted-of, check-hardened, read-back-refused, read-back-accepted, read-back-number, write-fits}
use Rattle.rules.proofs.Reading.{source-hardened}
use Rattle.rules.proofs.Switch.Chain.{chain-accepted}
use Rattle.rules.proofs.Switch.Reading.{reads-chain, ten-exactly, only-source}

-- ---- what a call that writes a table says, by its verdict
number-of : (v : Verdict) (answer out : List ℕ) → (writing v answer out).wrote.number ≡ number_of v
unfolding writing
number-of Accepted answer out = refl
number-of (Refused r) answer out = refl

pub front_of : (v : Verdict) (answer out : List ℕ) → v ≡ Accepted → front (writing v answer out) ≡ answer
unfolding writing
front_of v answer out e =
    ap (λ x. front (writing x answer out)) e ∙ take-append_seam answer (drop (length answer) out)

-- ---- harden
module _ (rows out : List ℕ) where
  hardening : Verdict
  hardening = and_then (given_verdict rows) (short_output (hardened_bytes (chain_bytes rows)) out)

  hardens : (harden_call rows out).wrote.number ≡ 0 → hardening ≡ Accepted
  unfolding harden_call hardening
  hardens z = accepted-of hardening (sym (number-of hardening (hardened_bytes (chain_bytes rows)) out) ∙ z)

  wrote-lines : hardening ≡ Accepted → front (harden_call rows out) ≡ hardened_bytes (chain_bytes rows)
  unfolding harden_call hardening
  wrote-lines e = front_of hardening (hardened_bytes (chain_bytes rows)) out e

read_whole : (rows held : List ℕ) → AreBytes rows → given_verdict rows ≡ Accepted → length (chain_bytes rows) ≤ length held
    → read_back_call (hardened_bytes (chain_bytes rows)) held ≡ writing Accepted (chain_bytes rows) held
unfolding writing
read_whole rows held w v h =
    let s = reads-chain rows w v in
    let lines = hardened_bytes (chain_bytes rows) in
    read-back-accepted lines held (source-hardened (chain_bytes rows) lines s (chain-accepted rows v) refl)
    ∙ ap (λ x. writing (short_output x held) x held) s ∙ write-fits (chain_bytes rows) held h

pub harden-promise : (rows out : List ℕ) (x : Writing) → AreBytes rows → x ≡ harden_call rows out → HardenPromise rows out x
unfolding hardening
harden-promise rows out x w e =
    record {
      answers = e;
      read_again = λ z held h.
          let ok = hardens rows out (sym (ap (λ y. y.wrote.number) e) ∙ z) in
          ap (λ ls. read_back_call ls held) (ap front e ∙ wrote-lines rows out ok)
          ∙ read_whole rows held w (then-left (given_verdict rows) (short_output (hardened_bytes (chain_bytes rows)) out) ok) h;
    }

-- ---- check_hardened
pub check-hardened-promise : (lines : List ℕ) (x : ℕ) → AreBytes lines → x ≡ check_hardened_call lines → CheckHardenedPromise lines x
check-hardened-promise lines x w e =
    record {
      answers = e;
      ten = ten-exactly lines x w (λ h z. let q = e ∙ check-hardened lines true h in omega (arith, q, z)) (λ h. e ∙ check-hardened lines false h);
    }

-- ---- read_back
module _ (lines out : List ℕ) where
  reading : Verdict
  reading = and_then (not_hardened lines) (short_output (source_bytes lines) out)

  reads : (read_back_call lines out).wrote.number ≡ 0 → reading ≡ Accepted
  unfolding read_back_call reading
  reads z = accepted-of reading (sym (number-of reading (source_bytes lines) out) ∙ z)

  wrote-rows : reading ≡ Accepted → front (read_back_call lines out) ≡ source_bytes lines
  unfolding read_back_call reading
  wrote-rows e = front_of reading (source_bytes lines) out e

  hardened : (b : Bool) → is_hardened_lem lines ≡ b → (read_back_call lines out).wrote.number ≡ 0 → is_hardened_lem lines ≡ true
  hardened true h z = h
  hardened false h z =
      let q = ap (λ x. x.wrote.number) (read-back-refused lines out h) in
      absurd (let no : ⊥ = omega (arith, q, z) in no)

  the-source : (read_back_call lines out).wrote.number ≡ 0 → OnlySource lines (front (read_back_call lines out))
  the-source z =
      subst (OnlySource lines) (sym (wrote-rows (reads z))) (only-source lines (hardened (is_hardened_lem lines) refl z))

pub read-back-promise : (lines out : List ℕ) (x : Writing) → AreBytes lines → x ≡ read_back_call lines out → ReadBackPromise lines out x
read-back-promise lines out x w e = subst (ReadBackPromise lines out) (sym e) kept
  where
    kept : ReadBackPromise lines out (read_back_call lines out)
    kept =
        record {
          answers = refl;
          ten = ten-exactly lines _ w (read-back-number lines out) (λ h. ap (λ x. x.wrote.number) (read-back-refused lines out h));
          source = the-source lines out;
        }
