-- The promise of a run of the counter form holds of the definition of its call. Assumes nothing.
use mathlib.Core.Path.{◌≡◌, refl, sym, ap, subst}
use mathlib.Core.Bool.{Bool, true, false, not}
use mathlib.Core.List.{List}
use Prim.Native.Nat.{ℕ}
use Rattle.rules.specs.declared.refusal.Refusal.TheVariants.{NotHardened}
use Rattle.rules.specs.Verdict.{Verdict, Accepted}
use Rattle.rules.specs.Refusal.{number_of, refuse_if_lem, and_then}
use Rattle.rules.specs.Bytes.{AreBytes}
use Rattle.rules.specs.Row.{table_of}
use Rattle.rules.specs.Line.{lines_in}
use Rattle.rules.specs.ReadBack.{source_bytes, is_hardened_lem}
use Rattle.rules.specs.Chained.{TenExactly}
use Rattle.rules.specs.Hardened.{counter_form}
use Rattle.rules.specs.Calls.{HardenedRunning, hardened_verdict, run_hardened_call}
use Rattle.rules.specs.Promise.{HardenedPromise}
use Rattle.rules.proofs.Calls.{no_zero, run-hardened-refused, run-hardened-number}
use Rattle.rules.proofs.Switch.Reading.{ten-exactly}
use Rattle.rules.proofs.Form.Promise.{promised}
use Rattle.rules.proofs.Demand3.{demand_3}

-- a test that comes first and is refused with 10
met : (x : Bool) (later : Verdict) → and_then (refuse_if_lem (not x) NotHardened) later ≡ Accepted → x ≡ true
met true later e = refl
met false later e = absurd (no_zero NotHardened (ap number_of e))

hardened : (lines : List ℕ) (b : ℕ) (slots words : List ℕ) → hardened_verdict lines b slots words ≡ Accepted → is_hardened_lem lines ≡ true
unfolding hardened_verdict
hardened lines b slots words e = met (is_hardened_lem lines) _ e

ten : (lines vars : List ℕ) (b k p : ℕ) (slots words : List ℕ) → AreBytes lines → TenExactly lines (run_hardened_call lines vars b k p slots words).run.ran.number
ten lines vars b k p slots words w =
    ten-exactly lines _ w (run-hardened-number lines vars b k p slots words)
    (λ h. ap (λ x. x.run.ran.number) (run-hardened-refused lines vars b k p slots words h))

kept : (lines vars : List ℕ) (b k p : ℕ) (slots words : List ℕ) → AreBytes lines → HardenedPromise lines vars b k p slots words (run_hardened_call lines vars b k p slots words)
unfolding run_hardened_call
kept lines vars b k p slots words w =
    record {
      answers = refl;
      ten = ten lines vars b k p slots words w;
      promised =
          promised (counter_form (lines_in lines)) (lines_in lines) (table_of (source_bytes lines)) vars b k p slots (hardened_verdict lines b slots words)
          (λ v. demand_3 lines vars b k p (hardened lines b slots words v));
    }

-- whatever is what the call's definition gives keeps the promise
pub promise : (lines vars : List ℕ) (b k p : ℕ) (slots words : List ℕ) (x : HardenedRunning) → AreBytes lines → x ≡ run_hardened_call lines vars b k p slots words
    → HardenedPromise lines vars b k p slots words x
promise lines vars b k p slots words x w e = subst (HardenedPromise lines vars b k p slots words) (sym e) (kept lines vars b k p slots words w)
