-- The promise of `measure` holds of its definition. Assumes nothing.
use mathlib.Core.Logic.{◌≢◌}
use mathlib.Core.Path.{◌≡◌, refl, sym, ap, ◌∙◌, subst}
use mathlib.Core.Bool.{Bool, true, false, cond}
use mathlib.Core.List.{List}
use Prim.Native.Nat.{ℕ, zero, suc, ◌+◌, ◌≤◌, ◌<◌}
use native.Mathlib.Omega.{arith}
use lib.ListN.{length}
use borrow.Author.Tests.{le-ltb}
use Rattle.rules.specs.declared.answer.Measured.{Measured}
use Rattle.rules.specs.declared.sums.Sums.{Sums}
use Rattle.rules.specs.declared.refusal.Refusal.TheVariants.{ShortOutput}
use Rattle.rules.specs.Verdict.{Verdict, Accepted, Refused}
use Rattle.rules.specs.Limits.{max_regions}
use Rattle.rules.specs.Row.{table_of}
use Rattle.rules.specs.Refusal.{number_of, refuse_if_lem}
use Rattle.rules.specs.Switch.{chain_bytes}
use Rattle.rules.specs.Given.{given_verdict}
use Rattle.rules.specs.Line.{Line, lines_in}
use Rattle.rules.specs.Harden.{harden, hardened_bytes}
use Rattle.rules.specs.Calls.{writing, short_output, harden_call}
use Rattle.rules.specs.TablePromise.{front}
use Rattle.rules.specs.Function.{function_at}
use Rattle.rules.specs.Figures.{has_region, regions_in, most_in, sums_of, Agree}
use Rattle.rules.specs.Measure.{figures_of, measuring, measure_call, summed, bytes_of, MeasurePromise}
use Rattle.rules.proofs.Calls.{accepted-of, harden-refused, harden-accepted, write-short, write-fits}
use Rattle.rules.proofs.Encode.{lines-bytes-length}
use Rattle.rules.proofs.Reading.{lines_of}
use Rattle.rules.proofs.TablePromise.{front_of}
use Rattle.rules.proofs.Switch.Chain.{chain-accepted}
use Rattle.rules.proofs.Figures.Agree.{sums-agree}

number-of : (v : Verdict) (ls : List Line) → (measuring v ls).number ≡ number_of v
unfolding measuring
number-of Accepted ls = refl
number-of (Refused r) ls = refl

-- what agrees with the sums has their figures
by-agree : (ls : List Line) (s : Sums) → Agree ls s → figures_of ls ≡ summed s
by-agree ls s a =
    ap (λ x. record { number = 0; regions = x; lines = length ls; value = (figures_of ls).value }) a.regions_agree
    ∙ ap (λ x. record { number = 0; regions = s.most; lines = x; value = (figures_of ls).value }) a.lines_agree
    ∙ ap (λ x. record { number = 0; regions = s.most; lines = s.lines; value = x }) a.value_agrees

-- a function has at most 64 regions, since no more are counted
in-few : (ls : List Line) (n m : ℕ) → regions_in ls n m ≤ m
unfolding regions_in
in-few ls n zero = omega arith
in-few ls n (suc g) = by (has_region ls n g (length ls)) (in-few ls n g)
  where
    by : (b : Bool) → regions_in ls n g ≤ g → regions_in ls n g + cond b 1 0 ≤ suc g
    by true h = omega arith
    by false h = omega arith

most-few : (ls : List Line) (n : ℕ) → most_in ls n ≤ max_regions
unfolding most_in
most-few ls zero = omega arith
most-few ls (suc n) = omega (arith, most-few ls n, in-few ls n max_regions)

-- ---- an accepted table
module _ (rows : List ℕ) (v : given_verdict rows ≡ Accepted) where
  pub figures : measure_call rows ≡ figures_of (harden (table_of (chain_bytes rows)))
  unfolding measure_call measuring
  figures = ap (λ x. measuring x (harden (table_of (chain_bytes rows)))) v

  pub summed-up : measure_call rows ≡ summed (sums_of (table_of (chain_bytes rows)))
  summed-up = figures ∙ by-agree _ _ (sums-agree (chain_bytes rows) (chain-accepted rows v))

  pub few_regions : (sums_of (table_of (chain_bytes rows))).most ≤ max_regions
  few_regions =
      subst (λ m. m ≤ max_regions) (sums-agree (chain_bytes rows) (chain-accepted rows v)).regions_agree
      (most-few (harden (table_of (chain_bytes rows))) (function_at (harden (table_of (chain_bytes rows))) (length (harden (table_of (chain_bytes rows))))))

  long : length (hardened_bytes (chain_bytes rows)) ≡ bytes_of (measure_call rows)
  unfolding hardened_bytes
  long = lines-bytes-length (harden (table_of (chain_bytes rows))) ∙ ap bytes_of (sym figures)

  written : (out : List ℕ) → harden_call rows out ≡ writing (short_output (hardened_bytes (chain_bytes rows)) out) (hardened_bytes (chain_bytes rows)) out
  written out = harden-accepted rows (chain_bytes rows) out (record { accepted = v; chain_is = refl })

  enough : (out : List ℕ) → bytes_of (measure_call rows) ≤ length out → (harden_call rows out).wrote ≡ record { number = 0; length = bytes_of (measure_call rows) }
  enough out h =
      ap (λ x. x.wrote) (written out ∙ write-fits (hardened_bytes (chain_bytes rows)) out (omega (arith, long)))
      ∙ ap (λ n. record { number = 0; length = n }) long

  short : (out : List ℕ) → length out < bytes_of (measure_call rows) → (harden_call rows out).wrote ≡ record { number = 8; length = 0 }
  short out h = ap (λ x. x.wrote) (written out ∙ write-short (hardened_bytes (chain_bytes rows)) out (omega (arith, long)))

  fits : (out : List ℕ) → bytes_of (measure_call rows) ≤ length out → short_output (hardened_bytes (chain_bytes rows)) out ≡ Accepted
  fits out h = ap (λ b. refuse_if_lem b ShortOutput) (le-ltb (length out) (length (hardened_bytes (chain_bytes rows))) (omega (arith, long)))

  shown : (out : List ℕ) → bytes_of (measure_call rows) ≤ length out → measure_call rows ≡ figures_of (lines_in (front (harden_call rows out)))
  shown out h =
      figures
      ∙ ap figures_of
      (sym (ap lines_in (ap front (written out) ∙ front_of _ (hardened_bytes (chain_bytes rows)) out (fits out h)) ∙ lines_of (chain_bytes rows)))

-- ---- a refused one
refused : (rows : List ℕ) (v : Verdict) → given_verdict rows ≡ v → (measure_call rows).number ≢ 0 → (out : List ℕ)
    → (harden_call rows out).wrote ≡ record { number = (measure_call rows).number; length = 0 }
unfolding measure_call measuring
refused rows Accepted e n out = absurd (n (ap (λ v. (measuring v (harden (table_of (chain_bytes rows)))).number) e))
refused rows (Refused r) e n out =
    ap (λ x. x.wrote) (harden-refused rows out r e)
    ∙ ap (λ x. record { number = x; length = 0 }) (sym (ap (λ v. (measuring v (harden (table_of (chain_bytes rows)))).number) e))

accepted : (rows : List ℕ) → (measure_call rows).number ≡ 0 → given_verdict rows ≡ Accepted
unfolding measure_call
accepted rows e = accepted-of (given_verdict rows) (sym (number-of (given_verdict rows) (harden (table_of (chain_bytes rows)))) ∙ e)

pub measure-promise : (rows : List ℕ) (x : Measured) → x ≡ measure_call rows → MeasurePromise rows x
measure-promise rows x e = subst (MeasurePromise rows) (sym e) kept
  where
    kept : MeasurePromise rows (measure_call rows)
    kept =
        record {
          answers = refl;
          enough = λ z out h. enough rows (accepted rows z) out h;
          short = λ z out h. short rows (accepted rows z) out h;
          shown = λ z out h. shown rows (accepted rows z) out h;
          by_sums = λ z. summed-up rows (accepted rows z);
          refused = λ n out. refused rows (given_verdict rows) refl n out;
        }
