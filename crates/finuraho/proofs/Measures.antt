-- What `measure` gives, by what checking found. Assumes nothing.
use mathlib.Core.Path.{◌≡◌, sym, ap, ◌∙◌}
use mathlib.Core.List.{List}
use Prim.Native.Nat.{ℕ, ◌≤◌}
use native.Mathlib.Omega.{arith}
use Rattle.rules.specs.declared.sums.Sums.{Sums}
use Rattle.rules.specs.Verdict.{Verdict, Accepted, Refused}
use Rattle.rules.specs.Limits.{max_regions}
use Rattle.rules.specs.Row.{table_of}
use Rattle.rules.specs.Refusal.{number_of}
use Rattle.rules.specs.Switch.{chain_bytes}
use Rattle.rules.specs.Given.{given_verdict}
use Rattle.rules.specs.Line.{Line}
use Rattle.rules.specs.Harden.{harden}
use Rattle.rules.specs.Calls.{check_call}
use Rattle.rules.specs.Figures.{sums_of}
use Rattle.rules.specs.Measure.{measuring, measure_call, summed}
use Rattle.rules.proofs.Calls.{accepted-of}
use Rattle.rules.proofs.Figures.Promise.{summed-up, few_regions}

module _ (rows : List ℕ) {s : Sums} (v : given_verdict rows ≡ Accepted) (e : s ≡ sums_of (table_of (chain_bytes rows))) where
  pub few : s.most ≤ max_regions
  few = omega (arith, ap (λ x. x.most) e, few_regions rows v)

  pub figures-are : record { number = 0; regions = s.most; lines = s.lines; value = s.value } ≡ measure_call rows
  figures-are = ap summed e ∙ sym (summed-up rows v)

module _ (rows : List ℕ) {n : ℕ} (e : n ≡ check_call rows) where
  pub none_found : n ≡ 0 → given_verdict rows ≡ Accepted
  none_found z = accepted-of (given_verdict rows) (sym e ∙ z)

  by-verdict : (v : Verdict) (ls : List Line) → number_of v ≡ n → (n ≡ 0 → ⊥) → record { number = n; regions = 0; lines = 0; value = 0 } ≡ measuring v ls
  unfolding measuring
  by-verdict Accepted ls q z = absurd (z (sym q))
  by-verdict (Refused r) ls q z = ap (λ x. record { number = x; regions = 0; lines = 0; value = 0 }) (sym q)

  pub some-found : (n ≡ 0 → ⊥) → record { number = n; regions = 0; lines = 0; value = 0 } ≡ measure_call rows
  unfolding measure_call
  some-found z = by-verdict (given_verdict rows) (harden (table_of (chain_bytes rows))) (sym e) z
