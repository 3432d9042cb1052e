-- The promise of `hardened_steps`: what the theorem says of a source run that finishes, told of the public calls; and a budget that is
-- too small is spent. Assumes nothing.
use mathlib.Core.Path.{◌≡◌, refl, sym, ap, ◌∙◌, subst}
use mathlib.Core.Bool.{true}
use mathlib.Core.List.{List}
use Prim.Native.Nat.{ℕ, zero, suc, ◌+◌, ◌≤◌, ◌<◌}
use native.Mathlib.Omega.{arith}
use lib.ListN.{length}
use Rattle.rules.specs.declared.refusal.Refusal.TheVariants.{ShortRoom}
use Rattle.rules.specs.Verdict.{Verdict, Accepted}
use Rattle.rules.specs.Strike.{None}
use Rattle.rules.specs.Limits.{counter_words, no_step}
use Rattle.rules.specs.Bytes.{AreBytes}
use Rattle.rules.specs.Row.{table_of}
use Rattle.rules.specs.Refusal.{refuse_if_lem, and_then}
use Rattle.rules.specs.Switch.{chain_bytes}
use Rattle.rules.specs.Given.{given_verdict}
use Rattle.rules.specs.Line.{lines_in}
use Rattle.rules.specs.Harden.{hardened_bytes}
use Rattle.rules.specs.ReadBack.{is_hardened_lem}
use Rattle.rules.specs.State.{State}
use Rattle.rules.specs.Run.{Turn, on, ends, untaken, after, run, outcome_of_lem}
use Rattle.rules.specs.Source.{source_run}
use Rattle.rules.specs.Hardened.{counter_form, hardened_run}
use Rattle.rules.specs.Match.{dos_in_lem, calls_in, hardened_steps_lem}
use Rattle.rules.specs.Demands.{Finishing}
use Rattle.rules.specs.Calls.{running, short_trace, run_source_call}
use Rattle.rules.specs.Steps.{hardened_twin, FinishesIn, StepsPromise}
use Rattle.rules.proofs.Accepted.{then-left}
use Rattle.rules.proofs.Calls.{run-accepted, run-hardened-accepted}
use Rattle.rules.proofs.Reading.{source-hardened}
use Rattle.rules.proofs.Switch.Chain.{chain-accepted}
use Rattle.rules.proofs.Switch.Reading.{reads-chain}
use Rattle.rules.proofs.Demand3.{demand_3}
use Rattle.rules.proofs.Figures.Traced.{dos-traced}

-- ---- a budget that is smaller than the steps that a run takes is spent
module _ {C : Type 0} (m : ℕ → State C → Turn C) where
  spent-by : (b n k : ℕ) (u : Turn C)
      → ((s : State C) → suc k + b < (run m n (suc k) s).steps → outcome_of_lem (run m b (suc k) s).step ≡ 0)
      → k + suc b < (after k u (λ s. run m n (suc k) s)).steps → outcome_of_lem (after k u (λ s. run m b (suc k) s)).step ≡ 0
  spent-by b n k (on s) ih h = ih s (omega arith)
  spent-by b n k (ends o s) ih h = absurd (omega arith)
  spent-by b n k (untaken o s) ih h = absurd (omega arith)

  spent : (b n k : ℕ) (s : State C) → k + b < (run m n k s).steps → outcome_of_lem (run m b k s).step ≡ 0
  unfolding run outcome_of_lem
  spent zero n k s h = refl
  spent (suc b) zero k s h = absurd (omega arith)
  spent (suc b) (suc n) k s h = spent-by b n k (m k s) (λ s' l. spent b n (suc k) s' l) h

-- ---- a source run by its public call
module _ (rows vs : List ℕ) (b : ℕ) (slots : List ℕ) where
  verdict : Verdict
  verdict = and_then (given_verdict rows) (refuse_if_lem (short_trace b slots) ShortRoom)

  accepts : (run_source_call rows vs b slots).ran.number ≡ 0 → verdict ≡ Accepted
  unfolding run_source_call verdict
  accepts e = run-accepted verdict (source_run (table_of (chain_bytes rows)) b vs) vs slots e

  ran-as : verdict ≡ Accepted → run_source_call rows vs b slots ≡ running Accepted (source_run (table_of (chain_bytes rows)) b vs) vs slots
  unfolding run_source_call verdict
  ran-as e = ap (λ v. running v (source_run (table_of (chain_bytes rows)) b vs) vs slots) e

-- ---- the promise
module _ (rows vs : List ℕ) (w : AreBytes rows) (v : given_verdict rows ≡ Accepted) where
  lines : List ℕ
  lines = hardened_bytes (chain_bytes rows)

  is-hardened : is_hardened_lem lines ≡ true
  unfolding lines
  is-hardened = source-hardened (chain_bytes rows) lines (reads-chain rows w v) (chain-accepted rows v) refl

  finishing : (b c : ℕ) → Finishing (counter_form (lines_in lines)) (lines_in lines) (table_of (chain_bytes rows)) vs b c
  unfolding lines
  finishing b c =
      subst (λ x. Finishing (counter_form (lines_in lines)) (lines_in lines) (table_of x) vs b c) (reads-chain rows w v)
      ((demand_3 lines vs b 0 0 is-hardened).finishing c)

  twin : (b : ℕ) (slots words : List ℕ) → b ≤ length slots → counter_words ≤ length words
      → hardened_twin rows vs b slots words ≡ running Accepted (hardened_run (lines_in lines) None b vs) vs slots
  unfolding lines
  twin b slots words h g = ap (λ x. x.run) (run-hardened-accepted lines vs b no_step 0 slots words is-hardened h g)

  takes : (b n c : ℕ) (slots words : List ℕ) → outcome_of_lem (source_run (table_of (chain_bytes rows)) b vs).step ≡ 1
      → hardened_steps_lem (source_run (table_of (chain_bytes rows)) b vs).steps (dos_in_lem (table_of (chain_bytes rows)) b vs) (calls_in (table_of (chain_bytes rows)) b vs) ≡ n
      → c ≤ length slots → counter_words ≤ length words → FinishesIn rows vs n c slots words
  unfolding running
  takes b n c slots words o e h g =
      let t = twin c slots words h g in
      record {
        accepted = ap (λ x. x.ran.number) t;
        finishes = λ l. ap (λ x. x.ran.outcome) t ∙ (finishing b c).finishes o (omega arith);
        in_steps = λ l. ap (λ x. x.ran.steps) t ∙ (finishing b c).in_steps o (omega arith) ∙ e;
        spent = λ l. ap (λ x. x.ran.outcome) t
            ∙ spent _ c n 0 _ (omega (arith, (finishing b n).in_steps o (omega arith)));
      }

pub steps-promise : (steps dos calls x : ℕ) → x ≡ hardened_steps_lem steps dos calls → StepsPromise steps dos calls x
unfolding running verdict
steps-promise steps dos calls x e =
    record {
      answers = e;
      taken = λ rows vars b slots w f c room words h g.
          let a = accepts rows vars b slots f.accepted in
          let r = ran-as rows vars b slots a in
          let t = table_of (chain_bytes rows) in
          takes rows vars w (then-left (given_verdict rows) _ a) b x c room words (sym (ap (λ y. y.ran.outcome) r) ∙ f.finished)
          (omega (arith, e, ap (λ y. y.ran.steps) r, f.in_steps, ap (λ y. y.ran.traced) r, f.with_dos, dos-traced t b vars, f.with_calls)) h g;
    }
