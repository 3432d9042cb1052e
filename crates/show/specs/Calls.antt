-- The calls of a source run that is made step by step.
use Rattle.std.specs.Prelude.{ℕ, ◌≡◌, cond, List}
use Rattle.rules.specs.declared.refusal.Refusal.{Refusal}
use Rattle.rules.specs.Verdict.{Accepted, Refused}
use Rattle.rules.specs.declared.step.Step.TheVariants.{Went}
use Rattle.rules.specs.Row.{Table, table_of, kind_at}
use Rattle.rules.specs.Check.{is_call}
use Rattle.rules.specs.Switch.{chain_bytes}
use Rattle.rules.specs.Given.{given_verdict}
use Rattle.rules.specs.Run.{tally}
use Rattle.rules.specs.Source.{source_step}
use Rattle.rules.specs.Match.{calls_in}
use Rattle.state.specs.declared.machine.Machine.{Machine}
use Rattle.state.specs.declared.machine.Stopped.{Stopped}
use Rattle.source.specs.Step.{Parts, After}
use Rattle.source.specs.Run.{state_of, answer_of, run_from}

-- 1 where row i is a call
abbrev pub call_at : Table → (i : ℕ) → ℕ
call_at t i = cond (is_call (kind_at t i)) 1 0

-- those of a run from these parts
abbrev pub calls_from : Table → (budget : ℕ) → Parts → ℕ
calls_from t b p = tally (λ k s. is_call (kind_at t s.running.at)) (λ k s. source_step t s) b p.registers.steps (state_of p)

-- the budget is spent
abbrev pub spent_at : Machine → Stopped
spent_at m = record { step = Went m.registers.at; machine = m }

-- a walk from these parts came to what the run comes to, and counted its calls
pub record WalkedTo (t : Table) (budget : ℕ) (p : Parts) (a : After) (calls : ℕ) : Type 0 where
  pub answer_is : run_from t budget p ≡ answer_of a
  pub calls_are : calls ≡ calls_from t budget p

-- the calls of a table as given; a refused one has none, and nothing of it is listed: the page stays
pub record CallsTold {W : Type 0} (rows : List ℕ) (budget : ℕ) (vars : List ℕ) (before page : W) (calls : ℕ) : Type 0 where
  pub accepted : given_verdict rows ≡ Accepted → calls ≡ calls_in (table_of (chain_bytes rows)) budget vars
  pub refused : (c : Refusal) → given_verdict rows ≡ Refused c → (calls ≡ 0) × (page ≡ before)
