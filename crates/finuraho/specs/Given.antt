-- What a call gives back, put together from its answer and the buffers that it leaves.
use Rattle.std.specs.Prelude.{List, ℕ}
use Rattle.rules.specs.declared.answer.Wrote.{Wrote}
use Rattle.rules.specs.declared.answer.Ran.{Ran}
use Rattle.rules.specs.declared.refusal.Refusal.{Refusal}
use Rattle.rules.specs.declared.refusal.Refusal.TheVariants.{ShortRoom}
use Rattle.rules.specs.Row.{table_of}
use Rattle.rules.specs.Refusal.{refusal_number, refuse_if_lem}
use Rattle.rules.specs.Source.{source_run}
use Rattle.rules.specs.Calls.{Writing, Running, running, short_trace, HardenedRunning}

abbrev pub writes : Wrote → (out : List ℕ) → Writing
writes w out = record { wrote = w; out = out }

-- "Returned: number, length 0"
abbrev pub refused_with : Refusal → Wrote
refused_with r = record { number = refusal_number r; length = 0 }

abbrev pub runs : Ran → (trace : List ℕ) → Running
runs r trace = record { ran = r; trace = trace }

abbrev pub hardened_runs : Ran → (trace words : List ℕ) → HardenedRunning
hardened_runs r trace words = record { run = runs r trace; words = words }

-- "Returned: number, zeros, variables as given"
abbrev pub refused_run_with : Refusal → (vars : List ℕ) → Ran
refused_run_with r vs = record { number = refusal_number r; outcome = 0; steps = 0; traced = 0; variables = vs }

-- a run of an accepted table of 01, which has only the room to fail
abbrev pub source_runs : (chain vars : List ℕ) → (budget : ℕ) → (slots : List ℕ) → Running
source_runs chain vs b slots = running (refuse_if_lem (short_trace b slots) ShortRoom) (source_run (table_of chain) b vs) vs slots
