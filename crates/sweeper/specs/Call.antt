-- What either call of the sweep gives back, put together from its answer and the buffers that it leaves.
use Rattle.std.specs.Prelude.{ℕ, false, List}
use Rattle.rules.specs.declared.answer.Swept.{Swept}
use Rattle.rules.specs.declared.answer.AnyOther.{AnyOther}
use Rattle.rules.specs.declared.ending.Counts.{Counts}
use Rattle.rules.specs.declared.refusal.Refusal.{Refusal}
use Rattle.rules.specs.Refusal.{refusal_number}
use Rattle.rules.specs.SweepCall.{Sweeping, Asking}

abbrev pub sweeps : Swept → (trace words : List ℕ) → Sweeping
sweeps r trace words = record { swept = r; trace = trace; words = words }

abbrev pub asks : AnyOther → (trace words : List ℕ) → Asking
asks r trace words = record { found = r; trace = trace; words = words }

abbrev pub counts_in : Counts → Swept
counts_in c = record { number = 0; alarms = c.alarms; same = c.same; other = c.other; unfinished = c.unfinished }

abbrev pub refused_swept : Refusal → Swept
refused_swept r = record { number = refusal_number r; alarms = 0; same = 0; other = 0; unfinished = 0 }

abbrev pub refused_any_lem : Refusal → AnyOther
refused_any_lem r = record { number = refusal_number r; other = false }
