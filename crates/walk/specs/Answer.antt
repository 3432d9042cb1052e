-- What the walkers answer: a row is turned away, or where they stopped. Assumes nothing: these are definitions.
use Rattle.std.specs.Prelude.{ℕ, Result, Ok, Err}
use Rattle.rules.specs.declared.refusal.Refusal.{Refusal}
use Rattle.walk.specs.declared.answer.Seq.{Seq}
use Rattle.walk.specs.declared.answer.Step.{Step}

abbrev pub SeqAnswer : Type 0
SeqAnswer = Result Seq Refusal

pattern abbrev pub Broken : Refusal → SeqAnswer
Broken c = Err c

pattern abbrev pub AtEnd : ℕ → ℕ → SeqAnswer
AtEnd k o = Ok (Seq.AtEnd k o)

pattern abbrev pub AtElse : ℕ → ℕ → SeqAnswer
AtElse k o = Ok (Seq.AtElse k o)

abbrev pub StepAnswer : Type 0
StepAnswer = Result Step Refusal

pattern abbrev pub Faulty : Refusal → StepAnswer
Faulty c = Err c

pattern abbrev pub Past : ℕ → ℕ → StepAnswer
Past k o = Ok (Step.Past k o)

pattern abbrev pub EndHere : StepAnswer
EndHere = Ok Step.EndHere

pattern abbrev pub ElseHere : StepAnswer
ElseHere = Ok Step.ElseHere

abbrev pub RestAnswer : Type 0
RestAnswer = Result (ℕ × ℕ) Refusal

pattern abbrev pub Torn : Refusal → RestAnswer
Torn c = Err c

pattern abbrev pub Rows : ℕ → ℕ → RestAnswer
Rows k o = Ok (k, o)
