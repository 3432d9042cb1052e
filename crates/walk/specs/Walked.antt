-- What the walkers promise: wherever a walk stands at their first row, where it stands after them, or why the table is refused.
-- Assumes nothing: these are definitions.
use Rattle.std.specs.Prelude.{ℕ, ◌+◌, ◌*◌, ◌≤◌, ◌<◌, ◌≡◌, Bool, cond, List, ◌∷◌, length, drop}
use Rattle.rules.specs.declared.kind.Kind.{Kind}
use Rattle.rules.specs.declared.kind.Kind.TheVariants.{Else, End}
use Rattle.rules.specs.declared.refusal.Refusal.{Refusal}
use Rattle.rules.specs.declared.refusal.Refusal.TheVariants.{WrongField, Misplaced}
use Rattle.rules.specs.Verdict.{Verdict, Accepted, Refused}
use Rattle.rules.specs.Row.{row_width, table_of, row_in, fields_fit_lem}
use Rattle.rules.specs.Scan.{Open, then_part}
use Rattle.rules.specs.Check.{table_verdict}
use Rattle.rows.specs.First.{first_kind_lem}
use Rattle.walk.specs.Standing.{Inside}
use Rattle.walk.specs.Answer.{SeqAnswer, Broken, AtEnd, AtElse, StepAnswer, Faulty, Past, EndHere, ElseHere, RestAnswer, Torn, Rows}

-- the rows that an answer covers, with the row that it stopped at
unfoldable pub seq_rows : SeqAnswer → ℕ
seq_rows (Broken c) = 0
seq_rows (AtEnd k o) = k + 1
seq_rows (AtElse k o) = k + 1

unfoldable pub step_rows : StepAnswer → ℕ
step_rows (Faulty c) = 1
step_rows (Past k o) = k
step_rows EndHere = 1
step_rows ElseHere = 1

unfoldable pub rest_rows : RestAnswer → ℕ
rest_rows (Torn c) = 1
rest_rows (Rows k o) = k

-- whether the fields of the row that the bytes begin with are as kind k uses them
abbrev pub fields_verdict : (k : Kind) (xs : List ℕ) → Verdict
fields_verdict k xs = cond (fields_fit_lem k (row_in xs 0).operands) Accepted (Refused WrongField)

-- what a break or a continue answers
abbrev pub jump_step : (o : ℕ) → Bool → StepAnswer
jump_step o b = cond b (Past 1 o) (Faulty Misplaced)

abbrev pub TurnedAway : List ℕ → Refusal → Type 0
TurnedAway bs c = table_verdict (table_of bs) ≡ Refused c

-- a walk stands at a row of kind k
pub record Before (k : Kind) (bs xs : List ℕ) (i : ℕ) (h : Open) (hs : List Open) (d o : ℕ) (b : Bool) (n : ℕ) (ends elses : List ℕ) : Type 0 where
  pub here : Inside bs xs i h hs d o b n ends elses
  pub kind_is : first_kind_lem xs ≡ k

module _ (bs xs : List ℕ) (i : ℕ) (h : Open) (hs : List Open) (d : ℕ) (b : Bool) (n : ℕ) (ends elses : List ℕ) where
  abbrev pub AfterSeq : SeqAnswer → Type 0
  AfterSeq (Broken c) = TurnedAway bs c
  AfterSeq (AtEnd k o) = Before End bs (drop (row_width * k) xs) (i + k) h hs d o b n ends elses
  AfterSeq (AtElse k o) = Before Else bs (drop (row_width * k) xs) (i + k) h hs d o b n ends elses

  abbrev pub AfterStep : (o : ℕ) → StepAnswer → Type 0
  AfterStep o (Faulty c) = TurnedAway bs c
  AfterStep o (Past k o') = Inside bs (drop (row_width * k) xs) (i + k) h hs d o' b n ends elses
  AfterStep o EndHere = Before End bs xs i h hs d o b n ends elses
  AfterStep o ElseHere = Before Else bs xs i h hs d o b n ends elses

  abbrev pub AfterRest : RestAnswer → Type 0
  AfterRest (Torn c) = TurnedAway bs c
  AfterRest (Rows k o) = Inside bs (drop (row_width * k) xs) (i + k) h hs d o b n ends elses

-- for every table and every place where a walk stands with this depth, these regions and this loop flag
pub record SeqOk (xs : List ℕ) (base d o : ℕ) (b : Bool) (e l e' l' : List ℕ) (r : SeqAnswer) : Type 0 where
  pub fit : row_width * seq_rows r ≤ length xs
  pub leads : (bs : List ℕ) (h : Open) (hs : List Open) (n : ℕ) → Inside bs xs base h hs d o b n e l → AfterSeq bs xs base h hs d b n e' l' r

pub record StepOk (xs : List ℕ) (base d o : ℕ) (b : Bool) (e l e' l' : List ℕ) (r : StepAnswer) : Type 0 where
  pub some : 0 < step_rows r
  pub fit : row_width * step_rows r ≤ length xs
  pub leads : (bs : List ℕ) (h : Open) (hs : List Open) (n : ℕ) → Inside bs xs base h hs d o b n e l → AfterStep bs xs base h hs d b n e' l' o r

-- from the else row `row` of the if in row `base`, whose then part is the innermost, to past its end
abbrev pub then_of : (base g : ℕ) → Open
then_of base g = record { part = then_part; opener = base; region = g }

pub record RestOk (xs : List ℕ) (row base d o : ℕ) (b : Bool) (e l e' l' : List ℕ) (r : RestAnswer) : Type 0 where
  pub fit : row_width * rest_rows r ≤ length xs
  pub leads : (bs : List ℕ) (g : ℕ) (h : Open) (hs : List Open) (n : ℕ) → Before Else bs xs row (then_of base g) (h ∷ hs) (d + 1) o b n e l
      → AfterRest bs xs row h hs d b n e' l' r
