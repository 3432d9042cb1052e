-- The numbers of "What turns a call away" (01), and how one cause goes before another.
use Rattle.std.specs.Prelude.{ℕ, Bool, true, false, cond}
use Rattle.rules.specs.declared.refusal.Refusal.{Refusal}
use Rattle.rules.specs.declared.refusal.Refusal.TheVariants.{NoWholeRows, TooManyRows, WrongField, Misplaced, TooManyFunctions, TooManyParts, NoSuchFunction, ShortOutput, ShortRoom, NotHardened, RepeatedCase, NotFinished}
use Rattle.rules.specs.Verdict.{Verdict, Accepted, Refused}

-- the column "Number"
abbrev pub refusal_number : Refusal → ℕ
refusal_number NoWholeRows = 1
refusal_number TooManyRows = 2
refusal_number WrongField = 3
refusal_number Misplaced = 4
refusal_number TooManyFunctions = 5
refusal_number TooManyParts = 6
refusal_number NoSuchFunction = 7
refusal_number ShortOutput = 8
refusal_number ShortRoom = 9
refusal_number NotHardened = 10
refusal_number RepeatedCase = 11
refusal_number NotFinished = 13

-- "Accepted: 0"
abbrev pub number_of : Verdict → ℕ
number_of Accepted = 0
number_of (Refused r) = refusal_number r

-- the cause, where it holds
abbrev pub refuse_if_lem : Bool → Refusal → Verdict
refuse_if_lem holds r = cond holds (Refused r) Accepted

-- the first of two, in the order in which they are tested
abbrev pub and_then : Verdict → Verdict → Verdict
and_then Accepted later = later
and_then (Refused r) later = Refused r

abbrev pub is_accepted : Verdict → Bool
is_accepted Accepted = true
is_accepted (Refused r) = false
