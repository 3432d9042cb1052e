-- What a jump to a line of the running function ends with, told from the line, where the run stands, the variables and the steps that are
-- left.
use Rattle.std.specs.Prelude.{ℕ, zero, suc, ◌+◌, ◌*◌, ◌-◌, ◌≤◌, ◌<◌, ◌≡◌, cond, List, eqb, ltb, length}
use Rattle.rules.specs.declared.ending.Ending.{Ending}
use Rattle.rules.specs.declared.ending.Ending.TheVariants.{Alarmed, Same, Unfinished}
use Rattle.rules.specs.declared.ending.Counts.{Counts}
use Rattle.rules.specs.declared.operands.Operands.{Operands}
use Rattle.rules.specs.Line.{line_width}
use Rattle.rules.specs.Bounds.{VariablesIn}
use Rattle.rules.specs.Variables.{overflows}
use Rattle.rules.specs.Sweep.{one, plus}
use Rattle.line.specs.declared.kind.LineKind.{LineKind}
use Rattle.line.specs.declared.kind.LineKind.TheVariants.{Do, Tick, Test, Leave, Out, Call, Back, Ret}
use Rattle.line.specs.Read.{line_kind_at, struct_at}

-- ---- the place across a do
abbrev pub across_kind : LineKind → (k : ℕ) → ℕ
across_kind Do k = k + 1
across_kind Tick k = k - 1
across_kind Test k = k
across_kind Leave k = k
across_kind Out k = k
across_kind Call k = k
across_kind Back k = k
across_kind Ret k = k

-- ---- a wide jump
-- the alarm comes one step after the step struck, where that is not the last
abbrev pub late : (left : ℕ) → Ending
late left = cond (ltb 1 left) Alarmed Unfinished

-- before a do: "ends with 5, in the step struck", or an alarm "in step k + 1"
abbrev pub wide_do : Operands → (vars : List ℕ) → (left : ℕ) → Ending
wide_do o vs left = cond (overflows o vs) Unfinished (late left)

-- "in step k if the place is before a guard"
abbrev pub wide_kind : LineKind → Operands → (vars : List ℕ) → (left : ℕ) → Ending
wide_kind Do o vs left = wide_do o vs left
wide_kind Tick o vs left = Alarmed
wide_kind Test o vs left = Alarmed
wide_kind Leave o vs left = Alarmed
wide_kind Out o vs left = Alarmed
wide_kind Call o vs left = Alarmed
wide_kind Back o vs left = Alarmed
wide_kind Ret o vs left = Alarmed

-- ".. or is m with one function open; .. or is m with more open"
abbrev pub wide_last : (depth left : ℕ) → Ending
wide_last d left = cond (ltb 0 d) (late left) Alarmed

-- a line, and place m too
abbrev pub wide_at : (lines vars : List ℕ) → (left line : ℕ) → Ending
wide_at bs vs left y = wide_kind (line_kind_at bs y) (struct_at bs y).operands vs left

abbrev pub wide_of : (lines : List ℕ) → (line last depth : ℕ) → (vars : List ℕ) → (left : ℕ) → Ending
wide_of bs y last d vs left = cond (eqb y last) (wide_last d left) (wide_at bs vs left y)

-- the dos of the table name variables that there are
pub record DosIn (lines : List ℕ) : Type 0 where
  pub each : (k : ℕ) → line_width * k + line_width ≤ length lines → line_kind_at lines k ≡ Do → VariablesIn (struct_at lines k).operands

-- ---- a jump to any line
abbrev pub ending_at : (lines : List ℕ) → (last at across depth : ℕ) → (vars : List ℕ) → (narrow : Ending) → (left line : ℕ) → Ending
ending_at bs last at across d vs narrow left y = cond (eqb y at) Same (cond (eqb y across) narrow (wide_of bs y last d vs left))

-- where the run stands and the place across a do, or the same place again: neighbours, before lines of the function
pub record Beside (first last at across : ℕ) : Type 0 where
  pub at_from : first ≤ at
  pub at_before : at < last
  pub across_from : first ≤ across
  pub across_before : across < last
  pub up : across ≤ at + 1
  pub down : at ≤ across + 1

-- the most that 32 bits hold
abbrev pub max_count : ℕ
max_count = 4294967295

-- the counts with one more for each of the endings 0 to n - 1
unfoldable pub counted_to : Counts → (n : ℕ) → (ℕ → Ending) → Counts
counted_to c zero f = c
counted_to c (suc n) f = plus (counted_to c n f) (one (f n))

-- the counts with those of the two
abbrev pub unguarded_of : (at across : ℕ) → (narrow : Ending) → Counts → Counts
unguarded_of at across narrow c = cond (eqb at across) (plus c (one Same)) (plus (plus c (one Same)) (one narrow))
