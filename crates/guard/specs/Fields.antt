-- The ranges that the code needs of the fields that a line's kind uses, and of the counters that it is lent.
use Rattle.std.specs.Prelude.{ℕ, ◌≤◌, ◌<◌, List, length}
use Rattle.rules.specs.Limits.{max_regions, max_open, max_lines, counter_words}
use Rattle.rules.specs.Bounds.{VariablesIn}
use Rattle.line.specs.declared.Line.{Line}
use Rattle.line.specs.declared.kind.LineKind.{LineKind}
use Rattle.line.specs.declared.kind.LineKind.TheVariants.{Do, Tick, Test, Leave, Out, Call, Back, Ret}

-- three regions
pub record RegionsIn (l : Line) : Type 0 where
  pub r_in : l.r < max_regions
  pub s_in : l.s < max_regions
  pub t_in : l.t < max_regions

pub record LeaveIn (l : Line) : Type 0 where
  pub r_in : l.r < max_regions
  pub s_in : l.s < max_regions

pub record OutIn (l : Line) : Type 0 where
  pub r_in : l.r < max_regions
  pub s_in : l.s < max_regions
  pub t_in : l.t ≤ l.r

pub record CallIn (l : Line) : Type 0 where
  pub r_in : l.r < max_regions
  pub go_in : l.go < max_lines

-- what a line of a kind may hold
abbrev pub FieldsIn : LineKind → Line → Type 0
FieldsIn Do l = VariablesIn l.operands
FieldsIn Tick l = l.r < max_regions
FieldsIn Test l = VariablesIn l.operands × RegionsIn l
FieldsIn Leave l = LeaveIn l
FieldsIn Out l = OutIn l
FieldsIn Call l = CallIn l
FieldsIn Back l = l.r < max_regions
FieldsIn Ret l = Unit {0}

-- the depth, and the words that are lent
pub record Room (d : ℕ) (ws : List ℕ) : Type 0 where
  pub deep : d < max_open
  pub room : counter_words ≤ length ws
