-- A source run in which one do slips (02, No. 6): at one time it is left out or done twice. specs/Demands.antt says which slip a jump is.
use Rattle.std.specs.Prelude.{ℕ, suc, ◌-◌, cond, List, eqb, ltb}
use Rattle.rules.specs.Row.{Table}
use Rattle.rules.specs.Run.{Turn, on, next, Answer, run}
use Rattle.rules.specs.Source.{Source, to_row, source_step, source_start}

-- what befalls the do that step j of the run, counted from 0, reaches
pub data Slip : Type 0 where
  untouched : Slip
  left_out : (j : ℕ) → Slip
  done_twice : (j : ℕ) → Slip

-- "a do left out takes no step": the step is that of the row after it
abbrev pub leaving_out : Table → Source → Turn (Unit {0})
leaving_out t s = source_step t (to_row (suc s.running.at) s)

-- "and one done twice takes two": this step does it and stays before it, so that the next step does it once more
abbrev pub staying : Table → Source → Turn (Unit {0})
staying t s = next (source_step t s) (λ s'. on (to_row s.running.at s'))

-- step k of the run
abbrev pub slipping_step : Table → Slip → (k : ℕ) → Source → Turn (Unit {0})
slipping_step t untouched k s = source_step t s
slipping_step t (left_out j) k s = cond (eqb j k) (leaving_out t s) (source_step t s)
slipping_step t (done_twice j) k s = cond (eqb j k) (staying t s) (source_step t s)

abbrev pub slipped_run : Table → Slip → (budget : ℕ) → (vars : List ℕ) → Answer (Unit {0})
slipped_run t x b vs = run (slipping_step t x) b 0 (source_start vs)

-- What a jump from one line to another does to the source, which has taken j steps: "left out (jump forward) or done twice (back), or
-- nothing is changed where the places are equal". Forward it is the do that the source is about to do, back the one that it has just done.
abbrev pub slip_between : (from to j : ℕ) → Slip
slip_between x y j = cond (ltb x y) (left_out j) (cond (ltb y x) (done_twice (j - 1)) untouched)
