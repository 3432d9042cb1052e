-- A run of at most as many steps as its budget.
use Rattle.std.specs.Prelude.{ℕ, zero, suc, ◌+◌, List}
use Rattle.rules.specs.declared.step.Step.TheVariants.{Went}
use Rattle.state.specs.declared.machine.Machine.{Machine}
use Rattle.state.specs.declared.machine.Stopped.{Stopped}
use Rattle.state.specs.Machine.{registers_at, onward}
use Rattle.machine.specs.Step.{Map, Parts, parts_of, After, step_of}

-- the parts of a machine, with the counters and slots that it is lent
abbrev pub parts_in : Machine → (words slots : List ℕ) → Parts
parts_in m ws tr = parts_of m.registers m.resumes m.functions m.variables ws tr

abbrev pub stopped_with : Stopped → (words slots : List ℕ) → After
stopped_with x ws tr = record { step = x.step; parts = parts_in x.machine ws tr }

-- with where the run is and the steps set
abbrev pub parts_at : Parts → (at steps : ℕ) → Parts
parts_at p k n = parts_of (registers_at p.registers k n) p.resumes p.functions p.vars p.words p.slots

-- a step that ends a run is counted too
abbrev pub stops_after : (steps : ℕ) → After → After
stops_after n a = record { step = a.step; parts = parts_at a.parts a.parts.registers.at n }

unfoldable pub run_of : (lines : List ℕ) → Map → (budget : ℕ) → Parts → After
run_of bs m zero p = record { step = Went p.registers.at; parts = p }
run_of bs m (suc b) p =
    let a = step_of bs m p in
    let n = p.registers.steps + 1 in
    onward a.step (λ k. run_of bs m b (parts_at a.parts k n)) (stops_after n a)
