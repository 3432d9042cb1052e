-- A function opens, and one returns.
use Rattle.std.specs.Prelude.{ℕ, ◌+◌, ◌-◌, List, get_or, set}
use Rattle.rules.specs.declared.step.Step.TheVariants.{Went}
use Rattle.state.specs.declared.machine.Registers.{Registers}
use Rattle.state.specs.declared.machine.Moved.{Moved}
use Rattle.state.specs.Machine.{moved}

-- an answer, and where the functions that wait go on, with their numbers
pub record Opened : Type 0 where
  pub to : Moved
  pub resumes : List ℕ
  pub functions : List ℕ

abbrev pub opened : Moved → (resumes functions : List ℕ) → Opened
opened x ks fs = record { to = x; resumes = ks; functions = fs }

-- the running function waits at the next row or line, and one more is open, in which the run goes on
abbrev pub opened_of : Registers → (function go : ℕ) → (resumes functions : List ℕ) → Opened
opened_of h f go ks fs =
    opened
    (moved (Went go)
    (record { depth = h.depth + 1; function = f; at = go; last = h.last; steps = h.steps; traced = h.traced }))
    (set ks h.depth (h.at + 1)) (set fs h.depth h.function)

-- the running function, whose region 0 ended at v, returns to the one that waited last
abbrev pub closed_of : Registers → (v : ℕ) → (resumes functions : List ℕ) → Moved
closed_of h v ks fs =
    let d = h.depth - 1 in
    moved (Went (get_or ks d 0))
    (record { depth = d; function = get_or fs d 0; at = get_or ks d 0; last = v; steps = h.steps; traced = h.traced })
