-- What the machine that a run starts in holds. Assumes nothing.
use mathlib.Core.Path.{◌≡◌, ap}
use mathlib.Core.List.{List}
use Prim.Native.Nat.{ℕ}
use lib.ListN.{length}
use Rattle.rules.specs.Limits.{max_open}
use Rattle.state.specs.declared.machine.Machine.{Machine}
use Rattle.state.specs.Machine.{first_registers, begun_at}

pub record Begun (m : Machine) (at : ℕ) (vars : List ℕ) : Type 0 where
  pub registers_are : m.registers ≡ first_registers at
  pub vars_are : m.variables ≡ vars
  pub resumes_are : length m.resumes ≡ max_open
  pub functions_are : length m.functions ≡ max_open

pub begins : {m : Machine} {at : ℕ} {vars : List ℕ} → m ≡ begun_at at vars → Begun m at vars
begins e =
    record {
      registers_are = ap (λ m. m.registers) e;
      vars_are = ap (λ m. m.variables) e;
      resumes_are = ap (λ m. length m.resumes) e;
      functions_are = ap (λ m. length m.functions) e;
    }
