-- What every run keeps, whichever table it runs: the open functions, the variables and the trace (01, "Running").
use Rattle.std.specs.Prelude.{ℕ, suc, List, [], ◌∷◌, ◌++◌, length}
use Rattle.rules.specs.declared.operands.Operands.{Operands}
use Rattle.rules.specs.Variables.{done_on}

-- An open function: its number, the row or line that it goes on at, and what is its own (what its form keeps, in a hardened run).
pub record Frame (C : Type 0) : Type 0 where
  pub function : ℕ
  pub at : ℕ
  pub own : C

-- The running function; those that wait for it, the newest first; what the function that returned last had as its own.
pub record State (C : Type 0) : Type 0 where
  pub running : Frame C
  pub callers : List (Frame C)
  pub last : C
  pub vars : List ℕ
  pub trace : List ℕ

abbrev pub frame : {C : Type 0} → (function at : ℕ) → C → Frame C
frame n k c = record { function = n; at = k; own = c }

-- a run that starts in function 0 at this row or line, with this as its own; nothing has returned yet
abbrev pub begin : {C : Type 0} → (at : ℕ) → (own nothing : C) → (vars : List ℕ) → State C
begin k c z vs = record { running = frame 0 k c; callers = []; last = z; vars = vs; trace = [] }

-- the running function goes on at row or line k, with c as its own
abbrev pub go_to : {C : Type 0} → (k : ℕ) → (c : C) → State C → State C
go_to k c s =
    record { running = frame s.running.function k c; callers = s.callers; last = s.last; vars = s.vars; trace = s.trace }

-- the do of this row is done, where it does not overflow: "The trace is the do row numbers in order."
abbrev pub did : {C : Type 0} → Operands → (row : ℕ) → State C → State C
did o i s =
    record { running = s.running; callers = s.callers; last = s.last; vars = done_on o s.vars; trace = s.trace ++ (i ∷ []) }

-- function n opens at row or line k with c as its own; the running one waits as it is
abbrev pub opening : {C : Type 0} → (n k : ℕ) → (c : C) → State C → State C
opening n k c s =
    record { running = frame n k c; callers = s.running ∷ s.callers; last = s.last; vars = s.vars; trace = s.trace }

-- the running function returns to f, around which fs wait
abbrev pub returning : {C : Type 0} → (f : Frame C) → (fs : List (Frame C)) → State C → State C
returning f fs s =
    record { running = f; callers = fs; last = s.running.own; vars = s.vars; trace = s.trace }

-- the state with this trace
abbrev pub retraced : {C : Type 0} → (trace : List ℕ) → State C → State C
retraced tr s = record { running = s.running; callers = s.callers; last = s.last; vars = s.vars; trace = tr }

-- the functions that are open, the first function 0 among them
abbrev pub depth : {C : Type 0} → State C → ℕ
depth s = suc (length s.callers)

-- "A run's open functions are the numbers of those opened and not returned, oldest first"
abbrev pub numbers_of : {C : Type 0} → List (Frame C) → List ℕ
numbers_of [] = []
numbers_of (f ∷ fs) = numbers_of fs ++ (f.function ∷ [])

abbrev pub open_functions : {C : Type 0} → State C → List ℕ
open_functions s = numbers_of (s.running ∷ s.callers)
