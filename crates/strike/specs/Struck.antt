-- A run that something may strike. A jump: to the step that it names, there to its place, and on.
use Rattle.std.specs.Prelude.{ℕ, ◌+◌, ◌-◌, cond, List, leb, get_or}
use Rattle.rules.specs.declared.answer.Ran.{Ran}
use Rattle.rules.specs.declared.step.Step.TheVariants.{Beyond}
use Rattle.rules.specs.Strike.{Strike, None, Jump}
use Rattle.rules.specs.Verdict.{Accepted}
use Rattle.rules.specs.Line.{lines_in}
use Rattle.rules.specs.Hardened.{hardened_run}
use Rattle.rules.specs.Calls.{running, HardenedRunning}
use Rattle.state.specs.declared.machine.Registers.{Registers}
use Rattle.machine.specs.Step.{Map, Parts, last_line_lem, After}
use Rattle.machine.specs.Run.{parts_at, run_of}
use Rattle.state.specs.Machine.{onward}

-- ---- the jump
-- the first line of the running function, and its place m
abbrev pub first_line : Map → Registers → ℕ
first_line m h = get_or m.starts h.function 0

abbrev pub places_in : Map → Registers → ℕ
places_in m h = last_line_lem m h - first_line m h

-- the running function goes to the place, and at most `left` steps are made from there
unfoldable pub land_of : (lines : List ℕ) → Map → (left place : ℕ) → Parts → After
land_of bs m left place p =
    cond (leb place (places_in m p.registers)) (run_of bs m left (parts_at p (first_line m p.registers + place) p.registers.steps))
    (record { step = Beyond (places_in m p.registers); parts = p })

-- a run that came to the jump's step goes to its place; one that stopped before stays stopped
unfoldable pub lands_after : (lines : List ℕ) → Map → (left place : ℕ) → After → After
lands_after bs m left place a = onward a.step (λ k. land_of bs m left place a.parts) a

-- a jump before step k
unfoldable pub jump_of : (lines : List ℕ) → Map → (budget k place : ℕ) → Parts → After
jump_of bs m b k place p = cond (leb b k) (run_of bs m b p) (lands_after bs m (b - k) place (run_of bs m k p))

unfoldable pub struck_of : (lines : List ℕ) → Map → (budget : ℕ) → Strike → Parts → After
struck_of bs m b None p = run_of bs m b p
struck_of bs m b (Jump k place) p = jump_of bs m b k place p

-- ---- the answer
-- an answer with the slots and the counter words after it
abbrev pub ran_with : Ran → (slots words : List ℕ) → HardenedRunning
ran_with r tr ws = record { run = record { ran = r; trace = tr }; words = ws }

-- what an accepted hardened run answers and leaves in the slots, with these words
abbrev pub accepted_run : (lines vars : List ℕ) → (budget : ℕ) → Strike → (slots words : List ℕ) → HardenedRunning
accepted_run bs vs b j tr ws = record { run = running Accepted (hardened_run (lines_in bs) j b vs) vs tr; words = ws }
