-- How a worked case is written down: listings as 01 prints them, and what the lent buffers hold before and after.
use Rattle.std.specs.Prelude.{ℕ, zero, suc, ◌-◌, ◌/◌, ◌%◌, List, [], ◌∷◌, ◌++◌, length, replicate}
use Rattle.rules.specs.Limits.{counter_words}
use Rattle.rules.specs.Calls.{Writing, Running, HardenedRunning, zeros}

-- the bytes of a hexadecimal numeral of so many bytes, the first digits first; those of a listing, a numeral a line
unfoldable pub digits : (width numeral : ℕ) → List ℕ
digits zero n = []
digits (suc w) n = digits w (n / 256) ++ (n % 256 ∷ [])

unfoldable pub listed : (width : ℕ) → (numerals : List ℕ) → List ℕ
listed w [] = []
listed w (n ∷ ns) = digits w n ++ listed w ns

-- the variables v0 to v3 as told, and all else 0
abbrev pub variables : (v0 v1 v2 v3 : ℕ) → List ℕ
variables w x y z = w ∷ x ∷ y ∷ z ∷ 0 ∷ 0 ∷ 0 ∷ 0 ∷ 0 ∷ 0 ∷ 0 ∷ 0 ∷ 0 ∷ 0 ∷ 0 ∷ 0 ∷ []

-- what the lent buffers hold before: something else than any answer
abbrev pub slots : (count : ℕ) → List ℕ
slots n = replicate n 7777

unfoldable pub words : List ℕ
words = replicate counter_words 7777

abbrev pub room : (bytes : ℕ) → List ℕ
room n = replicate n 0x77

-- so many bytes were lent and this was written to their front; or nothing, with a refusal's number
abbrev pub wrote : (bytes : ℕ) → List ℕ → Writing
wrote n bs = record { wrote = record { number = 0; length = length bs }; out = bs ++ room (n - length bs) }

abbrev pub wrote_nothing : (bytes number : ℕ) → Writing
wrote_nothing n refusal = record { wrote = record { number = refusal; length = 0 }; out = room n }

-- an accepted run that was lent so many slots
abbrev pub ran : (count outcome steps : ℕ) → (trace vars : List ℕ) → Running
ran n o k tr vs =
    record {
      ran = record { number = 0; outcome = o; steps = k; traced = length tr; variables = vs };
      trace = tr ++ slots (n - length tr);
    }

abbrev pub ran_hardened : (count outcome steps : ℕ) → (trace vars : List ℕ) → HardenedRunning
ran_hardened n o k tr vs = record { run = ran n o k tr vs; words = zeros counter_words }

-- a refused run
abbrev pub ran_nothing : (count number : ℕ) → (vars : List ℕ) → Running
ran_nothing n refusal vs =
    record {
      ran = record { number = refusal; outcome = 0; steps = 0; traced = 0; variables = vs };
      trace = slots n;
    }
