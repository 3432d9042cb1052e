-- What may still strike a run, turn by turn, as the code has it. Assumes nothing.
use mathlib.Core.Path.{◌≡◌, sym, ap, ◌∙◌}
use mathlib.Core.Bool.{Bool, true, false, cond}
use mathlib.Core.List.{List}
use mathlib.Core.Logic.{◌≢◌}
use Prim.Native.Nat.{ℕ, ◌-◌}
use borrow.Author.Tests.{eq-eqb, ne_eqb}
use Rattle.rules.specs.Strike.{Strike, None, Jump}
use Rattle.machine.specs.Step.{Map, Parts}
use Rattle.machine.specs.Run.{run_of}
use Rattle.strike.specs.Struck.{land_of}
use Rattle.show.specs.Due.{is_due_lem, place_of, later, left_after_lem, turn_of}

pub later-now : (k place : ℕ) → k ≡ 0 → None ≡ later (Jump k place)
later-now k place h = rw (eq-eqb k 0 h)

pub later-next : (k place : ℕ) → k ≢ 0 → Jump (k - 1) place ≡ later (Jump k place)
later-next k place h = rw (ne_eqb k 0 h)

pub left_less : (left : ℕ) (j : Strike) (b : Bool) → b ≡ is_due_lem j → b ≡ false → left - 1 ≡ left_after_lem left j
left_less left j b e f = ap (λ x. cond x left (left - 1)) (sym f ∙ e)

pub turn-jumps : (bs : List ℕ) (m : Map) (j : Strike) (p : Parts) (b : Bool) → b ≡ is_due_lem j → b ≡ true → (place : ℕ) → place ≡ place_of j → land_of bs m 0 place p ≡ turn_of bs m j p
turn-jumps bs m j p b e t place q = ap (λ n. land_of bs m 0 n p) q ∙ ap (λ x. cond x (land_of bs m 0 (place_of j) p) (run_of bs m 1 p)) (sym t ∙ e)

pub turn-steps : (bs : List ℕ) (m : Map) (j : Strike) (p : Parts) (b : Bool) → b ≡ is_due_lem j → b ≡ false → run_of bs m 1 p ≡ turn_of bs m j p
turn-steps bs m j p b e f = ap (λ x. cond x (land_of bs m 0 (place_of j) p) (run_of bs m 1 p)) (sym f ∙ e)
