-- Whether one more part would be too many (cause 6), by the numbers that a pass has. Assumes nothing.
use mathlib.Core.Path.{◌≡◌, refl}
use mathlib.Core.Bool.{Bool, true, false, ◌||◌}
use mathlib.Core.List.{List, ◌∷◌}
use Prim.Native.Nat.{ℕ, ◌+◌, ◌-◌, ◌≤◌, ◌<◌}
use native.Mathlib.Omega.{arith}
use lib.ListN.{length}
use borrow.Author.Tests.{le-leb, lt-leb}
use Rattle.rules.specs.Limits.{max_constructs, max_regions}
use Rattle.rules.specs.Scan.{Open, body_region}
use Rattle.rules.specs.Check.{all_regions, all_constructs, constructs_in}

pub few_parts : (h : Open) (hs : List Open) (g d o : ℕ) → length hs ≡ d → g ≡ body_region (h ∷ hs) + o → d < max_constructs → o < max_regions
    → all_constructs (h ∷ hs) || all_regions g (h ∷ hs) ≡ false
few_parts h hs g d o p q a b = rw (lt-leb max_constructs (constructs_in (h ∷ hs)) (omega arith), lt-leb max_regions (g - body_region (h ∷ hs)) (omega arith))

pub few_regions : (h : Open) (hs : List Open) (g o : ℕ) → g ≡ body_region (h ∷ hs) + o → o < max_regions → all_regions g (h ∷ hs) ≡ false
few_regions h hs g o q b = lt-leb max_regions (g - body_region (h ∷ hs)) (omega arith)

pub many-regions : (h : Open) (hs : List Open) (g o : ℕ) → g ≡ body_region (h ∷ hs) + o → max_regions ≤ o → all_regions g (h ∷ hs) ≡ true
many-regions h hs g o q b = le-leb max_regions (g - body_region (h ∷ hs)) (omega arith)

pub many-constructs : (h : Open) (hs : List Open) (d : ℕ) → length hs ≡ d → max_constructs ≤ d → all_constructs (h ∷ hs) ≡ true
many-constructs h hs d p a = le-leb max_constructs (constructs_in (h ∷ hs)) (omega arith)

pub or-true : (a : Bool) → a || true ≡ true
or-true true = refl
or-true false = refl
