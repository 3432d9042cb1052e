-- What is open among the rows as given, as numbers, bytes and words. Assumes nothing: these are definitions.
use Rattle.std.specs.Prelude.{ℕ, zero, suc, ◌+◌, ◌*◌, ◌-◌, ◌/◌, ◌≡◌, Bool, false, cond, ◌||◌, List, [], ◌∷◌, eqb, ltb, length, get_or}
use Rattle.rules.specs.Limits.{max_rows}
use Rattle.rules.specs.Switch.{Switch, Thing, construct, switch}
use Rattle.rules.specs.Chained.{cases_in}

-- of a switch: twice its cases and 1, in its default 1 more
abbrev pub mark_of : Switch → ℕ
mark_of s = cond s.in_default 2 1 + 2 * length s.used

abbrev pub marked_cases : (mark : ℕ) → ℕ
marked_cases m = (m - 1) / 2

-- the largest: of a switch with 16 cases, in its default
abbrev pub most_mark : ℕ
most_mark = 34

-- of the first so many marks the last
abbrev pub top_mark : (marks : List ℕ) → (count : ℕ) → ℕ
top_mark ms n = cond (eqb n 0) 0 (get_or ms (n - 1) 0)

-- the numbers ns, the last one first, stand in the words from word b on
abbrev pub NumbersAt : (words : List ℕ) → (b : ℕ) → (ns : List ℕ) → Type 0
NumbersAt us b [] = Unit {0}
NumbersAt us b (n ∷ ns) = (get_or us (b + length ns) 0 ≡ n) × NumbersAt us b ns

-- the number x is among the words b, b + 1, .. b + d - 1
unfoldable pub among_words : (x : ℕ) → (words : List ℕ) → (b d : ℕ) → Bool
among_words x us b zero = false
among_words x us b (suc d) = eqb x (get_or us (b + d) 0) || among_words x us b d

-- a switch at place i, around which b cases are open
pub record SwitchAt (marks vars words : List ℕ) (i b : ℕ) (s : Switch) : Type 0 where
  pub mark_is : get_or marks i 0 ≡ mark_of s
  pub var_is : get_or vars i 0 ≡ s.p
  pub numbers : NumbersAt words b s.used

-- the arrays begin with the things that are open, the outermost first
abbrev pub Spelt : (marks vars words : List ℕ) → List Thing → Type 0
Spelt ms vs us [] = Unit {0}
Spelt ms vs us (construct ∷ ts) = (get_or ms (length ts) 0 ≡ 0) × Spelt ms vs us ts
Spelt ms vs us (switch s ∷ ts) = SwitchAt ms vs us (length ts) (cases_in ts) s × Spelt ms vs us ts

pub record OpenIs (ts : List Thing) (count cases : ℕ) (marks vars words : List ℕ) : Type 0 where
  pub count_is : length ts ≡ count
  pub cases_are : cases_in ts ≡ cases
  pub spelt : Spelt marks vars words ts

-- the first row with which the chain is too long, where row i takes it from `before` to `after` rows
abbrev pub long_row_lem : (before after long i : ℕ) → ℕ
long_row_lem before after long i = cond (ltb max_rows before) long (cond (ltb max_rows after) i long)
