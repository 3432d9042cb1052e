-- What a word of digits says: a number of sixteen bits, or none.
use Rattle.std.specs.Prelude.{ℕ, ◌+◌, ◌-◌, ◌*◌, Bool, true, cond, Option, Some, None, ◌&&◌, List, [], ◌∷◌, nat_le}

-- `0` to `9`
abbrev pub is_figure : ℕ → Bool
is_figure b = nat_le 48 b && nat_le b 57

unfoldable pub are_figures : List ℕ → Bool
are_figures [] = true
are_figures (b ∷ bs) = is_figure b && are_figures bs

-- the digits of a number, the first of them before these, read on
unfoldable pub value_from : (before : ℕ) → List ℕ → ℕ
value_from v [] = v
value_from v (b ∷ bs) = value_from (10 * v + (b - 48)) bs

unfoldable pub number_from : (before : ℕ) → List ℕ → Option ℕ
number_from v bs = cond (are_figures bs && nat_le (value_from v bs) 65535) (Some (value_from v bs)) None

-- no digits are no number
unfoldable pub number_of : List ℕ → Option ℕ
number_of [] = None
number_of (b ∷ bs) = number_from 0 (b ∷ bs)
