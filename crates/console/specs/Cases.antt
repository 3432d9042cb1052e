-- Small words and texts, by computation: what a word begins with, and each way in which a line of four digits can be malformed.
use Rattle.std.specs.Prelude.{◌≡◌, ◌==◌, nat_eq, true, false, Some, None, position, [], ◌∷◌, refl}
use Rattle.std.specs.Cmp.Lexicographic.{pointwise}
use Rattle.console.specs.declared.malformed.Wrong.TheVariants.{CarriageReturn, Long, Uppercase, Space, Other, Empty, Short}
use Rattle.console.specs.Word.{begins, skip_of}
use Rattle.console.specs.Malformed.{wrong_end_lem, wrong_digit_lem, wrong_byte_lem, at_first_lem, behind_byte, next_seen, look_on}

-- `v1=1` begins with `v`, and not with `v2`; every word begins with no bytes
name : skip_of (118 ∷ 49 ∷ 61 ∷ 49 ∷ []) (118 ∷ []) ≡ Some (49 ∷ 61 ∷ 49 ∷ [])
unfolding skip_of begins
name = refl

other_name : skip_of (118 ∷ 49 ∷ 61 ∷ 49 ∷ []) (118 ∷ 50 ∷ []) ≡ None
unfolding skip_of begins
other_name = refl

longer_name : skip_of (118 ∷ []) (118 ∷ 50 ∷ []) ≡ None
unfolding skip_of begins
longer_name = refl

no_name : skip_of (118 ∷ []) [] ≡ Some (118 ∷ [])
unfolding skip_of begins
no_name = refl

-- a word that begins with another is not that one, as slices are compared
same : pointwise nat_eq (118 ∷ 49 ∷ []) (118 ∷ 49 ∷ []) ≡ true
same = refl

begins_only : pointwise nat_eq (118 ∷ 49 ∷ []) (118 ∷ []) ≡ false
begins_only = refl

-- `=` in `v1=1`, and where there is none
equals_sign : position (λ x. x == 61) (118 ∷ 49 ∷ 61 ∷ 49 ∷ []) ≡ Some 2
equals_sign = refl

no_sign : position (λ x. x == 61) (118 ∷ 49 ∷ []) ≡ None
no_sign = refl

-- `01af` and a newline
whole : look_on 4 at_first_lem (48 ∷ 49 ∷ 97 ∷ 102 ∷ 10 ∷ []) ≡ record { line = 2; column = 0; wrong = None }
unfolding look_on next_seen wrong_byte_lem wrong_end_lem wrong_digit_lem behind_byte
whole = refl

-- the same, and an empty line
empty : look_on 4 at_first_lem (48 ∷ 49 ∷ 97 ∷ 102 ∷ 10 ∷ 10 ∷ []) ≡ record { line = 2; column = 0; wrong = Some Empty }
unfolding look_on next_seen wrong_byte_lem wrong_end_lem wrong_digit_lem behind_byte
empty = refl

-- `01a`, `01af0`, `01aF`, `01af` and a carriage return, `01 f`
short : look_on 4 at_first_lem (48 ∷ 49 ∷ 97 ∷ 10 ∷ []) ≡ record { line = 1; column = 3; wrong = Some Short }
unfolding look_on next_seen wrong_byte_lem wrong_end_lem wrong_digit_lem behind_byte
short = refl

long : look_on 4 at_first_lem (48 ∷ 49 ∷ 97 ∷ 102 ∷ 48 ∷ 10 ∷ []) ≡ record { line = 1; column = 4; wrong = Some Long }
unfolding look_on next_seen wrong_byte_lem wrong_end_lem wrong_digit_lem behind_byte
long = refl

uppercase : look_on 4 at_first_lem (48 ∷ 49 ∷ 97 ∷ 70 ∷ 10 ∷ []) ≡ record { line = 1; column = 3; wrong = Some Uppercase }
unfolding look_on next_seen wrong_byte_lem wrong_end_lem wrong_digit_lem behind_byte
uppercase = refl

carriage : look_on 4 at_first_lem (48 ∷ 49 ∷ 97 ∷ 102 ∷ 13 ∷ 10 ∷ []) ≡ record { line = 1; column = 4; wrong = Some CarriageReturn }
unfolding look_on next_seen wrong_byte_lem wrong_end_lem wrong_digit_lem behind_byte
carriage = refl

space : look_on 4 at_first_lem (48 ∷ 49 ∷ 32 ∷ 102 ∷ 10 ∷ []) ≡ record { line = 1; column = 2; wrong = Some Space }
unfolding look_on next_seen wrong_byte_lem wrong_end_lem wrong_digit_lem behind_byte
space = refl

-- `0g`, and an empty line behind it: the first wrong byte is kept
first : look_on 4 at_first_lem (48 ∷ 103 ∷ 10 ∷ 10 ∷ []) ≡ record { line = 1; column = 1; wrong = Some Other }
unfolding look_on next_seen wrong_byte_lem wrong_end_lem wrong_digit_lem behind_byte
first = refl
