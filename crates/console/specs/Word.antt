-- Words of the command line, as bytes.
use Rattle.std.specs.Prelude.{ℕ, Bool, true, false, cond, Option, Some, None, ◌&&◌, List, [], ◌∷◌, length, drop, ◌==◌}

-- whether the word begins with the name
unfoldable pub begins : (word name : List ℕ) → Bool
begins word [] = true
begins [] (n ∷ ns) = false
begins (w ∷ ws) (n ∷ ns) = w == n && begins ws ns

-- what the word has behind the name
unfoldable pub skip_of : (word name : List ℕ) → Option (List ℕ)
skip_of word name = cond (begins word name) (Some (drop (length name) word)) None
