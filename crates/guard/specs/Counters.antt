-- The counters of the open functions: word 64 x depth + r is region r's counter of the open function at that depth.
use Rattle.std.specs.Prelude.{ℕ, ◌+◌, ◌*◌, List, ◌++◌, get_or, set, take, drop}
use Rattle.rules.specs.Limits.{max_regions}
use Rattle.rules.specs.Calls.{zeros}

abbrev pub counter : List ℕ → (d r : ℕ) → ℕ
counter ws d r = get_or ws (max_regions * d + r) 0

abbrev pub with_counter : List ℕ → (d r v : ℕ) → List ℕ
with_counter ws d r v = set ws (max_regions * d + r) v

-- the n words from word `from` on are 0
abbrev pub zeroed : List ℕ → (from n : ℕ) → List ℕ
zeroed ws from n = take from ws ++ (zeros n ++ drop (from + n) ws)

-- all counters of the function at depth d are 0 but region 0's, which is v
abbrev pub fresh_at : List ℕ → (d v : ℕ) → List ℕ
fresh_at ws d v = with_counter (zeroed ws (max_regions * d) max_regions) d 0 v
