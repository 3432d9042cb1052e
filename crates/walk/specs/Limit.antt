-- Whether one more part is too many, by the numbers that a walk has. Assumes nothing: these are definitions.
use Rattle.std.specs.Prelude.{ℕ, ◌≡◌, Bool, ◌||◌, leb}
use Rattle.rules.specs.Limits.{max_constructs, max_regions}

-- 6, "a 17th open if or loop, or a 65th region": with o regions opened in the function, there is none for another part
abbrev pub no_region : (o : ℕ) → Bool
no_region o = leb max_regions o

-- and with d ifs and loops open and o regions opened, no if or loop may begin
abbrev pub is_full : (d o : ℕ) → Bool
is_full d o = leb max_constructs d || no_region o

pub record NoRegion (o : ℕ) (f : Bool) : Type 0 where
  pub is : f ≡ no_region o

pub record Full (d o : ℕ) (f : Bool) : Type 0 where
  pub is : f ≡ is_full d o
