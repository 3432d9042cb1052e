-- What is found of a source table that is to be hardened or run: why it is refused, or its chain and the chain's links. Assumes nothing:
-- these are definitions.
use Rattle.std.specs.Prelude.{Result, Ok, Err, ℕ, ◌≤◌, ◌≡◌, List, length, take}
use Rattle.rules.specs.declared.refusal.Refusal.{Refusal}
use Rattle.rules.specs.Verdict.{Accepted, Refused}
use Rattle.rules.specs.Row.{table_of}
use Rattle.rules.specs.Check.{verdict_of}
use Rattle.rules.specs.Given.{given_verdict}
use Rattle.rules.specs.Chained.{StandsFor}
use Rattle.rules.specs.Links.{Links}

-- the first `size` bytes of the buffer are the chain of the table, an accepted table of 01, and these are its links
pub record ChainLinked (rows chain ends elses heads : List ℕ) (size : ℕ) : Type 0 where
  pub within : size ≤ length chain
  pub stands : StandsFor rows (take size chain)
  pub accepted : verdict_of (take size chain) ≡ Accepted
  pub links : Links (table_of (take size chain)) ends elses heads

-- why the table is turned away, or how many bytes its chain has
abbrev pub Linked : Type 0
Linked = Result ℕ Refusal

abbrev pub WhatIsLinked : (rows chain ends elses heads : List ℕ) → Linked → Type 0
WhatIsLinked rows chain ends elses heads (Err c) = given_verdict rows ≡ Refused c
WhatIsLinked rows chain ends elses heads (Ok n) = ChainLinked rows chain ends elses heads n

pub record LinkedOk (rows chain ends elses heads : List ℕ) (r : Linked) : Type 0 where
  pub leads : WhatIsLinked rows chain ends elses heads r
