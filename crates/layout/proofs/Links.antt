-- The links that checking a table finds. Assumes nothing.
use mathlib.Core.List.{List}
use Prim.Native.Nat.{ℕ, ◌≤◌}
use lib.ListN.{length}
use Rattle.rules.specs.Row.{table_of}
use Rattle.rules.specs.Links.{Links}
use Rattle.layout.specs.Spot.{Ends, Elses, Heads}

pub ends_of : (bs : List ℕ) {ends elses heads : List ℕ} → Links (table_of bs) ends elses heads → 1024 ≤ length ends → Ends bs ends
ends_of bs l r = record { room = r; each = l.ends_are }

pub elses-of : (bs : List ℕ) {ends elses heads : List ℕ} → Links (table_of bs) ends elses heads → 1024 ≤ length elses → Elses bs elses
elses-of bs l r = record { room = r; each = l.elses_are }

pub heads-of : (bs : List ℕ) {ends elses heads : List ℕ} → Links (table_of bs) ends elses heads → 32 ≤ length heads → Heads bs heads
heads-of bs l r = record { room = r; each = l.heads_are }
