-- What `no_region` and `full` answer, and what an answer says of the numbers, as laws. Assumes nothing.
use mathlib.Core.Path.{◌≡◌, refl, sym, ◌∙◌}
use mathlib.Core.Bool.{Bool, true, false, ◌||◌}
use Prim.Native.Nat.{ℕ, ◌≤◌, ◌<◌}
use lib.Dec.{leb}
use borrow.Author.Tests.{le-leb, lt-leb, leb-false}
use Rattle.rules.specs.Limits.{max_constructs, max_regions}
use Rattle.rules.proofs.Logic.{clash}
use Rattle.walk.specs.Limit.{no_region, NoRegion, Full}

pub region-left : (o : ℕ) → NoRegion o (leb max_regions o)
region-left o = record { is = refl }

pub full-deep : (d o : ℕ) → max_constructs ≤ d → Full d o true
full-deep d o h = record { is = rw (le-leb max_constructs d h) }

pub full-opened : (d o : ℕ) {f : Bool} → d < max_constructs → NoRegion o f → Full d o f
full-opened d o h q = record { is = rw (lt-leb max_constructs d h) q.is }

neither : (a b : Bool) → a || b ≡ false → (a ≡ false) × (b ≡ false)
neither true b e = clash refl e
neither false b e = (refl, e)

module _ {f : Bool} {d o : ℕ} (q : Full d o f) (t : f ≡ false) where
  pub few-open : d < max_constructs
  few-open = leb-false max_constructs d (neither (leb max_constructs d) (no_region o) (sym q.is ∙ t)).0

  pub few-opened : o < max_regions
  few-opened = leb-false max_regions o (neither (leb max_constructs d) (no_region o) (sym q.is ∙ t)).1

pub few_regions : {f : Bool} {o : ℕ} → NoRegion o f → f ≡ false → o < max_regions
few_regions {o = o} q t = leb-false max_regions o (sym q.is ∙ t)
