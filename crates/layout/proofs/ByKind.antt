-- Where a row stands, by its kind. Assumes that the table is accepted.
use mathlib.Core.Path.{◌≡◌, refl, sym, ◌∙◌}
use mathlib.Core.Bool.{false}
use mathlib.Core.List.{List, [], ◌∷◌}
use Prim.Native.Nat.{ℕ, ◌/◌, ◌<◌}
use native.Mathlib.Omega.{arith}
use lib.ListN.{length}
use Rattle.rules.specs.declared.kind.Kind.{Kind}
use Rattle.rules.specs.declared.kind.Kind.TheVariants.{Do, If, Else, Loop, End, Break, Continue, Call}
use Rattle.rules.specs.Row.{table_of, kind_at}
use Rattle.rules.specs.Scan.{Open, open_at}
use Rattle.rules.specs.Check.{is_outside, misplaced_in}
use Rattle.rules.proofs.Logic.{clash}
use Rattle.rules.proofs.Accepted.{proper, table-length}
use Rattle.rules.proofs.Function.{placed-in}
use Rattle.layout.specs.declared.scope.Scope.{Scope}
use Rattle.layout.specs.Scope.{Surveyed}
use Rattle.layout.specs.Spot.{Inside, InLoop}

pub kind_is : (bs : List ℕ) (i : ℕ) {k j : Kind} → k ≡ kind_at (table_of bs) i → k ≡ j → kind_at (table_of bs) i ≡ j
kind_is bs i p q = sym p ∙ q

then-open : (fs : List Open) → misplaced_in Else fs ≡ false → is_outside fs ≡ false
unfolding misplaced_in
then-open [] e = clash refl e
then-open (f ∷ fs) e = refl

module _ {bs : List ℕ} {m : List Scope} {i : ℕ} {k : Kind} (s : Surveyed bs m) (l : i < length bs / 6) (p : k ≡ kind_at (table_of bs) i) where
  placed : {j : Kind} → k ≡ j → misplaced_in j (open_at (table_of bs) i) ≡ false
  placed q = placed-in (table_of bs) (proper bs s.accepted) i (omega (arith, table-length bs)) (sym p ∙ q) refl

  pub in-do : k ≡ Do → Inside bs i
  unfolding misplaced_in
  in-do q = record { row = l; within = placed q }

  pub in-if : k ≡ If → Inside bs i
  unfolding misplaced_in
  in-if q = record { row = l; within = placed q }

  pub in-else : k ≡ Else → Inside bs i
  in-else q = record { row = l; within = then-open (open_at (table_of bs) i) (placed q) }

  pub in-loop : k ≡ Loop → Inside bs i
  unfolding misplaced_in
  in-loop q = record { row = l; within = placed q }

  pub in_end : k ≡ End → Inside bs i
  unfolding misplaced_in
  in_end q = record { row = l; within = placed q }

  pub in-break : k ≡ Break → InLoop bs i
  unfolding misplaced_in
  in-break q = record { row = l; within = placed q }

  pub in-continue : k ≡ Continue → InLoop bs i
  unfolding misplaced_in
  in-continue q = record { row = l; within = placed q }

  pub in-call : k ≡ Call → Inside bs i
  unfolding misplaced_in
  in-call q = record { row = l; within = placed q }
