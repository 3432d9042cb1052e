-- What the row is that some bytes begin with, as laws. Assumes nothing.
use mathlib.Core.Path.{◌≡◌, ap, ◌∙◌}
use mathlib.Core.Bool.{Bool}
use mathlib.Core.List.{List}
use Prim.Native.Nat.{ℕ}
use lib.ListN.{get_or}
use borrow.Author.Tests.{eq-eqb, ne_eqb}
use Rattle.rules.specs.declared.kind.Kind.{Kind}
use Rattle.rules.specs.declared.kind.Kind.TheVariants.{Else, Call}
use Rattle.rules.specs.Row.{row_in, fields_fit_lem}
use Rattle.rules.specs.Switch.{as_is, given_as}
use Rattle.rules.specs.Given.{uses_switch_lem, given_fits}
use Rattle.given.specs.declared.sort.Sort.{Sort}
use Rattle.given.specs.declared.sort.Sort.TheVariants.{Plain, Switch, Case, Default}
use Rattle.given.specs.Sort.{own_sort, sort_of_lem, first_given}

pub sort-plain : (xs : List ℕ) (k : Kind) (f : Bool) (r : Sort) → k ≡ (row_in xs 0).kind → f ≡ fields_fit_lem k (row_in xs 0).operands
    → r ≡ own_sort f (Plain k) → r ≡ sort_of_lem (as_is (row_in xs 0))
unfolding given_fits
sort-plain xs k f r p q e =
    e ∙ ap (λ x. own_sort x (Plain k)) q ∙ ap (λ x. own_sort (fields_fit_lem x (row_in xs 0).operands) (Plain x)) p

module _ (xs : List ℕ) (f : Bool) (r : Sort) where
  pub first-switch : get_or xs 0 0 ≡ 10 → f ≡ uses_switch_lem (row_in xs 0).operands → r ≡ own_sort f Switch → r ≡ sort_of_lem (first_given xs)
  unfolding given_as given_fits
  first-switch b q e = rw (eq-eqb (get_or xs 0 0) 10 b) (e ∙ ap (λ x. own_sort x Switch) q)

  pub first-case : get_or xs 0 0 ≡ 11 → f ≡ fields_fit_lem Call (row_in xs 0).operands → r ≡ own_sort f Case → r ≡ sort_of_lem (first_given xs)
  unfolding given_as given_fits fields_fit_lem
  first-case b q e = rw b (e ∙ ap (λ x. own_sort x Case) q)

  pub first-default : get_or xs 0 0 ≡ 12 → f ≡ fields_fit_lem Else (row_in xs 0).operands → r ≡ own_sort f Default → r ≡ sort_of_lem (first_given xs)
  unfolding given_as given_fits fields_fit_lem
  first-default b q e = rw b (e ∙ ap (λ x. own_sort x Default) q)

pub first_plain : (xs : List ℕ) (r : Sort) → (get_or xs 0 0 ≡ 10 → ⊥) → (get_or xs 0 0 ≡ 11 → ⊥) → (get_or xs 0 0 ≡ 12 → ⊥)
    → r ≡ sort_of_lem (as_is (row_in xs 0)) → r ≡ sort_of_lem (first_given xs)
unfolding given_as
first_plain xs r a b c e = rw (ne_eqb (get_or xs 0 0) 10 a, ne_eqb (get_or xs 0 0) 11 b, ne_eqb (get_or xs 0 0) 12 c) e
