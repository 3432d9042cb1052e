-- The links, one row on: what each kind of row settles. Assumes nothing.
use mathlib.Core.Logic.{◌⊎◌, inl, inr}
use mathlib.Core.Path.{◌≡◌, refl, sym, ap, ◌∙◌, subst}
use mathlib.Core.Bool.{Bool, true, false}
use mathlib.Core.List.{List, ◌∷◌}
use Prim.Native.Nat.{ℕ, suc, ◌<◌}
use native.Mathlib.Nat.{eq-or-lt_of_le}
use native.Mathlib.Omega.{arith}
use lib.ListN.{length, get_or, set, length-set}
use lib.Seq.{get_or-set_same, get_or-set_other}
use borrow.Author.Tests.{eqb-true, eq-eqb}
use Rattle.rules.specs.declared.kind.Kind.{Kind}
use Rattle.rules.specs.declared.kind.Kind.TheVariants.{Function, Do, If, Else, Loop, End, Break, Continue, Call, Unknown}
use Rattle.rules.specs.Limits.{max_rows}
use Rattle.rules.specs.Row.{Table, kind_at}
use Rattle.rules.specs.Scan.{Open, open_at, is_opener, is_end_lem, is_else, is_end_of, is_else_of}
use Rattle.rules.specs.Check.{is_then}
use Rattle.rules.proofs.Logic.{clash, and_left, and_right}
use Rattle.rules.proofs.Value.{AllHeld, held}
use Rattle.walk.specs.Standing.{Linked}
use Rattle.walk.proofs.Once.{else-below, end-once, else-once}

-- what holds of each number below i, and of i
up_to : (P : ℕ → Type 0) (i : ℕ) → ((j : ℕ) → j < i → P j) → P i → (j : ℕ) → j < suc i → P j
up_to P i old new j l = by (eq-or-lt_of_le l)
  where
    by : (suc j ≡ suc i) ⊎ (suc j < suc i) → P j
    by (inl q) = let e : i ≡ j = omega arith in subst P e new
    by (inr q) = old j (omega arith)

-- a kind that settles no link
abbrev pub settles_none : Kind → Bool
settles_none Function = true
settles_none Do = true
settles_none If = false
settles_none Else = false
settles_none Loop = true
settles_none End = false
settles_none Break = true
settles_none Continue = true
settles_none Call = true
settles_none Unknown = true

none_end : (k : Kind) → settles_none k ≡ true → is_end_lem k ≡ false
none_end Function e = refl
none_end Do e = refl
none_end If e = refl
none_end Else e = refl
none_end Loop e = refl
none_end End e = sym e
none_end Break e = refl
none_end Continue e = refl
none_end Call e = refl
none_end Unknown e = refl

none-else : (k : Kind) → settles_none k ≡ true → is_else k ≡ false
none-else Function e = refl
none-else Do e = refl
none-else If e = refl
none-else Else e = sym e
none-else Loop e = refl
none-else End e = refl
none-else Break e = refl
none-else Continue e = refl
none-else Call e = refl
none-else Unknown e = refl

-- a row of this kind is no end row, no else row
not_end : (t : Table) (p i : ℕ) {A : Type 0} {k : Kind} → kind_at t i ≡ k → is_end_lem k ≡ false → is_end_of t p i ≡ true → A
not_end t p i q n e = clash (and_left (is_end_lem (kind_at t i)) _ e) (ap is_end_lem q ∙ n)

not-else : (t : Table) (p i : ℕ) {A : Type 0} {k : Kind} → kind_at t i ≡ k → is_else k ≡ false → is_else_of t p i ≡ true → A
not-else t p i q n e = clash (and_left (is_else (kind_at t i)) _ e) (ap is_else q ∙ n)

module _ (t : Table) (i : ℕ) {e l : List ℕ} (w : Linked t i e l) where
  pub stays-linked : {k : Kind} → kind_at t i ≡ k → settles_none k ≡ true → Linked t (suc i) e l
  stays-linked {k} q s = record {
    ends_long = w.ends_long;
    elses_long = w.elses_long;
    ended = λ p. up_to (λ j. is_end_of t p j ≡ true → get_or e p 0 ≡ j) i (w.ended p) (not_end t p i q (none_end k s));
    turned = λ p. up_to (λ j. is_else_of t p j ≡ true → get_or l p 0 ≡ j) i (w.turned p) (not-else t p i q (none-else k s));
    bare = up_to (λ p. kind_at t p ≡ If → ((j : ℕ) → j < suc i → is_else_of t p j ≡ false) → get_or l p 0 ≡ 0) i
        (λ p a c n. w.bare p a c (λ j b. n j (omega arith)))
        (λ c n. clash {b = settles_none k} s (ap settles_none (sym q ∙ c)));
  }

  pub if-linked : kind_at t i ≡ If → i < max_rows → Linked t (suc i) e (set l i 0)
  if-linked q r = record {
    ends_long = w.ends_long;
    elses_long = length-set l i 0 ∙ w.elses_long;
    ended = λ p. up_to (λ j. is_end_of t p j ≡ true → get_or e p 0 ≡ j) i (w.ended p) (not_end t p i q refl);
    turned = λ p. up_to (λ j. is_else_of t p j ≡ true → get_or (set l i 0) p 0 ≡ j) i
        (λ j a c. get_or-set_other l i p 0 0 (omega (arith, else-below t p j c)) ∙ w.turned p j a c)
        (not-else t p i q refl);
    bare = up_to (λ p. kind_at t p ≡ If → ((j : ℕ) → j < suc i → is_else_of t p j ≡ false) → get_or (set l i 0) p 0 ≡ 0) i
        (λ p a c n. get_or-set_other l i p 0 0 (omega arith) ∙ w.bare p a c (λ j b. n j (omega arith)))
        (λ c n. get_or-set_same l i 0 0 (omega (arith, w.elses_long)));
  }

  -- the innermost part f is closed
  pub end-linked : (f : Open) (fs : List Open) → kind_at t i ≡ End → open_at t i ≡ f ∷ fs → i < max_rows → Linked t (suc i) (set e f.opener i) l
  end-linked f fs q s r = record {
    ends_long = length-set e f.opener i ∙ w.ends_long;
    elses_long = w.elses_long;
    ended = λ p. up_to (λ j. is_end_of t p j ≡ true → get_or (set e f.opener i) p 0 ≡ j) i
        (λ j a c. get_or-set_other e f.opener p i 0 (λ z. end-once t p j i c a (opens p (sym z))) ∙ w.ended p j a c)
        (λ c. ap (λ x. get_or (set e f.opener i) x 0) (sym (opener_is p (ends_it p c))) ∙ get_or-set_same e f.opener i 0 below);
    turned = λ p. up_to (λ j. is_else_of t p j ≡ true → get_or l p 0 ≡ j) i (w.turned p) (not-else t p i q refl);
    bare = up_to (λ p. kind_at t p ≡ If → ((j : ℕ) → j < suc i → is_else_of t p j ≡ false) → get_or l p 0 ≡ 0) i
        (λ p a c n. w.bare p a c (λ j b. n j (omega arith)))
        (λ c n. clash {b = is_end_lem (kind_at t i)} (ap is_end_lem q) (ap is_end_lem c));
  }
    where
      opens : (p : ℕ) → f.opener ≡ p → is_opener p (open_at t i) ≡ true
      opens p z = rw s (eq-eqb f.opener p z)

      ends_it : (p : ℕ) → is_end_of t p i ≡ true → is_opener p (f ∷ fs) ≡ true
      ends_it p c = rw s at (and_right (is_end_lem (kind_at t i)) _ c)

      opener_is : (p : ℕ) → is_opener p (f ∷ fs) ≡ true → f.opener ≡ p
      opener_is p c = eqb-true f.opener p c

      below : f.opener < length e
      below =
          let g : AllHeld t i (f ∷ fs) = rw s at (held t i) in
          omega (arith, g.0.before, w.ends_long)

  -- the innermost part f, a then part, turns
  pub else-linked : (f : Open) (fs : List Open) → kind_at t i ≡ Else → open_at t i ≡ f ∷ fs → is_then f.part ≡ true → i < max_rows
      → Linked t (suc i) e (set l f.opener i)
  else-linked f fs q s b r = record {
    ends_long = w.ends_long;
    elses_long = length-set l f.opener i ∙ w.elses_long;
    ended = λ p. up_to (λ j. is_end_of t p j ≡ true → get_or e p 0 ≡ j) i (w.ended p) (not_end t p i q refl);
    turned = λ p. up_to (λ j. is_else_of t p j ≡ true → get_or (set l f.opener i) p 0 ≡ j) i
        (λ j a c. get_or-set_other l f.opener p i 0 (λ z. clash b (else-once t p j i f fs c a s (sym z))) ∙ w.turned p j a c)
        (λ c. ap (λ x. get_or (set l f.opener i) x 0) (sym (opener_is p (ends_it p c))) ∙ get_or-set_same l f.opener i 0 below);
    bare = up_to (λ p. kind_at t p ≡ If → ((j : ℕ) → j < suc i → is_else_of t p j ≡ false) → get_or (set l f.opener i) p 0 ≡ 0) i
        (λ p a c n. get_or-set_other l f.opener p i 0 (λ z. clash (turns p (sym z)) (n i (omega arith))) ∙ w.bare p a c (λ j b. n j (omega arith)))
        (λ c n. clash {b = is_else (kind_at t i)} (ap is_else q) (ap is_else c));
  }
    where
      turns : (p : ℕ) → f.opener ≡ p → is_else_of t p i ≡ true
      turns p z = rw (q, s) (eq-eqb f.opener p z)

      ends_it : (p : ℕ) → is_else_of t p i ≡ true → is_opener p (f ∷ fs) ≡ true
      ends_it p c = rw s at (and_right (is_else (kind_at t i)) _ c)

      opener_is : (p : ℕ) → is_opener p (f ∷ fs) ≡ true → f.opener ≡ p
      opener_is p c = eqb-true f.opener p c

      below : f.opener < length l
      below =
          let g : AllHeld t i (f ∷ fs) = rw s at (held t i) in
          omega (arith, g.0.before, w.elses_long)
