-- The end row and the else row of what a row opens: they are there, and what holds at and after them.
-- Assumes that the table is accepted, where it says so.
use mathlib.Core.Logic.{◌≢◌, ◌⊎◌, inl, inr}
use mathlib.Core.Path.{◌≡◌, refl, sym, ap, ◌∙◌, subst}
use mathlib.Core.Bool.{true, false, and-false}
use mathlib.Core.List.{List, [], ◌∷◌}
use Prim.Native.Nat.{ℕ, suc, ◌+◌, ◌-◌, ◌≤◌, ◌<◌}
use native.Mathlib.Nat.{le_refl, eq-or-lt_of_le}
use native.Mathlib.Decide.{le_ind, dec_lt}
use native.Mathlib.Omega.{arith}
use lib.ListN.{length}
use borrow.Author.Tests.{eqb-true, eq-eqb, ltb-true}
use Rattle.rules.specs.declared.kind.Kind.{Kind}
use Rattle.rules.specs.declared.kind.Kind.TheVariants.{Function, Do, If, Else, Loop, End, Break, Continue, Call, Unknown}
use Rattle.rules.specs.Row.{Table, kind_at}
use Rattle.rules.specs.Scan.{Part, Open, Shape, pushes, turns, closes, stays, shape_of, turned, open_after_lem, regions, open_at, opener_of, is_opener, is_end_lem, is_else, is_end_of, is_else_of, end_of, else_of, has_else}
use Rattle.rules.specs.Value.{takes, value}
use Rattle.rules.proofs.Logic.{clash, and_left, and_right}
use Rattle.rules.proofs.Search.{Found, hit, miss, found}
use Rattle.rules.proofs.Accepted.{Proper}
use Rattle.rules.proofs.Scan.{open_next}
use Rattle.rules.proofs.Value.{AllHeld, held, Moved, moved-after, moved_value}

-- ---- the end row of an opener exists
abbrev Has : ℕ → List Open → Type 0
Has i [] = ⊥
Has i (f ∷ fs) = (f.opener ≡ i) ⊎ Has i fs

close-is-end : (k : Kind) → shape_of k ≡ closes → is_end_lem k ≡ true
close-is-end Function e = cc
close-is-end Do e = cc
close-is-end If e = cc
close-is-end Else e = cc
close-is-end Loop e = cc
close-is-end End e = refl
close-is-end Break e = cc
close-is-end Continue e = cc
close-is-end Call e = cc
close-is-end Unknown e = cc

ends-true : (t : Table) (i j : ℕ) (f : Open) (fs : List Open) → is_end_lem (kind_at t j) ≡ true → open_at t j ≡ f ∷ fs → f.opener ≡ i → is_end_of t i j ≡ true
ends-true t i j f fs e q o = rw (e, q) (eq-eqb f.opener i o)

has-next : (t : Table) (i m : ℕ) (s : Shape) (fs : List Open) → shape_of (kind_at t m) ≡ s → open_at t m ≡ fs → is_end_of t i m ≡ false → Has i fs
    → Has i (open_after_lem s m (regions t m) fs)
has-next t i m (pushes p) fs e q c h = inr h
has-next t i m turns (f ∷ fs) e q c (inl o) = inl o
has-next t i m turns (f ∷ fs) e q c (inr h) = inr h
has-next t i m closes (f ∷ fs) e q c (inl o) = clash (ends-true t i m f fs (close-is-end (kind_at t m) e) q o) c
has-next t i m closes (f ∷ fs) e q c (inr h) = h
has-next t i m stays fs e q c h = h
has-next t i m turns [] e q c h = elim h [ ]
has-next t i m closes [] e q c h = elim h [ ]

has_first : (t : Table) (i : ℕ) (p : Part) → shape_of (kind_at t i) ≡ pushes p → Has i (open_at t (suc i))
unfolding open_at
has_first t i p e = rw e (inl refl)

has-later : (t : Table) (i : ℕ) (p : Part) → shape_of (kind_at t i) ≡ pushes p → (j : ℕ) → suc i ≤ j
    → ((m : ℕ) → suc i ≤ m → m < j → is_end_of t i m ≡ false) → Has i (open_at t j)
unfolding open_at
has-later t i p e j h =
    le_ind (λ x. ((m : ℕ) → suc i ≤ m → m < x → is_end_of t i m ≡ false) → Has i (open_at t x)) (λ f. has_first t i p e)
    (λ x l ih f. has-next t i x (shape_of (kind_at t x)) (open_at t x) refl refl (f x l (le_refl _)) (ih (λ m a b. f m a (omega arith)))) j h

pub record EndIs (t : Table) (i j : ℕ) : Type 0 where
  pub ends : is_end_of t i j ≡ true
  pub after_it : i < j
  pub inside : j < length t

not-end-outside : (t : Table) (i j : ℕ) → open_at t j ≡ [] → is_end_of t i j ≡ false
not-end-outside t i j q = rw q (and-false (is_end_lem (kind_at t j)))

pub end_is : (t : Table) (i : ℕ) (p : Part) → Proper t → i < length t → shape_of (kind_at t i) ≡ pushes p → EndIs t i (end_of t i)
unfolding end_of
end_is t i p ok l e = by (end_of t i) (found (is_end_of t i) (length t - i) (suc i))
  where
    by : (r : ℕ) → Found (is_end_of t i) (length t - i) (suc i) r → EndIs t i r
    by r (hit c a b f) = record { ends = c; after_it = a; inside = below (eq-or-lt_of_le {n = r} {m = length t} (omega arith)) }
      where
        below : (r ≡ length t) ⊎ (r < length t) → r < length t
        below (inl x) = clash c (not-end-outside t i r (ap (open_at t) x ∙ ok.closed))
        below (inr x) = x
    by r (miss q f) = absurd (rw ok.closed at (has-later t i p e (length t) l (λ m a b. f m a (omega arith))))

-- ---- what holds at and after the row that ends what row i opened
pub record Closed (t : Table) (i j : ℕ) : Type 0 where
  pub it : Open
  pub opened : it.opener ≡ i
  pub kind_is : kind_at t j ≡ End
  pub open_is : open_at t j ≡ it ∷ open_at t i
  pub open_after : open_at t (suc j) ≡ open_at t i
  pub moved_on : (h : Open) (hs : List Open) → open_at t i ≡ h ∷ hs → value t h.region (suc j) ≡ value t h.region i + takes (kind_at t i) h.part

is_end : (k : Kind) → is_end_lem k ≡ true → k ≡ End
is_end Function e = cc
is_end Do e = cc
is_end If e = cc
is_end Else e = cc
is_end Loop e = cc
is_end End e = refl
is_end Break e = cc
is_end Continue e = cc
is_end Call e = cc
is_end Unknown e = cc

closed-by : (t : Table) (i j : ℕ) (fs : List Open) → open_at t j ≡ fs → kind_at t j ≡ End → is_opener i fs ≡ true → Closed t i j
closed-by t i j [] q k c = clash c refl
closed-by t i j (f ∷ fs) q k c =
    let g : AllHeld t j (f ∷ fs) = rw q at (held t j) in
    let o : f.opener ≡ i = eqb-true f.opener i c in
    let a : open_at t i ≡ fs = ap (open_at t) (sym o) ∙ g.0.outer in
    record {
      it = f;
      opened = o;
      kind_is = k;
      open_is = q ∙ ap (λ x. f ∷ x) (sym a);
      open_after = open_next t j k q ∙ sym a;
      moved_on = λ h hs s. moved_value t (suc j) i f h hs o (subst (λ x. Moved t (suc j) f x) (sym a ∙ s) (moved-after t j f fs q));
    }

pub closed_is : (t : Table) (i j : ℕ) → is_end_of t i j ≡ true → Closed t i j
closed_is t i j c = closed-by t i j (open_at t j) refl (is_end (kind_at t j) (and_left _ _ c)) (and_right (is_end_lem (kind_at t j)) _ c)

-- ---- the else row
is-else : (k : Kind) → is_else k ≡ true → k ≡ Else
is-else Function e = cc
is-else Do e = cc
is-else If e = cc
is-else Else e = refl
is-else Loop e = cc
is-else End e = cc
is-else Break e = cc
is-else Continue e = cc
is-else Call e = cc
is-else Unknown e = cc

pub record Turned (t : Table) (i l : ℕ) : Type 0 where
  pub part : Part
  pub kind_is : kind_at t l ≡ Else
  pub opener_is : opener_of (open_at t l) ≡ i
  pub open_after : open_at t (suc l) ≡ record { part = part; opener = i; region = regions t l } ∷ open_at t i

turned_by : (t : Table) (i l : ℕ) (fs : List Open) → open_at t l ≡ fs → kind_at t l ≡ Else → is_opener i fs ≡ true → Turned t i l
turned_by t i l [] q k c = clash c refl
turned_by t i l (f ∷ fs) q k c =
    let g : AllHeld t l (f ∷ fs) = rw q at (held t l) in
    let o : f.opener ≡ i = eqb-true f.opener i c in
    let a : open_at t i ≡ fs = ap (open_at t) (sym o) ∙ g.0.outer in
    record {
      part = turned f.part;
      kind_is = k;
      opener_is = ap opener_of q ∙ o;
      open_after = open_next t l k q ∙ ap (λ x. record { part = turned f.part; opener = x; region = regions t l } ∷ fs) o
          ∙ ap (λ x. record { part = turned f.part; opener = i; region = regions t l } ∷ x) (sym a);
    }

turned_is : (t : Table) (i l : ℕ) → is_else_of t i l ≡ true → Turned t i l
turned_is t i l c = turned_by t i l (open_at t l) refl (is-else (kind_at t l) (and_left _ _ c)) (and_right (is_else (kind_at t l)) _ c)

pub else_is : (t : Table) (i : ℕ) → i < length t → has_else t i ≡ true → Turned t i (else_of t i)
unfolding else_of
else_is t i l c = by (else_of t i) (ltb-true (else_of t i) (length t) c) (found (is_else_of t i) (length t - i) (suc i))
  where
    by : (r : ℕ) → r < length t → Found (is_else_of t i) (length t - i) (suc i) r → Turned t i r
    by r b (hit h a d f) = turned_is t i r h
    by r b (miss q f) = absurd (omega arith)

-- ---- what opened a part that is closed does not come back
abbrev pub NoOpener : ℕ → List Open → Type 0
NoOpener o [] = Unit {0}
NoOpener o (f ∷ fs) = (f.opener ≢ o) × NoOpener o fs

no-opener-next : (s : Shape) (o i r : ℕ) (fs : List Open) → o < i → NoOpener o fs → NoOpener o (open_after_lem s i r fs)
no-opener-next (pushes p) o i r fs h k = (omega arith, k)
no-opener-next turns o i r [] h k = tt
no-opener-next turns o i r (f ∷ fs) h k = k
no-opener-next closes o i r [] h k = tt
no-opener-next closes o i r (f ∷ fs) h k = k.1
no-opener-next stays o i r fs h k = k

no-opener-later : (t : Table) (o i : ℕ) → o < i → NoOpener o (open_at t i) → (j : ℕ) → i ≤ j → NoOpener o (open_at t j)
unfolding open_at
no-opener-later t o i l k j h = le_ind (λ m. NoOpener o (open_at t m)) k
    (λ m a p. no-opener-next (shape_of (kind_at t m)) o m (regions t m) (open_at t m) (omega arith) p) j h

opened-before : (t : Table) (j : ℕ) (fs : List Open) → AllHeld t j fs → NoOpener j fs
opened-before t j [] g = tt
opened-before t j (f ∷ fs) g = (omega (arith, g.0.before), opened-before t j fs g.1)

-- a row where a part is open is not past the end of that part
pub not_past : (t : Table) → Proper t → (o i : ℕ) (p : Part) → o < length t → shape_of (kind_at t o) ≡ pushes p → (NoOpener o (open_at t i) → ⊥) → i ≤ end_of t o
not_past t ok o i p l s has = by (dec_lt (end_of t o) i)
  where
    en : EndIs t o (end_of t o)
    en = end_is t o p ok l s

    closed : NoOpener o (open_at t (suc (end_of t o)))
    closed = subst (NoOpener o) (sym (closed_is t o (end_of t o) en.ends).open_after) (opened-before t o (open_at t o) (held t o))

    by : Dec (end_of t o < i) → i ≤ end_of t o
    by (yes h) = absurd (has (no-opener-later t o (suc (end_of t o)) (omega (arith, en.after_it)) closed i h))
    by (no h) = omega arith
