-- Every region is opened by a row, and ended by a row that stands in it. Assumes that the table is accepted.
use mathlib.Core.Logic.{◌⊎◌, inl, inr}
use mathlib.Core.Path.{◌≡◌, refl, sym, ap, ◌∙◌, subst}
use mathlib.Core.Bool.{false, not}
use mathlib.Core.List.{List, [], ◌∷◌}
use Prim.Native.Nat.{ℕ, zero, suc, ◌≤◌, ◌<◌}
use native.Mathlib.Nat.{le_refl, not-suc-le-zero}
use native.Mathlib.Decide.{le_ind, dec_lt}
use native.Mathlib.Omega.{arith}
use lib.ListN.{length}
use Rattle.rules.specs.declared.kind.Kind.{Kind}
use Rattle.rules.specs.declared.kind.Kind.TheVariants.{Function, Do, If, Else, Loop, End, Break, Continue, Call, Unknown}
use Rattle.rules.specs.Row.{Table, kind_at}
use Rattle.rules.specs.Scan.{Open, shape_of, regions_after, open_after_lem, regions, open_at, body_region}
use Rattle.rules.specs.Check.{is_then, misplaced_in}
use Rattle.rules.proofs.Logic.{clash}
use Rattle.rules.proofs.Accepted.{Proper}
use Rattle.rules.proofs.Scan.{Closing, by_turn, by_close, open_next}
use Rattle.rules.proofs.Function.{Formed, formed}

-- region g is open among the parts fs
abbrev pub Among : ℕ → List Open → Type 0
Among g [] = ⊥
Among g (f ∷ fs) = (f.region ≡ g) ⊎ Among g fs

-- ---- the row that ends it, where it is open before row i; it is a row of the same function
pub record Ended (t : Table) (g i : ℕ) : Type 0 where
  pub row : ℕ
  pub from : i ≤ row
  pub within : row < length t
  pub it : Open
  pub others : List Open
  pub open_is : open_at t row ≡ it ∷ others
  pub region_is : it.region ≡ g
  pub closing : Closing (shape_of (kind_at t row))
  pub same_body : body_region (it ∷ others) ≡ body_region (open_at t i)

-- what a row of this kind does to it, where it is open among the parts fs and the row is no fault
data Kept (g : ℕ) (k : Kind) (j r : ℕ) (fs : List Open) : Type 0 where
  stays_open : Among g (open_after_lem (shape_of k) j r fs) → body_region (open_after_lem (shape_of k) j r fs) ≡ body_region fs → Kept g k j r fs
  ends_here : (f : Open) (hs : List Open) → fs ≡ f ∷ hs → f.region ≡ g → Closing (shape_of k) → Kept g k j r fs

kept : (t : Table) (g : ℕ) (k : Kind) (j r : ℕ) (fs : List Open) → misplaced_in k fs ≡ false → Formed t fs → Among g fs → Kept g k j r fs
unfolding misplaced_in
kept t g Function j r (f ∷ fs) p m a = clash refl p
kept t g Do j r fs p m a = stays_open a refl
kept t g If j r (f ∷ fs) p m a = stays_open (inr a) refl
kept t g Else j r (f ∷ []) p m a = clash (ap (λ x. not (is_then x)) m.0) p
kept t g Else j r (f ∷ h ∷ hs) p m (inl e) = ends_here f (h ∷ hs) refl e by_turn
kept t g Else j r (f ∷ h ∷ hs) p m (inr a) = stays_open (inr a) refl
kept t g Loop j r (f ∷ fs) p m a = stays_open (inr a) refl
kept t g End j r (f ∷ fs) p m (inl e) = ends_here f fs refl e by_close
kept t g End j r (f ∷ []) p m (inr a) = absurd a
kept t g End j r (f ∷ h ∷ hs) p m (inr a) = stays_open a refl
kept t g Break j r fs p m a = stays_open a refl
kept t g Continue j r fs p m a = stays_open a refl
kept t g Call j r fs p m a = stays_open a refl
kept t g Unknown j r fs p m a = stays_open a refl
kept t g Function j r [] p m a = elim a [ ]
kept t g If j r [] p m a = elim a [ ]
kept t g Else j r [] p m a = elim a [ ]
kept t g Loop j r [] p m a = elim a [ ]
kept t g End j r [] p m a = elim a [ ]

-- it is still open before row j, in the same function; or it ended before
data Since (t : Table) (g i j : ℕ) : Type 0 where
  still : Among g (open_at t j) → body_region (open_at t j) ≡ body_region (open_at t i) → Since t g i j
  over : Ended t g i → Since t g i j

since-next : (t : Table) → Proper t → (g i j : ℕ) → i ≤ j → j < length t → Since t g i j → Since t g i (suc j)
since-next t ok g i j h l (over e) = over e
since-next t ok g i j h l (still a b) = by (kept t g (kind_at t j) j (regions t j) (open_at t j) (ok.rows j l).placed (formed t ok j (omega arith)) a)
  where
    on : open_at t (suc j) ≡ open_after_lem (shape_of (kind_at t j)) j (regions t j) (open_at t j)
    on = open_next t j refl refl

    by : Kept g (kind_at t j) j (regions t j) (open_at t j) → Since t g i (suc j)
    by (stays_open c d) = still (subst (Among g) (sym on) c) (ap body_region on ∙ d ∙ b)
    by (ends_here f hs q e c) =
        over (record {
          row = j;
          from = h;
          within = l;
          it = f;
          others = hs;
          open_is = q;
          region_is = e;
          closing = c;
          same_body = ap body_region (sym q) ∙ b;
        })

since : (t : Table) → Proper t → (g i : ℕ) → Among g (open_at t i) → (j : ℕ) → i ≤ j → j ≤ length t → Since t g i j
since t ok g i a j h =
    le_ind (λ x. x ≤ length t → Since t g i x) (λ b. still a refl) (λ x l ih b. since-next t ok g i x l b (ih (omega arith))) j h

pub ended : (t : Table) → Proper t → (g i : ℕ) → i ≤ length t → Among g (open_at t i) → Ended t g i
ended t ok g i h a = by (since t ok g i a (length t) h (le_refl _))
  where
    by : Since t g i (length t) → Ended t g i
    by (still c d) = absurd (subst (Among g) ok.closed c)
    by (over e) = e

-- ---- the row before row i that opens region g
pub record OpenedBy (t : Table) (g i : ℕ) : Type 0 where
  pub row : ℕ
  pub before : row < i
  pub opens : Among g (open_at t (suc row))
  pub number : regions t row ≡ g

-- a row of this kind opens region r, or none
data Opens (k : Kind) (j r : ℕ) (fs : List Open) : Type 0 where
  opens_one : Among r (open_after_lem (shape_of k) j r fs) → regions_after (shape_of k) r ≡ suc r → Opens k j r fs
  opens_none : regions_after (shape_of k) r ≡ r → Opens k j r fs

opens_by : (k : Kind) (j r : ℕ) (fs : List Open) → misplaced_in k fs ≡ false → Opens k j r fs
unfolding misplaced_in
opens_by Function j r fs p = opens_one (inl refl) refl
opens_by Do j r fs p = opens_none refl
opens_by If j r fs p = opens_one (inl refl) refl
opens_by Else j r [] p = clash refl p
opens_by Else j r (f ∷ fs) p = opens_one (inl refl) refl
opens_by Loop j r fs p = opens_one (inl refl) refl
opens_by End j r fs p = opens_none refl
opens_by Break j r fs p = opens_none refl
opens_by Continue j r fs p = opens_none refl
opens_by Call j r fs p = opens_none refl
opens_by Unknown j r fs p = opens_none refl

pub opened-by : (t : Table) → Proper t → (g i : ℕ) → i ≤ length t → g < regions t i → OpenedBy t g i
unfolding regions
opened-by t ok g zero h l = absurd (not-suc-le-zero l)
opened-by t ok g (suc i) h l = by (dec_lt g (regions t i)) (λ m. opened-by t ok g i (omega arith) m)
  where
    here : (g < regions t i → ⊥) → Opens (kind_at t i) i (regions t i) (open_at t i) → OpenedBy t g (suc i)
    here n (opens_one a e) =
        let q : regions t i ≡ g = omega arith in
        record {
          row = i;
          before = le_refl _;
          opens = subst (λ x. Among x (open_at t (suc i))) q (subst (Among (regions t i)) (sym (open_next t i refl refl)) a);
          number = q;
        }
    here n (opens_none e) = absurd (n (omega arith))

    by : Dec (g < regions t i) → (g < regions t i → OpenedBy t g i) → OpenedBy t g (suc i)
    by (yes m) ih =
        let o = ih m in
        record { row = o.row; before = omega (arith, o.before); opens = o.opens; number = o.number }
    by (no n) ih = here n (opens_by (kind_at t i) i (regions t i) (open_at t i) (ok.rows i h).placed)
