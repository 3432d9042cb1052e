-- Where a walk stands one row on, for each kind of row inside a function, and the faults of such a row. Assumes nothing.
use mathlib.Core.Path.{◌≡◌, refl, ap, ap₂, ◌∙◌, subst}
use mathlib.Core.Bool.{Bool, true, false, not, ◌&&◌, ◌||◌}
use mathlib.Core.List.{List, ◌∷◌}
use Prim.Native.Nat.{ℕ, suc, ◌+◌, ◌*◌, ◌-◌, ◌≤◌, ◌<◌}
use native.Mathlib.Numerals.{add-one}
use native.Mathlib.Omega.{arith}
use lib.Dec.{leb}
use lib.ListN.{length, drop, set}
use Rattle.rules.specs.declared.kind.Kind.{Kind}
use Rattle.rules.specs.declared.kind.Kind.TheVariants.{Function, Do, If, Else, Loop, End, Break, Continue, Call, Unknown}
use Rattle.rules.specs.declared.refusal.Refusal.TheVariants.{WrongField, Misplaced, TooManyParts}
use Rattle.rules.specs.Limits.{max_rows, max_functions, max_constructs, max_regions}
use Rattle.rules.specs.Row.{row_width, table_of, kind_at}
use Rattle.rules.specs.Scan.{else_part, loop_body, Open, Shape, shape_of, open_after_lem, regions_after, regions, body_region, functions, is_function_lem}
use Rattle.rules.specs.Check.{is_then, misplaced_in, one_too_many, all_regions, all_constructs, constructs_in}
use Rattle.rules.proofs.Logic.{not-false, not-true}
use Rattle.rules.proofs.Scan.{open_next, regions-next}
use Rattle.rows.specs.First.{first_kind_lem}
use Rattle.walk.specs.Standing.{has_loop, Inside}
use Rattle.walk.specs.Limit.{no_region, is_full}
use Rattle.walk.specs.Walked.{TurnedAway, then_of}
use Rattle.walk.proofs.Linking.{settles_none, stays-linked, if-linked, end-linked, else-linked}
use Rattle.rows.proofs.Rows.{is_known, Reads, reads, reads_wrong, cut-length, cut-end, cut-within, cut_on}
use Rattle.walk.proofs.Verdicts.{left_open, wrong-refused, row-good, misplaced-refused, parts-refused}

abbrev pub else_of : (base g : ℕ) → Open
else_of base g = record { part = else_part; opener = base; region = g }

abbrev pub loop_of : (base g : ℕ) → Open
loop_of base g = record { part = loop_body; opener = base; region = g }

-- a row that opens no function keeps the count
pub same-functions : (bs : List ℕ) (i : ℕ) {k : Kind} → kind_at (table_of bs) i ≡ k → is_function_lem k ≡ false → functions (table_of bs) (suc i) ≡ functions (table_of bs) i
unfolding functions
same-functions bs i q n = rw (ap is_function_lem q ∙ n)

-- 6, "a 17th open if or loop, or a 65th region", by the numbers that a walk has
full_is : (h : Open) (hs : List Open) (g d o : ℕ) → length hs ≡ d → g ≡ body_region (h ∷ hs) + o → all_constructs (h ∷ hs) || all_regions g (h ∷ hs) ≡ is_full d o
full_is h hs g d o p q =
    let x : constructs_in (h ∷ hs) ≡ d = omega arith in
    let y : g - body_region (h ∷ hs) ≡ o = omega arith in
    ap₂ (λ a b. leb max_constructs a || leb max_regions b) x y

no-region-is : (h : Open) (hs : List Open) (g o : ℕ) → g ≡ body_region (h ∷ hs) + o → all_regions g (h ∷ hs) ≡ no_region o
no-region-is h hs g o q = ap (leb max_regions) (let z : g - body_region (h ∷ hs) ≡ o = omega arith in z)

pub and_none : {a : Bool} (c : Bool) → a ≡ false → a && c ≡ false
and_none c e = rw e

module _ {bs xs : List ℕ} {i : ℕ} {h : Open} {hs : List Open} {d o : ℕ} {b : Bool} {n : ℕ} {e l : List ℕ}
    (w : Inside bs xs i h hs d o b n e l) where
  -- at the end of the table
  pub inside-end : length xs ≤ 5 → TurnedAway bs Misplaced
  inside-end a =
      let q = cut-end bs xs i w.cut w.within a in
      left_open (table_of bs) (subst (λ k. Inside bs xs k h hs d o b n e l) q w).good (subst (λ k. Inside bs xs k h hs d o b n e l) q w).parts

  module _ (long : 5 < length xs) where
    -- the bytes from the next row on
    cut-next : drop row_width xs ≡ drop (row_width * suc i) bs
    cut-next = cut_on bs xs i w.cut w.within 1 ∙ ap (λ k. drop (row_width * k) bs) (add-one i)

    within-next : row_width * suc i ≤ length bs
    within-next = omega (arith, cut-length bs xs i w.cut w.within)

    read : {k : Kind} → first_kind_lem xs ≡ k → is_known k ≡ true → Reads bs i k
    read = reads bs xs i w.cut w.within long

    below : i < max_rows
    below = omega (arith, cut-within bs xs i w.cut w.within long, w.few)

    pub inside-wrong : first_kind_lem xs ≡ Unknown → TurnedAway bs WrongField
    inside-wrong q =
        wrong-refused (table_of bs) i w.good (cut-within bs xs i w.cut w.within long)
        (reads_wrong bs xs i w.cut w.within long q)

    pub inside-misplaced : {k : Kind} → first_kind_lem xs ≡ k → is_known k ≡ true → misplaced_in k (h ∷ hs) ≡ true → TurnedAway bs Misplaced
    inside-misplaced q s m =
        let r = read q s in
        misplaced-refused (table_of bs) i w.good r.kind_is w.parts r.fits r.inside m

    -- a row that leaves the open parts as they are
    stay : {k : Kind} → first_kind_lem xs ≡ k → is_known k ≡ true → misplaced_in k (h ∷ hs) ≡ false → is_function_lem k ≡ false
        → ((g : ℕ) (fs : List Open) → one_too_many k g fs ≡ false) → shape_of k ≡ Shape.stays → settles_none k ≡ true
        → Inside bs (drop row_width xs) (suc i) h hs d o b n e l
    stay {k} q s m f p t z =
        let r = read q s in
        record {
          cut = cut-next;
          within = within-next;
          few = w.few;
          good = row-good (table_of bs) i w.good r.kind_is w.parts r.fits m (and_none (leb max_functions (functions (table_of bs) i)) f) (p _ _);
          parts = open_next (table_of bs) i r.kind_is w.parts ∙ ap (λ x. open_after_lem x i (regions (table_of bs) i) (h ∷ hs)) t;
          depth = w.depth;
          loops = w.loops;
          opened = regions-next (table_of bs) i r.kind_is ∙ ap (λ x. regions_after x (regions (table_of bs) i)) t ∙ w.opened;
          count = same-functions bs i r.kind_is f ∙ w.count;
          links = stays-linked (table_of bs) i w.links r.kind_is z;
        }

    pub inside_do : first_kind_lem xs ≡ Do → Inside bs (drop row_width xs) (suc i) h hs d o b n e l
    unfolding misplaced_in one_too_many
    inside_do q = stay q refl refl refl (λ g fs. refl) refl refl

    pub inside_call : first_kind_lem xs ≡ Call → Inside bs (drop row_width xs) (suc i) h hs d o b n e l
    unfolding misplaced_in one_too_many
    inside_call q = stay q refl refl refl (λ g fs. refl) refl refl

    pub inside_break : first_kind_lem xs ≡ Break → b ≡ true → Inside bs (drop row_width xs) (suc i) h hs d o b n e l
    unfolding misplaced_in one_too_many
    inside_break q t = stay q refl (not-true _ (w.loops ∙ t)) refl (λ g fs. refl) refl refl

    pub inside_continue : first_kind_lem xs ≡ Continue → b ≡ true → Inside bs (drop row_width xs) (suc i) h hs d o b n e l
    unfolding misplaced_in one_too_many
    inside_continue q t = stay q refl (not-true _ (w.loops ∙ t)) refl (λ g fs. refl) refl refl

    pub inside_break_out : first_kind_lem xs ≡ Break → b ≡ false → TurnedAway bs Misplaced
    unfolding misplaced_in
    inside_break_out q t = inside-misplaced q refl (not-false _ (w.loops ∙ t))

    pub inside_continue_out : first_kind_lem xs ≡ Continue → b ≡ false → TurnedAway bs Misplaced
    unfolding misplaced_in
    inside_continue_out q t = inside-misplaced q refl (not-false _ (w.loops ∙ t))

    pub inside_function : first_kind_lem xs ≡ Function → TurnedAway bs Misplaced
    unfolding misplaced_in
    inside_function q = inside-misplaced q refl refl

    -- an if and a loop open a part
    pub inside_if : first_kind_lem xs ≡ If → is_full d o ≡ false
        → Inside bs (drop row_width xs) (suc i) (then_of i (regions (table_of bs) i)) (h ∷ hs) (suc d) (suc o) b n e (set l i 0)
    unfolding misplaced_in one_too_many
    inside_if q a =
        let r = read q refl in
        record {
          cut = cut-next;
          within = within-next;
          few = w.few;
          good = row-good (table_of bs) i w.good r.kind_is w.parts r.fits refl refl (full_is h hs (regions (table_of bs) i) d o w.depth w.opened ∙ a);
          parts = open_next (table_of bs) i r.kind_is w.parts;
          depth = ap suc w.depth;
          loops = w.loops;
          opened = omega (arith, regions-next (table_of bs) i r.kind_is, w.opened);
          count = same-functions bs i r.kind_is refl ∙ w.count;
          links = if-linked (table_of bs) i w.links r.kind_is below;
        }

    pub inside_loop : first_kind_lem xs ≡ Loop → is_full d o ≡ false
        → Inside bs (drop row_width xs) (suc i) (loop_of i (regions (table_of bs) i)) (h ∷ hs) (suc d) (suc o) true n e l
    unfolding misplaced_in one_too_many
    inside_loop q a =
        let r = read q refl in
        record {
          cut = cut-next;
          within = within-next;
          few = w.few;
          good = row-good (table_of bs) i w.good r.kind_is w.parts r.fits refl refl (full_is h hs (regions (table_of bs) i) d o w.depth w.opened ∙ a);
          parts = open_next (table_of bs) i r.kind_is w.parts;
          depth = ap suc w.depth;
          loops = refl;
          opened = omega (arith, regions-next (table_of bs) i r.kind_is, w.opened);
          count = same-functions bs i r.kind_is refl ∙ w.count;
          links = stays-linked (table_of bs) i w.links r.kind_is refl;
        }

    pub if_full : first_kind_lem xs ≡ If → is_full d o ≡ true → TurnedAway bs TooManyParts
    unfolding misplaced_in one_too_many
    if_full q a =
        let r = read q refl in
        parts-refused (table_of bs) i w.good r.kind_is w.parts r.fits r.inside refl refl
        (full_is h hs (regions (table_of bs) i) d o w.depth w.opened ∙ a)

    pub loop_full : first_kind_lem xs ≡ Loop → is_full d o ≡ true → TurnedAway bs TooManyParts
    unfolding misplaced_in one_too_many
    loop_full q a =
        let r = read q refl in
        parts-refused (table_of bs) i w.good r.kind_is w.parts r.fits r.inside refl refl
        (full_is h hs (regions (table_of bs) i) d o w.depth w.opened ∙ a)

-- an else where the innermost part is a then part
module _ {bs xs : List ℕ} {i p g : ℕ} {h : Open} {hs : List Open} {d o : ℕ} {b : Bool} {n : ℕ} {e l : List ℕ}
    (w : Inside bs xs i (then_of p g) (h ∷ hs) d o b n e l) (long : 5 < length xs) (q : first_kind_lem xs ≡ Else) where
  pub inside-else : no_region o ≡ false → Inside bs (drop row_width xs) (suc i) (else_of p (regions (table_of bs) i)) (h ∷ hs) d (suc o) b n e (set l p i)
  unfolding misplaced_in one_too_many
  inside-else c =
      let r = read w long q refl in
      record {
        cut = cut-next w long;
        within = within-next w long;
        few = w.few;
        good = row-good (table_of bs) i w.good r.kind_is w.parts r.fits refl refl (no-region-is (then_of p g) (h ∷ hs) (regions (table_of bs) i) o w.opened ∙ c);
        parts = open_next (table_of bs) i r.kind_is w.parts;
        depth = w.depth;
        loops = w.loops;
        opened = omega (arith, regions-next (table_of bs) i r.kind_is, w.opened);
        count = same-functions bs i r.kind_is refl ∙ w.count;
        links = else-linked (table_of bs) i w.links (then_of p g) (h ∷ hs) r.kind_is w.parts refl (below w long);
      }

  pub else_full : no_region o ≡ true → TurnedAway bs TooManyParts
  unfolding misplaced_in one_too_many
  else_full a =
      let r = read w long q refl in
      parts-refused (table_of bs) i w.good r.kind_is w.parts r.fits r.inside refl refl (no-region-is (then_of p g) (h ∷ hs) (regions (table_of bs) i) o w.opened ∙ a)

-- and where it is none
module _ {bs xs : List ℕ} {i : ℕ} {f : Open} {hs : List Open} {d o : ℕ} {b : Bool} {n : ℕ} {e l : List ℕ}
    (w : Inside bs xs i f hs d o b n e l) (long : 5 < length xs) where
  pub else-misplaced : first_kind_lem xs ≡ Else → is_then f.part ≡ false → TurnedAway bs Misplaced
  unfolding misplaced_in
  else-misplaced q z = inside-misplaced w long q refl (ap not z)

-- an end closes an if or a loop: h is the part around it, d and c are its depth and loop flag
module _ {bs xs : List ℕ} {i : ℕ} {f h : Open} {hs : List Open} {d d' o : ℕ} {b c : Bool} {n : ℕ} {e l : List ℕ}
    (w : Inside bs xs i f (h ∷ hs) d' o b n e l) (long : 5 < length xs) (q : first_kind_lem xs ≡ End) where
  pub inside-close : length hs ≡ d → has_loop (h ∷ hs) ≡ c → Inside bs (drop row_width xs) (suc i) h hs d o c n (set e f.opener i) l
  unfolding misplaced_in one_too_many
  inside-close p z =
      let r = read w long q refl in
      record {
        cut = cut-next w long;
        within = within-next w long;
        few = w.few;
        good = row-good (table_of bs) i w.good r.kind_is w.parts r.fits refl refl refl;
        parts = open_next (table_of bs) i r.kind_is w.parts;
        depth = p;
        loops = z;
        opened = regions-next (table_of bs) i r.kind_is ∙ w.opened;
        count = same-functions bs i r.kind_is refl ∙ w.count;
        links = end-linked (table_of bs) i w.links f (h ∷ hs) r.kind_is w.parts (below w long);
      }

-- the same place said otherwise
pub inside-at : {bs xs ys : List ℕ} {i j : ℕ} {h : Open} {hs : List Open} {d d' o o' : ℕ} {b : Bool} {n : ℕ} {e l : List ℕ}
    → Inside bs xs i h hs d o b n e l → xs ≡ ys → i ≡ j → d ≡ d' → o ≡ o' → Inside bs ys j h hs d' o' b n e l
inside-at w p q s u = rw (← p, ← q, ← s, ← u) w
