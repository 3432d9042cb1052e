-- The functions of an accepted table: the row that opens each, the row that ends it, and the rows between.
use mathlib.Core.Logic.{◌⊎◌, inl, inr}
use mathlib.Core.Path.{◌≡◌, refl, sym, ap, ◌∙◌, subst}
use mathlib.Core.Bool.{Bool, true, false, not, cond, ◌&&◌}
use mathlib.Core.List.{List, [], ◌∷◌}
use Prim.Native.Nat.{ℕ, zero, suc, ◌≤◌, ◌<◌}
use native.Mathlib.Nat.{le_refl, eq-or-lt_of_le}
use native.Mathlib.Decide.{le_ind, dec_lt}
use native.Mathlib.Omega.{arith}
use lib.ListN.{length}
use lib.Dec.{eqb}
use borrow.Author.Tests.{eqb-true, eqb-false, leb-false}
use Rattle.rules.specs.declared.kind.Kind.{Kind}
use Rattle.rules.specs.declared.kind.Kind.TheVariants.{Function, Do, If, Else, Loop, End, Break, Continue, Call, Unknown}
use Rattle.rules.specs.Row.{Table, kind_at, operands_at, fields_fit_lem}
use Rattle.rules.specs.Scan.{Part, body, then_part, else_part, loop_body, Open, shape_of, turned, open_after_lem, regions, open_at, body_region, is_function_lem, functions, function_count, function_row, end_of}
use Rattle.rules.specs.Value.{past, takes}
use Rattle.rules.specs.Check.{is_then, misplaced_in, is_call}
use Rattle.std.proofs.lemmas.Bool.{not-false}
use Rattle.rules.proofs.Logic.{clash, and_left, and_right}
use Rattle.rules.proofs.Search.{Found, hit, miss, found, first-now}
use Rattle.rules.proofs.Accepted.{Proper, outside-nil}
use Rattle.rules.proofs.Scan.{origin, NotIn, gone-later, gone-after, by_close, not-closing, open_next}
use Rattle.rules.proofs.Value.{Silent, a_function, no_kind, AllHeld, held, Held, takes-past}
use Rattle.rules.proofs.Close.{end_is, closed_is}

-- ---- the function's body is the last of the open parts, and no other part is a body
abbrev pub is_body_lem : Part → Bool
is_body_lem body = true
is_body_lem then_part = false
is_body_lem else_part = false
is_body_lem loop_body = false

origin-body : (p : Part) → is_body_lem (origin p) ≡ is_body_lem p
origin-body body = refl
origin-body then_part = refl
origin-body else_part = refl
origin-body loop_body = refl

-- what opened a part that is no body was an if or a loop
pub held-takes : (t : Table) (j : ℕ) (f : Open) (fs : List Open) (p : Part) → Held t j f fs → is_body_lem f.part ≡ false → takes (kind_at t f.opener) p ≡ past
held-takes t j f fs p m b = takes-past (kind_at t f.opener) (origin f.part) p m.by (λ e. clash (ap is_body_lem e) (origin-body f.part ∙ b))

-- the end of such a part takes nothing
pub end-takes-none : (p : Part) → is_body_lem p ≡ false → takes End p ≡ 0
end-takes-none body e = clash refl e
end-takes-none then_part e = refl
end-takes-none else_part e = refl
end-takes-none loop_body e = refl

abbrev pub Formed : Table → List Open → Type 0
Formed t [] = Unit {0}
Formed t (f ∷ []) = (f.part ≡ body) × (f.region ≡ regions t f.opener)
Formed t (f ∷ h ∷ hs) = (is_body_lem f.part ≡ false) × Formed t (h ∷ hs)

turned-body : (p : Part) → is_body_lem (turned p) ≡ is_body_lem p
turned-body body = refl
turned-body then_part = refl
turned-body else_part = refl
turned-body loop_body = refl

formed-next : (t : Table) (i : ℕ) (k : Kind) (fs : List Open) → misplaced_in k fs ≡ false → Formed t fs → Formed t (open_after_lem (shape_of k) i (regions t i) fs)
unfolding misplaced_in
formed-next t i Function [] p g = (refl, refl)
formed-next t i Function (f ∷ fs) p g = clash refl p
formed-next t i Do fs p g = g
formed-next t i If [] p g = clash refl p
formed-next t i If (f ∷ fs) p g = (refl, g)
formed-next t i Else [] p g = tt
formed-next t i Else (f ∷ []) p g = clash (ap (λ x. not (is_then x)) g.0) p
formed-next t i Else (f ∷ h ∷ hs) p g = (turned-body f.part ∙ g.0, g.1)
formed-next t i Loop [] p g = clash refl p
formed-next t i Loop (f ∷ fs) p g = (refl, g)
formed-next t i End [] p g = tt
formed-next t i End (f ∷ []) p g = tt
formed-next t i End (f ∷ h ∷ hs) p g = g.1
formed-next t i Break fs p g = g
formed-next t i Continue fs p g = g
formed-next t i Call fs p g = g
formed-next t i Unknown fs p g = g

pub formed : (t : Table) → Proper t → (i : ℕ) → i ≤ length t → Formed t (open_at t i)
unfolding open_at
formed t ok zero h = tt
formed t ok (suc i) h = formed-next t i (kind_at t i) (open_at t i) (ok.rows i h).placed (formed t ok i (omega arith))

-- an open part that has another around it was opened by an if or a loop, which takes `past` there
pub part-takes : (t : Table) → Proper t → (i : ℕ) (f g : Open) (gs : List Open) (p : Part) → i < length t → open_at t i ≡ f ∷ g ∷ gs → takes (kind_at t f.opener) p ≡ past
part-takes t ok i f g gs p l q =
    let m : Held t i f (g ∷ gs) = (subst (AllHeld t i) q (held t i)).0 in
    let b : is_body_lem f.part ≡ false = (subst (Formed t) q (formed t ok i (omega arith))).0 in
    held-takes t i f (g ∷ gs) p m b

-- the row that opens the function that the parts stand in
abbrev pub home : List Open → ℕ
home [] = 0
home (f ∷ []) = f.opener
home (f ∷ h ∷ hs) = home (h ∷ hs)

body-regions : (t : Table) (f : Open) (fs : List Open) → Formed t (f ∷ fs) → body_region (f ∷ fs) ≡ regions t (home (f ∷ fs))
body-regions t f [] g = g.1
body-regions t f (h ∷ hs) g = body-regions t h hs g.1

body-in : (f : Open) (fs : List Open) → NotIn (body_region (f ∷ fs)) (f ∷ fs) → ⊥
body-in f [] n = n.0 refl
body-in f (h ∷ hs) n = body-in h hs n.1

-- ---- a row of an accepted table
pub not-unknown : (t : Table) → Proper t → (i : ℕ) → i < length t → kind_at t i ≡ Unknown → ⊥
unfolding fields_fit_lem
not-unknown t ok i l e = clash {b = false} (sym (ap (λ k. fields_fit_lem k (operands_at t i)) e) ∙ (ok.rows i l).fits) refl

-- a row inside a function is no function row, and of some kind
pub not-silent : (t : Table) → Proper t → (i : ℕ) {f : Open} {fs : List Open} → i < length t → open_at t i ≡ f ∷ fs → Silent (kind_at t i) → ⊥
unfolding misplaced_in
not-silent t ok i {f} {fs} l q s = by (kind_at t i) refl s
  where
    by : (k : Kind) → kind_at t i ≡ k → Silent k → ⊥
    by k e a_function = clash {b = true} refl (sym (ap (λ x. misplaced_in x (open_at t i)) e ∙ ap (misplaced_in Function) q) ∙ (ok.rows i l).placed)
    by k e no_kind = not-unknown t ok i l e

pub placed-in : (t : Table) → Proper t → (i : ℕ) {k : Kind} {fs : List Open} → i < length t → kind_at t i ≡ k → open_at t i ≡ fs → misplaced_in k fs ≡ false
placed-in t ok i {k} {fs} l e q = sym (ap (λ x. misplaced_in x (open_at t i)) e ∙ ap (misplaced_in k) q) ∙ (ok.rows i l).placed

-- a row outside of every function opens one
pub opens-function : (t : Table) → Proper t → (i : ℕ) → i < length t → open_at t i ≡ [] → kind_at t i ≡ Function
unfolding misplaced_in
opens-function t ok i l q = by (kind_at t i) refl
  where
    by : (k : Kind) → kind_at t i ≡ k → k ≡ Function
    by Function e = refl
    by Do e = clash refl (placed-in t ok i l e q)
    by If e = clash refl (placed-in t ok i l e q)
    by Else e = clash refl (placed-in t ok i l e q)
    by Loop e = clash refl (placed-in t ok i l e q)
    by End e = clash refl (placed-in t ok i l e q)
    by Break e = clash refl (placed-in t ok i l e q)
    by Continue e = clash refl (placed-in t ok i l e q)
    by Call e = clash refl (placed-in t ok i l e q)
    by Unknown e = absurd (not-unknown t ok i l e)

-- ---- the row of function n
no_function : (t : Table) (n m : ℕ) → ((i : ℕ) → i < m → is_function_lem (kind_at t i) && eqb (functions t i) n ≡ false) → functions t m ≤ n
unfolding functions
no_function t n zero h = omega arith
no_function t n (suc m) h = by (is_function_lem (kind_at t m)) (h m (le_refl _)) (no_function t n m (λ i l. h i (omega arith)))
  where
    by : (b : Bool) → b && eqb (functions t m) n ≡ false → functions t m ≤ n → cond b (suc (functions t m)) (functions t m) ≤ n
    by true e l = omega (arith, eqb-false (functions t m) n e)
    by false e l = l

pub is-function : (k : Kind) → is_function_lem k ≡ true → k ≡ Function
is-function Function e = refl
is-function Do e = cc
is-function If e = cc
is-function Else e = cc
is-function Loop e = cc
is-function End e = cc
is-function Break e = cc
is-function Continue e = cc
is-function Call e = cc
is-function Unknown e = cc

pub record FunctionAt (t : Table) (n o : ℕ) : Type 0 where
  pub within : o < length t
  pub kind_is : kind_at t o ≡ Function
  pub counted : functions t o ≡ n
  pub bare : open_at t o ≡ []
  pub first_open : open_at t (suc o) ≡ record { part = body; opener = o; region = regions t o } ∷ []

function-from : (t : Table) → Proper t → (n o : ℕ) → o < length t → is_function_lem (kind_at t o) && eqb (functions t o) n ≡ true → FunctionAt t n o
unfolding misplaced_in
function-from t ok n o l e =
    let k : kind_at t o ≡ Function = is-function (kind_at t o) (and_left _ _ e) in
    let b : open_at t o ≡ [] = outside-nil (open_at t o) (not-false _ (placed-in t ok o l k refl)) in
    record {
      within = l;
      kind_is = k;
      counted = eqb-true (functions t o) n (and_right (is_function_lem (kind_at t o)) _ e);
      bare = b;
      first_open = open_next t o k b;
    }

pub function-at : (t : Table) → Proper t → (n : ℕ) → n < function_count t → FunctionAt t n (function_row t n)
unfolding function_row
function-at t ok n l = by (function_row t n) (found (λ i. is_function_lem (kind_at t i) && eqb (functions t i) n) (length t) 0)
  where
    by : (o : ℕ) → Found (λ i. is_function_lem (kind_at t i) && eqb (functions t i) n) (length t) 0 o → FunctionAt t n o
    by o (hit e a b f) = function-from t ok n o (omega arith) e
    by o (miss q f) = absurd (omega (arith, no_function t n (length t) (λ i b. f i (omega arith) (omega arith))))

-- function 0 opens at row 0
pub row_zero : (t : Table) → Proper t → kind_at t 0 ≡ Function
unfolding open_at
row_zero t ok = opens-function t ok 0 ok.some_row refl

pub function-zero : (t : Table) → Proper t → function_row t 0 ≡ 0
unfolding function_row functions
function-zero t ok =
    first-now (λ i. is_function_lem (kind_at t i) && eqb (functions t i) 0) (length t) 0 ok.some_row (ap (λ k. is_function_lem k && true) (row_zero t ok))

pub functions-mono : (t : Table) {i : ℕ} (j : ℕ) → i ≤ j → functions t i ≤ functions t j
unfolding functions
functions-mono t {i} j h = le_ind (λ m. functions t i ≤ functions t m) (le_refl _) (λ m l p. up (is_function_lem (kind_at t m)) p) j h
  where
    up : {x y : ℕ} (b : Bool) → x ≤ y → x ≤ cond b (suc y) y
    up true p = omega arith
    up false p = p

pub some-function : (t : Table) → Proper t → 0 < function_count t
unfolding functions
some-function t ok = omega (arith, functions-mono t {i = 1} (length t) ok.some_row, one)
  where
    one : ◌≡◌ {A = ℕ} (cond (is_function_lem (kind_at t 0)) 1 0) 1
    one = ap (λ k. cond {A = ℕ} (is_function_lem k) 1 0) (row_zero t ok)

-- ---- a row of function n
pub record InFunction (t : Table) (n i : ℕ) (f : Open) (fs : List Open) : Type 0 where
  pub known : n < function_count t
  pub within : i < length t
  pub open_is : open_at t i ≡ f ∷ fs
  pub at_home : home (f ∷ fs) ≡ function_row t n

within_by : (t : Table) → Proper t → (i : ℕ) {f : Open} {fs : List Open} → i ≤ length t → open_at t i ≡ f ∷ fs → i < length t
within_by t ok i {f} {fs} h e = by (eq-or-lt_of_le h)
  where
    by : (i ≡ length t) ⊎ (i < length t) → i < length t
    by (inl x) = clash {b = true} refl (cc (ap (open_at t) x ∙ ok.closed))
    by (inr x) = x

-- another row of the same function
pub move-to : (t : Table) → Proper t → {n i : ℕ} {f : Open} {fs : List Open} → InFunction t n i f fs → (j : ℕ) {h : Open} {hs : List Open}
    → j ≤ length t → open_at t j ≡ h ∷ hs → home (h ∷ hs) ≡ home (f ∷ fs) → InFunction t n j h hs
move-to t ok m j l e q = record { known = m.known; within = within_by t ok j l e; open_is = e; at_home = q ∙ m.at_home }

-- its first row
pub entry : (t : Table) → Proper t → (n : ℕ) → n < function_count t
    → InFunction t n (suc (function_row t n)) (record { part = body; opener = function_row t n; region = regions t (function_row t n) }) []
entry t ok n l =
    let a = function-at t ok n l in
    record {
      known = l;
      within = within_by t ok (suc (function_row t n)) a.within a.first_open;
      open_is = a.first_open;
      at_home = refl;
    }

pub formed-here : (t : Table) → Proper t → {n i : ℕ} {f : Open} {fs : List Open} → InFunction t n i f fs → Formed t (f ∷ fs)
formed-here t ok {n} {i} {f} {fs} m = subst (Formed t) m.open_is (formed t ok i (omega (arith, m.within)))

pub body_is : (t : Table) → Proper t → {n i : ℕ} {f : Open} {fs : List Open} → InFunction t n i f fs → body_region (f ∷ fs) ≡ regions t (function_row t n)
body_is t ok {n} {i} {f} {fs} m = body-regions t f fs (formed-here t ok m) ∙ ap (regions t) m.at_home

-- ---- its end row
pub record FunctionEnd (t : Table) (n j : ℕ) (h : Open) : Type 0 where
  pub within : j < length t
  pub kind_is : kind_at t j ≡ End
  pub open_is : open_at t j ≡ h ∷ []
  pub is_body : h.part ≡ body
  pub opened : h.opener ≡ function_row t n
  pub region_is : h.region ≡ regions t (function_row t n)
  pub open_after : open_at t (suc j) ≡ []

pub function-end : (t : Table) → Proper t → (n : ℕ) → n < function_count t → (h : Open) × FunctionEnd t n (end_of t (function_row t n)) h
function-end t ok n l =
    let a = function-at t ok n l in
    let e = end_is t (function_row t n) body ok a.within (ap shape_of a.kind_is) in
    let c = closed_is t (function_row t n) (end_of t (function_row t n)) e.ends in
    let s : open_at t (end_of t (function_row t n)) ≡ c.it ∷ [] = c.open_is ∙ ap (λ x. c.it ∷ x) a.bare in
    let g : Formed t (c.it ∷ []) = subst (Formed t) s (formed t ok (end_of t (function_row t n)) (omega (arith, e.inside))) in (
      c.it,
      record {
        within = e.inside;
        kind_is = c.kind_is;
        open_is = s;
        is_body = g.0;
        opened = c.opened;
        region_is = g.1 ∙ ap (regions t) c.opened;
        open_after = c.open_after ∙ a.bare;
      },
    )

pub after_it : (t : Table) → Proper t → (n : ℕ) → n < function_count t → function_row t n < end_of t (function_row t n)
after_it t ok n l =
    let a = function-at t ok n l in
    (end_is t (function_row t n) body ok a.within (ap shape_of a.kind_is)).after_it

pub not-past-end : (t : Table) → Proper t → {n i : ℕ} {f : Open} {fs : List Open} → InFunction t n i f fs → i ≤ end_of t (function_row t n)
not-past-end t ok {n} {i} {f} {fs} m = by (dec_lt (end_of t (function_row t n)) i)
  where
    bad : end_of t (function_row t n) < i → ⊥
    bad l =
        let e = function-end t ok n m.known in
        let g = gone-later t e.0.region (gone-after t (end_of t (function_row t n)) End e.0 [] e.1.kind_is by_close e.1.open_is) i l in
        body-in f fs (subst (λ x. NotIn x (f ∷ fs)) (e.1.region_is ∙ sym (body_is t ok m)) (subst (NotIn e.0.region) m.open_is g.off))

    by : Dec (end_of t (function_row t n) < i) → i ≤ end_of t (function_row t n)
    by (yes l) = absurd (bad l)
    by (no l) = omega arith

-- an end row with only the body open is the function's
pub end_same : (t : Table) → Proper t → {n i : ℕ} {f : Open} → InFunction t n i f [] → kind_at t i ≡ End → i ≡ end_of t (function_row t n)
end_same t ok {n} {i} {f} m e = by (eq-or-lt_of_le (not-past-end t ok m))
  where
    by : (i ≡ end_of t (function_row t n)) ⊎ (i < end_of t (function_row t n)) → i ≡ end_of t (function_row t n)
    by (inl x) = x
    by (inr x) =
        let fe = function-end t ok n m.known in
        absurd (not-closing t i (end_of t (function_row t n)) End f fe.0 [] [] e m.open_is fe.1.open_is (fe.1.region_is ∙ sym (body_is t ok m)) x by_close)

-- a call's function is there
pub callee_known : (t : Table) → Proper t → (i : ℕ) → i < length t → kind_at t i ≡ Call → (operands_at t i).n < function_count t
callee_known t ok i l e = leb-false (function_count t) (operands_at t i).n (subst (λ k. is_call k && lib.Dec.leb (function_count t) (operands_at t i).n ≡ false) e (ok.calls i l))

-- ---- every row between the first and the end belongs to the function
pub record Somewhere (t : Table) (n j : ℕ) : Type 0 where
  pub top : Open
  pub others : List Open
  pub in_function : InFunction t n j top others

somewhere-next : (t : Table) → Proper t → (n j : ℕ) (f : Open) (fs : List Open) → InFunction t n j f fs → j < end_of t (function_row t n) → (k : Kind) → kind_at t j ≡ k
    → Somewhere t n (suc j)
somewhere-next t ok n j f fs m l Function e = absurd (not-silent t ok j m.within m.open_is (subst Silent (sym e) a_function))
somewhere-next t ok n j f fs m l Do e = record { top = f; others = fs; in_function = move-to t ok m (suc j) m.within (open_next t j e m.open_is) refl }
somewhere-next t ok n j f fs m l If e = record { top = _; others = f ∷ fs; in_function = move-to t ok m (suc j) m.within (open_next t j e m.open_is) refl }
somewhere-next t ok n j f [] m l Else e = record { top = _; others = []; in_function = move-to t ok m (suc j) m.within (open_next t j e m.open_is) refl }
somewhere-next t ok n j f (h ∷ hs) m l Else e = record { top = _; others = h ∷ hs; in_function = move-to t ok m (suc j) m.within (open_next t j e m.open_is) refl }
somewhere-next t ok n j f fs m l Loop e = record { top = _; others = f ∷ fs; in_function = move-to t ok m (suc j) m.within (open_next t j e m.open_is) refl }
somewhere-next t ok n j f [] m l End e = absurd (omega (arith, end_same t ok m e))
somewhere-next t ok n j f (h ∷ hs) m l End e = record { top = h; others = hs; in_function = move-to t ok m (suc j) m.within (open_next t j e m.open_is) refl }
somewhere-next t ok n j f fs m l Break e = record { top = f; others = fs; in_function = move-to t ok m (suc j) m.within (open_next t j e m.open_is) refl }
somewhere-next t ok n j f fs m l Continue e = record { top = f; others = fs; in_function = move-to t ok m (suc j) m.within (open_next t j e m.open_is) refl }
somewhere-next t ok n j f fs m l Call e = record { top = f; others = fs; in_function = move-to t ok m (suc j) m.within (open_next t j e m.open_is) refl }
somewhere-next t ok n j f fs m l Unknown e = absurd (not-unknown t ok j m.within e)

pub somewhere : (t : Table) → Proper t → (n : ℕ) → n < function_count t → (j : ℕ) → suc (function_row t n) ≤ j → j ≤ end_of t (function_row t n) → Somewhere t n j
somewhere t ok n k j h = le_ind (λ x. x ≤ end_of t (function_row t n) → Somewhere t n x) (λ b. record { top = _; others = []; in_function = entry t ok n k })
    (λ x l ih b. let s = ih (omega arith) in somewhere-next t ok n x s.top s.others s.in_function b (kind_at t x) refl) j h
