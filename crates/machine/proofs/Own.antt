-- The counters of a function after a store, and after words were cleared; those of the functions below stay. Assumes nothing.
use mathlib.Core.Path.{◌≡◌, refl, sym, ap, ◌∙◌, subst}
use mathlib.Core.Bool.{Bool, true, false, cond, ◌&&◌}
use mathlib.Core.List.{List, [], ◌∷◌, ◌++◌}
use Prim.Native.Nat.{ℕ, zero, suc, ◌+◌, ◌*◌, ◌-◌, ◌≤◌, ◌<◌}
use native.Mathlib.Omega.{arith}
use lib.Dec.{eqb, leb}
use lib.ListN.{length, get_or, set, take, drop, get_or-replicate, get_or-append}
use lib.Seq.{length-take-le, get_or-append-add, get_or-take, get_or-drop, get_or-set_same, get_or-set_other}
use borrow.Author.Tests.{eqb-true, eqb-false, leb-true, leb-false}
use Rattle.rules.specs.Line.{Line}
use Rattle.rules.specs.State.{Frame}
use Rattle.rules.specs.Hardened.{Counters, clear, put, clear_from}
use Rattle.rules.specs.Calls.{zeros}
use Rattle.guard.specs.Counters.{with_counter, zeroed, fresh_at}
use Rattle.machine.specs.Stands.{Own, Waiting}
use Rattle.guard.proofs.Zeroed.{length-zeros, length-zeroed}

-- ---- words that were cleared
pub zeros-at : (n i : ℕ) → i < n → get_or (zeros n) i 0 ≡ 0
unfolding zeros
zeros-at n i h = get_or-replicate n i 0 0 h

module _ (ws : List ℕ) (from n : ℕ) (h : from + n ≤ length ws) where
  front : length (take from ws) ≡ from
  front = length-take-le from ws (omega arith)

  pub zeroed-before : (i : ℕ) → i < from → get_or (zeroed ws from n) i 0 ≡ get_or ws i 0
  zeroed-before i l = get_or-append (take from ws) (zeros n ++ drop (from + n) ws) 0 i (omega (arith, front)) ∙ get_or-take from ws i 0 l

  past-front : (j : ℕ) → get_or (zeroed ws from n) (from + j) 0 ≡ get_or (zeros n ++ drop (from + n) ws) j 0
  past-front j = subst (λ x. get_or (zeroed ws from n) (x + j) 0 ≡ get_or (zeros n ++ drop (from + n) ws) j 0) front
      (get_or-append-add (take from ws) (zeros n ++ drop (from + n) ws) j 0)

  pub zeroed-inside : (j : ℕ) → j < n → get_or (zeroed ws from n) (from + j) 0 ≡ 0
  zeroed-inside j l = past-front j ∙ get_or-append (zeros n) (drop (from + n) ws) 0 j (omega (arith, length-zeros n)) ∙ zeros-at n j l

  pub zeroed-after : (j : ℕ) → get_or (zeroed ws from n) (from + n + j) 0 ≡ get_or ws (from + n + j) 0
  zeroed-after j =
      ap (λ x. get_or (zeroed ws from n) x 0) (let e : from + n + j ≡ from + (n + j) = omega arith in e) ∙ past-front (n + j)
      ∙ subst (λ x. get_or (zeros n ++ drop (from + n) ws) (x + j) 0 ≡ get_or (drop (from + n) ws) j 0) (length-zeros n)
      (get_or-append-add (zeros n) (drop (from + n) ws) j 0) ∙ get_or-drop (from + n) ws j 0

-- ---- words that are the same below n
pub SameBelow : (n : ℕ) → (ws ws' : List ℕ) → Type 0
SameBelow n ws ws' = (i : ℕ) → i < n → get_or ws' i 0 ≡ get_or ws i 0

pub set_below : (n : ℕ) (ws : List ℕ) (i v : ℕ) → n ≤ i → SameBelow n ws (set ws i v)
unfolding SameBelow
set_below n ws i v h j l = get_or-set_other ws i j v 0 (λ e. omega arith)

pub zeroed-below : (k : ℕ) (ws : List ℕ) (from n : ℕ) → from + n ≤ length ws → k ≤ from → SameBelow k ws (zeroed ws from n)
unfolding SameBelow
zeroed-below k ws from n h l j b = zeroed-before ws from n h j (omega arith)

pub below_both : (n : ℕ) (a b c : List ℕ) → SameBelow n a b → SameBelow n b c → SameBelow n a c
unfolding SameBelow
below_both n a b c p q i l = q i l ∙ p i l

pub own_same : (ws ws' : List ℕ) (d : ℕ) (own : Counters) → SameBelow (64 * d + 64) ws ws' → Own ws d own → Own ws' d own
unfolding SameBelow
own_same ws ws' d own s o r h = s (64 * d + r) (omega arith) ∙ o r h

pub waiting-same : (ls : List Line) (ps fs ws ws' : List ℕ) (d : ℕ) (gs : List (Frame Counters)) → SameBelow (64 * d) ws ws' → Waiting ls ps fs ws d gs → Waiting ls ps fs ws' d gs
unfolding SameBelow
waiting-same ls ps fs ws ws' zero [] s w = tt
waiting-same ls ps fs ws ws' zero (g ∷ gs) s w = w
waiting-same ls ps fs ws ws' (suc d) [] s w = w
waiting-same ls ps fs ws ws' (suc d) (g ∷ gs) s w = (
  record {
    function_is = w.0.function_is;
    at_is = w.0.at_is;
    inside = w.0.inside;
    own_is = own_same ws ws' d g.own (λ i l. s i (omega arith)) w.0.own_is;
  },
  waiting-same ls ps fs ws ws' d gs (λ i l. s i (omega arith)) w.1,
)

-- ---- a counter gets a value
pub own_put : (ws : List ℕ) (d r v : ℕ) (own : Counters) → 64 * d + r < length ws → Own ws d own → Own (with_counter ws d r v) d (put r v own)
own_put ws d r v own h o x l = by (eqb x r) refl
  where
    by : (b : Bool) → eqb x r ≡ b → get_or (set ws (64 * d + r) v) (64 * d + x) 0 ≡ cond b v (own x)
    by true e = ap (λ y. get_or (set ws (64 * d + r) v) (64 * d + y) 0) (eqb-true x r e) ∙ get_or-set_same ws (64 * d + r) v 0 h
    by false e = get_or-set_other ws (64 * d + r) (64 * d + x) v 0 (λ q. eqb-false x r e (omega arith)) ∙ o x l

-- ---- counters low to high get 0
module _ (ws : List ℕ) (d low high : ℕ) (own : Counters) (h : low ≤ high) (b : 64 * d + high < length ws) (o : Own ws d own) where
  cleared : List ℕ
  cleared = zeroed ws (64 * d + low) (high + 1 - low)

  fits : 64 * d + low + (high + 1 - low) ≤ length ws
  fits = omega arith

  clear_at : (x : ℕ) → x < 64 → (p : Bool) → leb low x ≡ p → (q : Bool) → leb x high ≡ q → get_or cleared (64 * d + x) 0 ≡ cond (p && q) 0 (own x)
  unfolding cleared
  clear_at x l false e q f = zeroed-before ws (64 * d + low) (high + 1 - low) fits (64 * d + x) (omega (arith, leb-false low x e)) ∙ o x l
  clear_at x l true e true f =
      let a = leb-true low x e in
      let c = leb-true x high f in
      ap (λ y. get_or cleared y 0) (let z : 64 * d + x ≡ 64 * d + low + (x - low) = omega arith in z)
      ∙ zeroed-inside ws (64 * d + low) (high + 1 - low) fits (x - low) (omega arith)
  clear_at x l true e false f =
      let a = leb-true low x e in
      let c = leb-false x high f in
      let z : 64 * d + x ≡ 64 * d + low + (high + 1 - low) + (x - (high + 1)) = omega arith in
      ap (λ y. get_or cleared y 0) z ∙ zeroed-after ws (64 * d + low) (high + 1 - low) fits (x - (high + 1)) ∙ ap (λ y. get_or ws y 0) (sym z) ∙ o x l

  pub own-clear : Own (zeroed ws (64 * d + low) (high + 1 - low)) d (clear_from low high own)
  unfolding cleared
  own-clear x l = clear_at x l (leb low x) refl (leb x high) refl

-- ---- a function opens
pub own_fresh : (ws : List ℕ) (d v : ℕ) → 64 * d + 64 ≤ length ws → Own (fresh_at ws d v) d (put 0 v clear)
own_fresh ws d v h =
    own_put (zeroed ws (64 * d) 64) d 0 v clear (omega (arith, length-zeroed ws (64 * d) 64 h)) (λ r l. zeroed-inside ws (64 * d) 64 h r l)

pub fresh-below : (ws : List ℕ) (d v k : ℕ) → 64 * d + 64 ≤ length ws → k ≤ 64 * d → SameBelow k ws (fresh_at ws d v)
fresh-below ws d v k h l =
    below_both k ws (zeroed ws (64 * d) 64) (fresh_at ws d v) (zeroed-below k ws (64 * d) 64 h l) (set_below k (zeroed ws (64 * d) 64) (64 * d + 0) v (omega arith))
