-- Rows that are put one behind the other. Assumes nothing.
use mathlib.Core.Path.{◌≡◌, refl, sym, ap, ◌∙◌}
use mathlib.Core.List.{List, [], ◌∷◌, ◌++◌}
use Prim.Native.Nat.{ℕ, suc, ◌+◌, ◌≤◌}
use native.Mathlib.Nat.{add-zero}
use native.Mathlib.Omega.{arith}
use lib.ListN.{length, set, take, drop, length-append}
use lib.Seq.{sets, length-sets, sets-eq, take_at}
use Rattle.rows.specs.declared.row.Row.{Row}
use Rattle.rows.specs.Row.{six, Added}

-- six stores are one row
pub stores : (k : ℕ) (m : List ℕ) (r : Row)
    → set (set (set (set (set (set m k r.kind) (k + 1) r.op) (k + 2) r.p) (k + 3) r.q) (k + 4) r.low) (k + 5) r.high
    ≡ sets m k (six r)
stores k m r =
    let a : k + 1 ≡ suc k = omega arith in
    let b : k + 2 ≡ suc (suc k) = omega arith in
    let c : k + 3 ≡ suc (suc (suc k)) = omega arith in
    let d : k + 4 ≡ suc (suc (suc (suc k))) = omega arith in
    let e : k + 5 ≡ suc (suc (suc (suc (suc k)))) = omega arith in
    rw (a, b, c, d, e)

sets-append : (xs ys l : List ℕ) (k : ℕ) → sets (sets l k xs) (k + length xs) ys ≡ sets l k (xs ++ ys)
sets-append [] ys l k = ap (λ i. sets l i ys) (add-zero k)
sets-append (x ∷ xs) ys l k =
    let q : k + suc (length xs) ≡ suc k + length xs = omega arith in
    ap (λ i. sets (sets (set l k x) (suc k) xs) i ys) q ∙ sets-append xs ys (set l k x) (suc k)

pub added_none : (rows : List ℕ) (at : ℕ) → Added [] rows rows at at
added_none rows at = record { to_is = sym (add-zero at); rows_are = refl }

pub added-both : (xs ys : List ℕ) {rows rows' rows'' : List ℕ} {at mid to : ℕ} → Added xs rows rows' at mid → Added ys rows' rows'' mid to
    → Added (xs ++ ys) rows rows'' at to
added-both xs ys {rows} {at = at} {mid = mid} a b =
    record {
      to_is = omega (arith, a.to_is, b.to_is, length-append xs ys);
      rows_are = b.rows_are ∙ ap (λ l. sets l mid ys) a.rows_are ∙ ap (λ i. sets (sets rows at xs) i ys) a.to_is ∙ sets-append xs ys rows at;
    }

pub added-length : (xs : List ℕ) {rows rows' : List ℕ} {at to : ℕ} → Added xs rows rows' at to → length rows' ≡ length rows
added-length xs {rows} {at = at} a = ap length a.rows_are ∙ length-sets rows at xs

pub added-front : (xs : List ℕ) {rows rows' : List ℕ} {to : ℕ} → Added xs rows rows' 0 to → length xs ≤ length rows → take to rows' ≡ xs
added-front xs {rows} {rows'} {to} a h =
    let q : length xs ≡ to = omega (arith, a.to_is) in
    ap (take to) (a.rows_are ∙ sets-eq xs rows 0 (omega arith)) ∙ take_at xs (drop (0 + length xs) rows) to q
